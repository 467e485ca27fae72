use Rattle.std.proofs.Common.{◌≡◌, ℕ, ◌≤◌, true, false, not, None, List, get_or, take, length, sym, ap, ◌∙◌, subst, arith}
use Rattle.std.specs.Option.{is_some}
use Rattle.sa_base.specs.declared.number.ProcNo.{ProcNo}
use Rattle.sa_base.specs.declared.limits.TheConstants.{MAX_EVENTS}
use Rattle.sa_core_model.specs.End.{end_of}
use Rattle.sa_core.specs.View.{machine}
use Rattle.sa_explore_runs.specs.Runs.{LeadTo}
use Rattle.sa_explore.proofs.Replays.{none-of, IsReady, ready-first, more-at, not-over, begun-of}
use Rattle.sa_explore.proofs.begin.do_lines.Goals as goal

pub loop-made-init : goal.loop-made-init
loop-made-init g c = record {
  within = omega arith;
  leads = c.reserve.ensures.machine ∙ c.requires.opens;
  budget = c.reserve.ensures.budget ∙ c.requires.budget;
}

pub turn-requires-clause-within : goal.turn-requires-clause-within
turn-requires-clause-within g c =
    λ lt lives. let level = (g.met.U.UserLevel g.world.𝓛 g.world.𝓜 g.world.𝓡 ((λ s x. x), (λ x. x), (λ x. x), λ x. x)) in
    let keyed = (g.met.U.Keyed g.world.𝓛 g.world.𝓜 g.world.𝓡 ((λ s x. x), (λ x. x), (λ x. x), λ x. x)) in
    let none : end_of g.U.UserLevel.calls c.loop-made.core.budget (machine c.loop-made.core) ≡ None = sym c.end.ensures ∙ none-of c.end.result (c.is_none.ensures ∙ ap not c.if-is_none.true) in
    (ready-first g.U.UserLevel.calls g.U.Keyed.plain g.U.Keyed.is_made keyed.ignores_numbers g.U.UserLevel.stands level.keeps c.args.workload.now c.ranges-2.ensures c.turns-turns.result.now c.loop-made.made (record { 0 = 0 }) (machine c.loop-made.core)
    c.loop-made-test.true (let few = c.turns-turns.ensures.few in omega arith) (c.turns-turns.ensures.range c.loop-made.made (record { 0 = 0 }) c.loop-made-test.true)
    c.loop-made.invariant.leads
    (ap (λ (n : ℕ). end_of g.U.UserLevel.calls n (machine c.loop-made.core)) (sym c.loop-made.invariant.budget) ∙ none)).can.within

pub turn-requires-clause-not_ended : goal.turn-requires-clause-not_ended
turn-requires-clause-not_ended g c =
    λ lt lives. sym c.end.ensures ∙ none-of c.end.result (c.is_none.ensures ∙ ap not c.if-is_none.true)

pub loop-made-preserved : goal.loop-made-preserved
loop-made-preserved g c =
    let level = (g.met.U.UserLevel g.world.𝓛 g.world.𝓜 g.world.𝓡 ((λ s x. x), (λ x. x), (λ x. x), λ x. x)) in
    let keyed = (g.met.U.Keyed g.world.𝓛 g.world.𝓜 g.world.𝓡 ((λ s x. x), (λ x. x), (λ x. x), λ x. x)) in
    let none : end_of g.U.UserLevel.calls c.loop-made.core.budget (machine c.loop-made.core) ≡ None = sym c.end.ensures ∙ none-of c.end.result (c.is_none.ensures ∙ ap not c.if-is_none.true) in
    let ready : IsReady g.U.UserLevel.calls (machine c.loop-made.core) (get_or c.turns-turns.result.now c.loop-made.made (record { 0 = 0 })) =
    ready-first g.U.UserLevel.calls g.U.Keyed.plain g.U.Keyed.is_made keyed.ignores_numbers g.U.UserLevel.stands level.keeps c.args.workload.now c.ranges-2.ensures c.turns-turns.result.now c.loop-made.made (record { 0 = 0 })
    (machine c.loop-made.core)
    c.loop-made-test.true (let few = c.turns-turns.ensures.few in omega arith) (c.turns-turns.ensures.range c.loop-made.made (record { 0 = 0 }) c.loop-made-test.true)
    c.loop-made.invariant.leads
    (ap (λ (n : ℕ). end_of g.U.UserLevel.calls n (machine c.loop-made.core)) (sym c.loop-made.invariant.budget) ∙ none) in
    record {
      within = (let below = c.loop-made-test.true in omega arith);
      leads = more-at g.U.UserLevel.calls c.args.workload.now c.turns-turns.result.now c.loop-made.made (record { 0 = 0 }) (machine c.loop-made.core)
          (machine c.turn.new.self) c.loop-made-test.true c.loop-made.invariant.leads ready c.in_ok-turn.ensures.ok;
      budget = c.turn.ensures.budget ∙ c.loop-made.invariant.budget;
    }

-- it stops before the last turn line only where the run has ended
pub returns-else-is_none-clause-begins : goal.returns-else-is_none-clause-begins
returns-else-is_none-clause-begins g c =
    let level = (g.met.U.UserLevel g.world.𝓛 g.world.𝓜 g.world.𝓡 ((λ s x. x), (λ x. x), (λ x. x), λ x. x)) in
    let keyed = (g.met.U.Keyed g.world.𝓛 g.world.𝓜 g.world.𝓡 ((λ s x. x), (λ x. x), (λ x. x), λ x. x)) in
    let w = c.args.workload.now in
    let turns : c.turns-turns.result.now ≡ w.turns = c.turns-turns.ensures.value in
    let m = machine c.loop-made.core in
    let lead : LeadTo g.U.UserLevel.calls w (take c.loop-made.made w.turns) m =
    subst (λ (ps : List ProcNo). LeadTo g.U.UserLevel.calls w (take c.loop-made.made ps) m) turns c.loop-made.invariant.leads in
    let within : c.loop-made.made ≤ length w.turns = subst (λ (ps : List ProcNo). c.loop-made.made ≤ length ps) turns c.loop-made.invariant.within in
    begun-of g.U.UserLevel.calls g.U.Keyed.plain g.U.Keyed.is_made keyed.ignores_numbers g.U.UserLevel.stands level.keeps w c.ranges-2.ensures c.loop-made.made m lead (λ goes.
    absurd (
    let none : end_of g.U.UserLevel.calls MAX_EVENTS m ≡ None = not-over g.U.UserLevel.calls g.U.Keyed.plain g.U.Keyed.is_made keyed.ignores_numbers g.U.UserLevel.stands level.keeps w c.ranges-2.ensures c.loop-made.made m within lead goes in
    let here : end_of g.U.UserLevel.calls c.loop-made.core.budget m ≡ None =
    ap (λ (n : ℕ). end_of g.U.UserLevel.calls n m) c.loop-made.invariant.budget ∙ none in
    let not_some : is_some c.end.result ≡ false = ap is_some (c.end.ensures ∙ here) in
    let some : is_some c.end.result ≡ true = c.is_none.ensures ∙ ap not c.if-is_none.false in
    cc))

pub returns-after-loop-made-clause-begins : goal.returns-after-loop-made-clause-begins
returns-after-loop-made-clause-begins g c =
    let level = (g.met.U.UserLevel g.world.𝓛 g.world.𝓜 g.world.𝓡 ((λ s x. x), (λ x. x), (λ x. x), λ x. x)) in
    let keyed = (g.met.U.Keyed g.world.𝓛 g.world.𝓜 g.world.𝓡 ((λ s x. x), (λ x. x), (λ x. x), λ x. x)) in
    let w = c.args.workload.now in
    let turns : c.turns-turns.result.now ≡ w.turns = c.turns-turns.ensures.value in
    let m = machine c.loop-made.core in
    let lead : LeadTo g.U.UserLevel.calls w (take c.loop-made.made w.turns) m =
    subst (λ (ps : List ProcNo). LeadTo g.U.UserLevel.calls w (take c.loop-made.made ps) m) turns c.loop-made.invariant.leads in
    begun-of g.U.UserLevel.calls g.U.Keyed.plain g.U.Keyed.is_made keyed.ignores_numbers g.U.UserLevel.stands level.keeps w c.ranges-2.ensures c.loop-made.made m lead (λ goes.
    subst (λ (ps : List ProcNo). length ps ≤ c.loop-made.made) turns c.loop-made-test.false)
