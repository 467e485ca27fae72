use Rattle.std.proofs.Common.{ℕ, ◌+◌, List, refl, ap, subst, ◌∙◌}
use Rattle.std.proofs.lemmas.List.{take_all}
use Rattle.sa_base.specs.declared.number.ProcNo.{ProcNo}
use Rattle.sa_core_model.specs.End.{end_of}
use Rattle.sa_core_model.specs.Machine.{Machine}
use Rattle.sa_core.specs.View.{machine}
use Rattle.sa_explore_runs.specs.Runs.{LeadTo}
use Rattle.sa_explore.proofs.Replays.{ready-at, more-at}
use Rattle.sa_explore.proofs.runs.make_turns.Goals as goal

pub loop-p-init : goal.loop-p-init
loop-p-init g c = record {
  lead = c.requires.opens;
  workload = refl;
  event = ap (λ (m : Machine g.row.U.Denot g.row.U-Ctx.Denot). m.event) c.requires.opens;
  budget = c.requires.budget;
}

pub turn-requires-clause-within : goal.turn-requires-clause-within
turn-requires-clause-within g c = λ κs outlives.
    let now = c.loop-p.invariant in
    (ready-at g.U.UserLevel.calls (machine c.args.core.now).workload c.args.turns.now c.requires.can c.loop-p.p-index (record { 0 = 0 }) (machine c.loop-p.core)
    c.loop-p-test.true now.lead now.workload now.event).can.within

pub turn-requires-clause-not_ended : goal.turn-requires-clause-not_ended
turn-requires-clause-not_ended g c = λ κs outlives.
    let now = c.loop-p.invariant in
    let ready = ready-at g.U.UserLevel.calls (machine c.args.core.now).workload c.args.turns.now c.requires.can c.loop-p.p-index (record { 0 = 0 })
    (machine c.loop-p.core) c.loop-p-test.true now.lead now.workload now.event in
    ap (λ (n : ℕ). end_of g.U.UserLevel.calls n (machine c.loop-p.core)) now.budget ∙ ready.not_ended

pub loop-p-preserved : goal.loop-p-preserved
loop-p-preserved g c =
    let now = c.loop-p.invariant in
    let turned = c.in_ok-turn.ensures in
    let ready = ready-at g.U.UserLevel.calls (machine c.args.core.now).workload c.args.turns.now c.requires.can c.loop-p.p-index (record { 0 = 0 })
    (machine c.loop-p.core) c.loop-p-test.true now.lead now.workload now.event in
    record {
      lead = more-at g.U.UserLevel.calls (machine c.args.core.now).workload c.args.turns.now c.loop-p.p-index (record { 0 = 0 }) (machine c.loop-p.core)
          (machine c.turn.new.self) c.loop-p-test.true now.lead ready turned.ok;
      workload = turned.workload ∙ now.workload;
      event = turned.event ∙ ap (λ (n : ℕ). n + 1) now.event;
      budget = turned.budget ∙ now.budget;
    }

pub returns-clause-leads : goal.returns-clause-leads
returns-clause-leads g c =
    subst (λ (ps : List ProcNo). LeadTo g.U.UserLevel.calls (machine c.args.core.now).workload ps (machine c.loop-p.core))
    (take_all c.loop-p.p-index c.args.turns.now c.loop-p-test.false) c.loop-p.invariant.lead
