use Rattle.std.proofs.Common.{◌≡◌, ◌-◌, Some, None, refl, sym, ap, ◌∙◌, subst}
use Rattle.sa_lemmas.proofs.Options.{some-is, not_some-is}
use Rattle.sa_lemmas.proofs.Results.{on_err}
use Rattle.sa_core.specs.View.{machine}
use Rattle.sa_core_model.specs.End.{end_of}
use Rattle.sa_debug.specs.Session.{first, IsNext, Turns, RunsTo}
use Rattle.sa_debug.specs.OverMachines.{SessionView, over_machines, session}
use Rattle.sa_debug.proofs.Keeping.{same-end, few-processors}
use Rattle.sa_debug.proofs.Running.{runs-on, comes-on, comes-no_more, runs-over, runs-ended, next-free, free-on}
use Rattle.sa_debug.proofs.session.Session.go_round.Goals as goal
use Rattle.sa_debug.proofs.session.Session.go_round.Goals.{else-loop-turn-test, then-loop-turn-test+then-has_ended}

pub returns-in_err-turn-clause-err : goal.returns-in_err-turn-clause-err
returns-in_err-turn-clause-err g c =
    on_err c.from_residual.result (c.loop-turn.invariant.so_far (session c.turn.new.self)
    (comes-no_more (over_machines g.U.UserLevel.calls c.args.self.now.core.budget) c.args.turns c.loop-turn._turn (session c.loop-turn.self)
    (session c.turn.new.self) c.loop-turn-test.true c.in_err-turn.ensures.err))

pub loop-turn-preserved : goal.loop-turn-preserved
loop-turn-preserved g c =
    let s = session c.loop-turn.self in
    let after = session c.turn.new.self in
    let core : c.self.inside.core ≡ c.loop-turn.self.core = ap (λ (v : SessionView g.row.U.Denot g.row.U-Ctx.Denot). v.core) c.self.view_is in
    let few = few-processors g.U.UserLevel.calls c.self.inside.core c.loop-turn.self.core c.self.inside.follower c.self.invariant core in
    let on : end_of g.U.UserLevel.calls c.args.self.now.core.budget (machine c.loop-turn.self.core) ≡ None =
    sym (same-end g.U.UserLevel.calls c.self.inside.core c.loop-turn.self.core c.args.self.now.core.budget core c.loop-turn.invariant.budget)
    ∙ not_some-is (end_of g.U.UserLevel.calls c.self.inside.core.budget (machine c.self.inside.core)) (sym c.has_ended.ensures ∙ c.if-has_ended.false) in
    let next : IsNext (over_machines g.U.UserLevel.calls c.args.self.now.core.budget) s (record { 0 = c.first.result }) =
    next-free (over_machines g.U.UserLevel.calls c.args.self.now.core.budget) s (record { 0 = c.first.result }) c.loop-turn.invariant.free
    (subst (λ n. c.first.result ≡ first (over_machines g.U.UserLevel.calls n) (machine c.loop-turn.self.core)) c.loop-turn.invariant.budget
    c.first.ensures.first) c.first.ensures.below few on in
    let turns : Turns (over_machines g.U.UserLevel.calls c.args.self.now.core.budget) s (record { 0 = c.first.result }) after =
    subst (λ n. Turns (over_machines g.U.UserLevel.calls n) s (record { 0 = c.first.result }) after) c.loop-turn.invariant.budget c.in_ok-turn.ensures.ok in
    record {
      budget = c.turn.ensures.budget ∙ c.loop-turn.invariant.budget;
      workload = c.turn.ensures.workload ∙ c.loop-turn.invariant.workload;
      free = free-on (over_machines g.U.UserLevel.calls c.args.self.now.core.budget) s after (record { 0 = c.first.result }) turns c.loop-turn.invariant.free;
      runs = λ t reply runs. c.loop-turn.invariant.runs t reply
          (runs-on (over_machines g.U.UserLevel.calls c.args.self.now.core.budget) c.args.turns c.loop-turn._turn s s after t (record { 0 = c.first.result })
          reply c.loop-turn-test.true next refl turns runs);
      so_far = λ t comes. c.loop-turn.invariant.so_far t
          (comes-on (over_machines g.U.UserLevel.calls c.args.self.now.core.budget) c.args.turns c.loop-turn._turn s s after t
          (record { 0 = c.first.result }) c.loop-turn-test.true next refl turns comes);
    }

pub returns-clause-ok : goal.returns-clause-ok
returns-clause-ok g c =
    let s = session c.loop-turn.self in
    let told : RunsTo (over_machines g.U.UserLevel.calls c.args.self.now.core.budget) 0 s s c.told_event.result =
    subst (λ n. RunsTo (over_machines g.U.UserLevel.calls n) 0 s s c.told_event.result) c.loop-turn.invariant.budget c.told_event.ensures in
    c.loop-turn.invariant.runs s c.told_event.result (elim c.loop-turn-test.branch [
      | else-loop-turn-test w ↦
          runs-over (over_machines g.U.UserLevel.calls c.args.self.now.core.budget) c.args.turns c.loop-turn._turn s s c.told_event.result
          w.loop-turn-test.false told
      | then-loop-turn-test+then-has_ended w ↦
          let core : w.self.inside.core ≡ c.loop-turn.self.core = ap (λ (v : SessionView g.row.U.Denot g.row.U-Ctx.Denot). v.core) w.self.view_is in
          runs-ended (over_machines g.U.UserLevel.calls c.args.self.now.core.budget) (c.args.turns - c.loop-turn._turn) s c.told_event.result
          (λ on.
          let some = some-is (end_of g.U.UserLevel.calls w.self.inside.core.budget (machine w.self.inside.core)) (sym w.has_ended.ensures ∙ w.if-has_ended.true) in
          let both : Some some.0 ≡ None =
          sym some.1 ∙ same-end g.U.UserLevel.calls w.self.inside.core c.loop-turn.self.core c.args.self.now.core.budget core c.loop-turn.invariant.budget
          ∙ on in
          cc) told
    ])
