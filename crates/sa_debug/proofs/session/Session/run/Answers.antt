use Rattle.std.proofs.Common.{◌≡◌, ◌-◌, ◌⊎◌, refl, ap, ◌∙◌, subst, arith}
use Rattle.sa_lemmas.proofs.Results.{on_err}
use Rattle.sa_core.specs.View.{CoreView, machine}
use Rattle.sa_debug.specs.Session.{IsNext, SaysEnded, Stops, Turns, RunsTo, RunsSoFar}
use Rattle.sa_debug.specs.OverMachines.{over_machines, session}
use Rattle.sa_debug.proofs.Running.{runs-on, comes-on, runs-no_more, comes-no_more, runs-over}
use Rattle.sa_debug.proofs.session.Session.run.Goals as goal

pub loop-turn-init : goal.loop-turn-init
loop-turn-init g c =
    let all : c.args.turns - 0 ≡ c.args.turns = omega arith in
    record {
      budget = refl;
      workload = refl;
      runs = λ t reply runs.
          subst (λ n. RunsTo (over_machines g.U.UserLevel.calls c.args.self.now.core.budget) n (session c.args.self.now) t reply) all runs;
      so_far = λ t comes.
          subst (λ n. RunsSoFar (over_machines g.U.UserLevel.calls c.args.self.now.core.budget) n (session c.args.self.now) t) all comes;
    }

pub returns-in-Err-clause-ok : goal.returns-in-Err-clause-ok
returns-in-Err-clause-ok g c =
    let s = session c.loop-turn.self in
    let last = session c.next_turn.new.self in
    c.loop-turn.invariant.runs last c.in-Err.reply
    (runs-no_more (over_machines g.U.UserLevel.calls c.args.self.now.core.budget) c.args.turns c.loop-turn._turn s last c.in-Err.reply c.loop-turn-test.true
    (subst (λ n. SaysEnded (over_machines g.U.UserLevel.calls n) s last c.in-Err.reply ⊎ Stops (over_machines g.U.UserLevel.calls n) s last c.in-Err.reply)
    c.loop-turn.invariant.budget c.in-Err.ensures.next))

pub returns-in-Err-clause-budget : goal.returns-in-Err-clause-budget
returns-in-Err-clause-budget g c = ap (λ (v : CoreView g.row.U.Denot g.row.U-Ctx.Denot). v.budget) c.in-Err.ensures.core ∙ c.loop-turn.invariant.budget

pub returns-in-Err-clause-workload : goal.returns-in-Err-clause-workload
returns-in-Err-clause-workload g c =
    ap (λ (v : CoreView g.row.U.Denot g.row.U-Ctx.Denot). (machine v).workload) c.in-Err.ensures.core ∙ c.loop-turn.invariant.workload

pub returns-in_err-turn-in-Ok-clause-err : goal.returns-in_err-turn-in-Ok-clause-err
returns-in_err-turn-in-Ok-clause-err g c =
    on_err c.from_residual.result (c.loop-turn.invariant.so_far (session c.turn.new.self)
    (comes-no_more (over_machines g.U.UserLevel.calls c.args.self.now.core.budget) c.args.turns c.loop-turn._turn (session c.loop-turn.self)
    (session c.turn.new.self) c.loop-turn-test.true (c.in_err-turn-in-Ok.ensures.err ∙ c.in-Ok.ensures.next.1)))

pub returns-in_err-turn-in-Ok-clause-budget : goal.returns-in_err-turn-in-Ok-clause-budget
returns-in_err-turn-in-Ok-clause-budget g c =
    c.turn.ensures.budget ∙ ap (λ (v : CoreView g.row.U.Denot g.row.U-Ctx.Denot). v.budget) c.in-Ok.ensures.core ∙ c.loop-turn.invariant.budget

pub returns-in_err-turn-in-Ok-clause-workload : goal.returns-in_err-turn-in-Ok-clause-workload
returns-in_err-turn-in-Ok-clause-workload g c =
    c.turn.ensures.workload ∙ ap (λ (v : CoreView g.row.U.Denot g.row.U-Ctx.Denot). (machine v).workload) c.in-Ok.ensures.core ∙ c.loop-turn.invariant.workload

pub loop-turn-preserved : goal.loop-turn-preserved
loop-turn-preserved g c =
    let s = session c.loop-turn.self in
    let between = session c.next_turn.new.self in
    let after = session c.turn.new.self in
    let kept : c.next_turn.new.self.core.budget ≡ c.args.self.now.core.budget =
    ap (λ (v : CoreView g.row.U.Denot g.row.U-Ctx.Denot). v.budget) c.in-Ok.ensures.core ∙ c.loop-turn.invariant.budget in
    let next : IsNext (over_machines g.U.UserLevel.calls c.args.self.now.core.budget) s c.in-Ok.p =
    subst (λ n. IsNext (over_machines g.U.UserLevel.calls n) s c.in-Ok.p) c.loop-turn.invariant.budget c.in-Ok.ensures.next.0 in
    let turns : Turns (over_machines g.U.UserLevel.calls c.args.self.now.core.budget) between c.in-Ok.p after =
    subst (λ n. Turns (over_machines g.U.UserLevel.calls n) between c.in-Ok.p after) kept c.in_ok-turn-in-Ok.ensures.ok in
    record {
      budget = c.turn.ensures.budget ∙ kept;
      workload = c.turn.ensures.workload ∙ ap (λ (v : CoreView g.row.U.Denot g.row.U-Ctx.Denot). (machine v).workload) c.in-Ok.ensures.core
          ∙ c.loop-turn.invariant.workload;
      runs = λ t reply runs. c.loop-turn.invariant.runs t reply
          (runs-on (over_machines g.U.UserLevel.calls c.args.self.now.core.budget) c.args.turns c.loop-turn._turn s between after t c.in-Ok.p reply
          c.loop-turn-test.true next c.in-Ok.ensures.next.1 turns runs);
      so_far = λ t comes. c.loop-turn.invariant.so_far t
          (comes-on (over_machines g.U.UserLevel.calls c.args.self.now.core.budget) c.args.turns c.loop-turn._turn s between after t c.in-Ok.p
          c.loop-turn-test.true next c.in-Ok.ensures.next.1 turns comes);
    }

pub returns-clause-ok : goal.returns-clause-ok
returns-clause-ok g c =
    let s = session c.loop-turn.self in
    c.loop-turn.invariant.runs s c.told_event.result
    (runs-over (over_machines g.U.UserLevel.calls c.args.self.now.core.budget) c.args.turns c.loop-turn._turn s s c.told_event.result c.loop-turn-test.false
    (subst (λ n. RunsTo (over_machines g.U.UserLevel.calls n) 0 s s c.told_event.result) c.loop-turn.invariant.budget c.told_event.ensures))
