use Rattle.std.proofs.Common.{rules, arith, ◌≡◌, ℕ, ◌<◌, ◌≤◌, None, sym, ap, subst, inr}
use Rattle.sa_sched.specs.Kind.{order_of}
use Rattle.sa_sched.specs.Turns.{start, turned_often}
use Rattle.sa_spaces.specs.Workload.{WorkloadView}
use Rattle.sa_core_model.specs.End.{end_of}
use Rattle.sa_core_model.specs.Run.{CanTurn}
use Rattle.sa_core.specs.View.{machine}
use Rattle.sa_core.proofs.CoreLemmas.{goes-on}
use Rattle.sa_run.specs.Run.{TurnsTo}
use Rattle.sa_run.proofs.Chain.{one-more, schedule-more}
use Rattle.sa_run.proofs.turns.run.Goals as goal

pub loop-end-smaller : goal.loop-end-smaller
loop-end-smaller g c =
    let none : end_of g.U.UserLevel.calls c.loop-end.core.budget (machine c.loop-end.core) ≡ None = search rules in
    let within : (machine c.loop-end.core).event ≤ c.loop-end.core.budget = omega (arith, c.loop-end.invariant.within, c.loop-end.invariant.budget) in
    let below : (machine c.loop-end.core).event < c.loop-end.core.budget =
    goes-on g.U.UserLevel.calls c.loop-end.core.budget (machine c.loop-end.core) none within in
    omega (arith, below, c.loop-end.invariant.budget, c.in-Ok-turn.ensures.event)

pub loop-end-preserved : goal.loop-end-preserved
loop-end-preserved g c =
    let none : end_of g.U.UserLevel.calls c.loop-end.core.budget (machine c.loop-end.core) ≡ None = search rules in
    let within : (machine c.loop-end.core).event ≤ c.loop-end.core.budget = omega (arith, c.loop-end.invariant.within, c.loop-end.invariant.budget) in
    let below : (machine c.loop-end.core).event < c.loop-end.core.budget =
    goes-on g.U.UserLevel.calls c.loop-end.core.budget (machine c.loop-end.core) none within in
    let open_still : end_of g.U.UserLevel.calls c.args.budget (machine c.loop-end.core) ≡ None =
    subst (λ (b : ℕ). end_of g.U.UserLevel.calls b (machine c.loop-end.core) ≡ None) c.loop-end.invariant.budget none in
    let can : CanTurn g.U.UserLevel.calls (machine c.loop-end.core) c.next.result =
    record {
      within = omega (
        arith,
        c.next.ensures.among,
        c.loop-end.invariant.processors,
        ap
            (λ (w : WorkloadView). w.processors) c.loop-end.invariant.workload,
      );
      event = omega (arith, below, c.loop-end.invariant.budget, c.requires.few);
    } in
    let some : 1 ≤ c.args.workload.processors = omega (arith, c.processors.ensures.some, c.processors.ensures.value) in
    record {
      turns =
          subst (λ (n : ℕ). TurnsTo g.U.UserLevel.calls c.args.workload (order_of c.args.kind) c.args.budget n (machine c.turn.new.self))
          (sym c.in-Ok-turn.ensures.event)
          (one-more g.U.UserLevel.calls c.args.workload (order_of c.args.kind) c.args.budget (machine c.loop-end.core).event (machine c.loop-end.core)
          (machine c.turn.new.self)
          c.loop-end.schedule c.next.result c.turns_are_in_order.ensures some c.loop-end.invariant.schedule c.next.ensures.processor
          c.loop-end.invariant.turns open_still (can, c.in-Ok-turn.ensures.ok));
      schedule = subst (λ (n : ℕ). c.next.new.self ≡ turned_often (start (order_of c.args.kind) c.args.workload.processors) n) (sym c.in-Ok-turn.ensures.event)
          (schedule-more (order_of c.args.kind) c.args.workload.processors
          (machine c.loop-end.core).event c.loop-end.schedule c.next.new.self c.loop-end.invariant.schedule c.next.ensures.turned);
      processors = search rules;
      workload = search rules;
      budget = search rules;
      within = omega (arith, below, c.loop-end.invariant.budget, c.in-Ok-turn.ensures.event);
    }

pub returns-in_default-turn-clause-err : goal.returns-in_default-turn-clause-err
returns-in_default-turn-clause-err g c =
    let none : end_of g.U.UserLevel.calls c.loop-end.core.budget (machine c.loop-end.core) ≡ None = search rules in
    let unended : end_of g.U.UserLevel.calls c.args.budget (machine c.loop-end.core) ≡ None =
    subst (λ (b : ℕ). end_of g.U.UserLevel.calls b (machine c.loop-end.core) ≡ None) c.loop-end.invariant.budget none in
    inr (record {
      so_far = record {
        events = (machine c.loop-end.core).event;
        machine = machine c.loop-end.core;
        turns = c.loop-end.invariant.turns;
        shows = search rules;
      };
      unended = unended;
    })
