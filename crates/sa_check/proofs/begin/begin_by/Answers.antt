use Rattle.sa_laws.specs.Upcalls.{InterruptIsNext}
use Rattle.sa_laws.specs.Turns.{TurnsAreTaken}
use Rattle.sa_ranks.specs.Packages.{rules_named}
use Rattle.sa_check_moment.specs.Seen.{seen}
use Rattle.sa_check.specs.Items.{told_event}
use Rattle.sa_check.proofs.FoundLemmas.{at-beginning}
use Rattle.sa_check.proofs.begin.begin_by.Goals as goal

pub returns-clause-found : goal.returns-clause-found
returns-clause-found c =
    let m = seen c.args.moment.now in
    let next = seen c.begin.new.self in
    let e = told_event c.args.event.now in
    record {
      demand_announced = c.demand_is_announced-demand_announced.ensures;
      order_kept = c.order_is_kept-order_kept.ensures e.number;
      interrupt_next = at-beginning (λ level. InterruptIsNext) m next e _ c.begin.ensures (λ begins. c.interrupt_is_next.ensures m.readings begins c.requires.raised);
      turns_taken = at-beginning (λ level. TurnsAreTaken (rules_named level).Steps) m next e _ c.begin.ensures
          (λ begins. c.turns_are_taken.ensures m.readings begins c.requires.raised);
      locks_kept = at-beginning (λ level. (rules_named level).Locks) m next e _ c.begin.ensures
          (λ begins. c.locks_are_kept.ensures m.readings begins);
      lines = c.requires.lines;
    }
