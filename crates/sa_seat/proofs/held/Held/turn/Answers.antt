use Rattle.std.proofs.Common.{sym, ap, ◌∙◌, rules}
use Rattle.sa_core_model.specs.End.{local_on}
use Rattle.sa_core.specs.View.{machine}
use Rattle.sa_seat.specs.Seat.{SeatView, renewed}
use Rattle.sa_seat.proofs.held.Held.turn.Goals as goal

pub tell_end-requires-clause-end : goal.tell_end-requires-clause-end
tell_end-requires-clause-end g c κs within = search rules

pub dropped-requires-clause-not_ended : goal.dropped-requires-clause-not_ended
dropped-requires-clause-not_ended g c κs within = search rules

pub make_events-requires-clause-not_ended : goal.make_events-requires-clause-not_ended
make_events-requires-clause-not_ended g c κs within = search rules

pub returns-in-Some-clause-ok : goal.returns-in-Some-clause-ok
returns-in-Some-clause-ok g c = c.tell_end.ensures

pub returns-in-Some-dropped-clause-ok : goal.returns-in-Some-dropped-clause-ok
returns-in-Some-dropped-clause-ok g c = record {
  answers = c.in-Some-dropped.ensures.cause;
  seat_is = c.renew.ensures
      ∙ ap (λ (s : SeatView). renewed (local_on g.U.UserLevel.calls (machine c.args.self.now.core) c.args.seat.now.poller.proc) s)
      (sym c.in-Some-dropped.ensures.uncredited);
}

pub returns-clause-ok : goal.returns-clause-ok
returns-clause-ok g c = c.in_ok-make_events.ensures.made
