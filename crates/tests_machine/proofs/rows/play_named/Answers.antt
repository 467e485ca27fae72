use Rattle.std.proofs.Common.{◌∙◌, List, sym, ap, subst}
use Rattle.sa_seat.specs.Seat.{SeatView, AreSeats}
use Rattle.sa_workers.proofs.Seated.{written-back}
use Rattle.tests_machine.proofs.rows.play_named.Goals as goal

pub do_acts-done-requires-after_bounds : goal.do_acts-done-requires-after_bounds
do_acts-done-requires-after_bounds g c κs within =
    subst (λ (l : List SeatView). AreSeats g.K.Named.workload.processors l) (sym c.as_mut_slice.ensures.value)
    (c.in_ok-machine.ensures.0, λ p s at. ap (λ (x : SeatView). x.poller.proc.0) (c.in_ok-machine.ensures.1 p s at))

pub close-requires-after_bounds : goal.close-requires-after_bounds
close-requires-after_bounds g c κs within =
    subst (λ (l : List SeatView). AreSeats g.K.Named.workload.processors l)
    (sym (written-back c.in_ok-machine.seats.len c.do_acts-done.new.seats c.in_ok-machine.seats.items c.in_ok-machine.seats.ok.0
    (c.do_acts-done.ensures.0 ∙ sym c.in_ok-machine.ensures.0)))
    c.do_acts-done.ensures
