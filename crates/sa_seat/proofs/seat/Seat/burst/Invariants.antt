use Rattle.sa_seat.specs.Seat.{IsCode}
use Rattle.sa_seat.proofs.Bursts.{Bursting}
use Rattle.sa_seat.proofs.seat.Seat.burst.Given as goal

abbrev pub invariant-loop-done : goal.invariant-loop-done
invariant-loop-done g l = record {
  burst : Bursting g.K.Named.workload l.fn.self l.self l._done;
  code : IsCode g.K.Named.workload l.code l.fn.self.copy;
}
