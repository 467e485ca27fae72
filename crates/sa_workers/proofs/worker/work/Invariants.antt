use Rattle.std.proofs.Common.{◌≡◌, ◌+◌, ◌-◌, ◌*◌, false, if◌then◌else◌}
use Rattle.sa_workers.specs.Worker.{HasWorked}
use Rattle.sa_workers.proofs.worker.work.Given as goal

abbrev pub invariant-loop-seat : goal.invariant-loop-seat
invariant-loop-seat g l = record {
  worked : HasWorked g.K.Named.workload l.quota l.burst l.fn.seat l.seat;
  entered : l.ahead ≡ false → l.seat.pending ≡ 0;
}

-- at least one of two entries makes an event
abbrev pub decreases-loop-seat : goal.decreases-loop-seat
decreases-loop-seat g l = 2 * (l.quota - l.seat.poller.account.count) + (if l.ahead then 1 else 0)
