use Rattle.std.proofs.Common.{◌≡◌, ◌++◌}
use Rattle.sa_laws.specs.State.{space_at}
use Rattle.sa_waits.specs.Waits.{all_below, waiting}
use Rattle.sa_waits.proofs.threads.push_space.Given as goal

abbrev pub invariant-loop-t : goal.invariant-loop-t
invariant-loop-t l = l.waits.items ≡ l.initial.waits.items ++ all_below (waiting l.s (space_at l.replay.state l.s)) l.t
