use Rattle.std.proofs.Common.{◌≡◌, ◌-◌, length}
use Rattle.sa_circles.specs.Circles.{next_of, rest_from}
use Rattle.sa_circles.proofs.CircleLemmas.{with_front}
use Rattle.sa_circles.proofs.circles.rest_of.Given as goal

-- the threads so far, and what comes after them in the steps that are left, are the whole
abbrev pub invariant-loop-step : goal.invariant-loop-step
invariant-loop-step l =
    with_front l.rest.items (rest_from (next_of l.fn.waits l.fn.s) l.fn.home l.t (length l.fn.waits - l._step))
    ≡ rest_from (next_of l.fn.waits l.fn.s) l.fn.home l.fn.home (length l.fn.waits)
