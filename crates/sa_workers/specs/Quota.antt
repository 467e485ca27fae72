-- How much of a budget is one processor's.
use Rattle.std.specs.Prelude.{ℕ, zero, suc, ◌+◌, ◌==◌, if◌then◌else◌}
use Rattle.sa_sched.specs.Order.{RoundRobin, processor_at}

-- how many of the first n events are processor p's by round robin
unfoldable pub quota_of : ℕ → ℕ → ℕ → ℕ
quota_of processors p zero = 0
quota_of processors p (suc n) = quota_of processors p n + (if processor_at RoundRobin processors (n + 1) == p then 1 else 0)
