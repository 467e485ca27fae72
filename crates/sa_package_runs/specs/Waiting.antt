-- What is said of the threads that are left where a run is stuck.
use Rattle.std.specs.Prelude.{ℕ}
use Rattle.sa_spaces.specs.Workload.{WorkloadView, IsWorkload}
use Rattle.sa_abstract.specs.Calls.{Calls}
use Rattle.sa_debug.specs.Stuck.{StuckThreadsWait}

-- wherever a run of a workload is stuck, each thread that was made and is not done waits
abbrev pub LeftThreadsWait : {U C : Type 0} → Calls U C → Type 0
LeftThreadsWait f = (w : WorkloadView) (budget : ℕ) → IsWorkload w → StuckThreadsWait f w budget
