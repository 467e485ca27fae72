-- What holds of workloads, whichever they are.
use Rattle.std.specs.Prelude.{◌≢◌, AllPairs}
use Rattle.sa_spaces.specs.Workload.{WorkloadView, IsWorkload, IsBefore}

-- each eviction is before all that follow it, so none comes twice
abbrev pub EvictionsAreInOrder : Type 0
EvictionsAreInOrder = (w : WorkloadView) → IsWorkload w → AllPairs IsBefore w.evictions

abbrev pub EvictionsDiffer : Type 0
EvictionsDiffer = (w : WorkloadView) → IsWorkload w → AllPairs (λ a b. a ≢ b) w.evictions
