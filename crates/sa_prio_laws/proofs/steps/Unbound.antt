-- A life whose steps are free: it is out; or it owes nothing, and no pair of its space exists.
use Rattle.std.proofs.Common.{◌≡◌, ◌⊎◌, false, inl, inr}
use Rattle.sa_base.specs.declared.record.Record.{Record}
use Rattle.sa_spaces.specs.Workload.{WorkloadView}
use Rattle.sa_laws.specs.Demand.{IsFree, OwesNothing}
use Rattle.sa_laws.specs.Life.{Life}
use Rattle.sa_laws.specs.Readings.{Readings}
use Rattle.sa_ranks.specs.Locks.{IsUnurged}
use Rattle.sa_ranks.specs.Pairs.{has_pair}

abbrev pub IsUnbound : WorkloadView → Readings → Life → Type 0
IsUnbound w r life = (life.inside ≡ false) ⊎ (OwesNothing w r life × (has_pair w r life.space ≡ false))

pub is-free : (w : WorkloadView) (r : Readings) (life : Life) (x : Record) → IsUnbound w r life → IsFree w r life x
is-free w r life x (inl out) = record { free = λ bound. inl out }
is-free w r life x (inr both) = record { free = λ bound. inr both.0 }

pub is-unurged : (w : WorkloadView) (r : Readings) (life : Life) (x : Record) → IsUnbound w r life → IsUnurged w r life x
is-unurged w r life x (inl out) = record { unurged = λ bound. inl out }
is-unurged w r life x (inr both) = record { unurged = λ bound. inr both.1 }
