-- Whose turn is next in a session.
use Rattle.std.specs.Prelude.{ℕ, ◌+◌}
use Rattle.sa_base.specs.declared.number.ProcNo.{ProcNo}
use Rattle.sa_spaces.specs.Workload.{WorkloadView}
use Rattle.sa_assign.specs.Reaim.{proc_no}
use Rattle.sa_sched.specs.Order.{Order, processor_at}

-- the processor of the event after that many
abbrev pub proc_after : WorkloadView → Order → ℕ → ProcNo
proc_after w order events = proc_no (processor_at order w.processors (events + 1))
