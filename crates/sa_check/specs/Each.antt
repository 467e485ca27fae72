-- What is due of one space.
use Rattle.std.specs.Prelude.{if◌then◌else◌, Option, Some, None}
use Rattle.sa_base.specs.declared.number.SpaceNo.{SpaceNo}
use Rattle.sa_base.specs.declared.record.Record.{Record}
use Rattle.sa_spaces.specs.Workload.{WorkloadView}
use Rattle.sa_laws.specs.Readings.{Readings}
use Rattle.sa_laws.specs.Closing.{must_want, want_one, must_interrupt, line_due}

abbrev pub want_for : Readings → SpaceNo → Option Record
want_for r s = if must_want r s then Some (want_one s) else None

abbrev pub line_for : WorkloadView → Readings → SpaceNo → Option Record
line_for w r s = if must_interrupt w r s then line_due w r s else None
