-- The opening and the numbering of events.
use Rattle.std.specs.Prelude.{◌≡◌, ◌≢◌, ◌<◌, List, [], ◌++◌, map}
use Rattle.sa_base.specs.declared.record.Record.{Record}
use Rattle.sa_spaces.specs.Workload.{WorkloadView}
use Rattle.sa_assign.specs.Reaim.{proc_no, records_of}
use Rattle.sa_laws.specs.Event.{Event}
use Rattle.sa_laws.specs.Readings.{Readings, opening_readings}
use Rattle.sa_laws.specs.History.{after_records}
use Rattle.sa_laws.specs.Closing.{want_one, spaces_of, aims_due}

-- event 0: each space wants one processor, and after that comes the closing; nothing is untold then, so no line is
-- raised but for an aim
abbrev pub first_wants : WorkloadView → List Record
first_wants w = map want_one (spaces_of w)

abbrev pub opening_records : WorkloadView → List Record
opening_records w =
    let wanting = after_records w 0 (proc_no 0) (opening_readings w) (first_wants w) in
    first_wants w ++ records_of 0 wanting.lines (aims_due w 0 wanting)

abbrev pub opening_event : WorkloadView → Event
opening_event w = record { number = 0; proc = proc_no 0; records = opening_records w }

-- The opening and the numbering: the events are numbered from 0 on, each has a processor of the machine and some
-- record, and event 0 is the opening.
pub record IsNumbered (w : WorkloadView) (r : Readings) (e : Event) : Type 0 where
  pub number : e.number ≡ r.number
  pub proc : e.proc.0 < w.processors
  pub some : e.records ≢ []
  pub opening : e.number ≡ 0 → e ≡ opening_event w
