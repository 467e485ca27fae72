-- The events of a trace's items.
use Rattle.std.specs.Prelude.{◌==◌, ◌&&◌, Bool}
use Rattle.sa_base.specs.declared.record.Record.{Record}
use Rattle.sa_base.specs.declared.record.Item.{Item}
use Rattle.sa_laws.specs.Event.{Event}
use Rattle.sa_check_moment.specs.Seen.{event}
use Rattle.sa_check.specs.declared.event.TraceEvent.{TraceEvent}

-- an item is of one event with another
abbrev pub is_with : Item → Item → Bool
is_with first x = first.event == x.event && first.proc.0 == x.proc.0

abbrev pub what_of : Item → Record
what_of x = x.what

-- an event of a trace as the definitions see it
abbrev pub told_event : TraceEvent → Event
told_event e = event e.number e.proc e.records.now
