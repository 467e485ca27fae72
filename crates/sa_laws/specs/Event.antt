-- A history is a list of events, oldest first. An event is one turn of a processor, with its records in order.
use Rattle.std.specs.Prelude.{ℕ, ◌==◌, ◌&&◌, Bool, if◌then◌else◌, List, [], ◌∷◌, ◌++◌}
use Rattle.sa_base.specs.declared.number.ProcNo.{ProcNo}
use Rattle.sa_base.specs.declared.record.Record.{Record}
use Rattle.sa_base.specs.declared.record.Item.{Item}
use Rattle.sa_base.specs.Items.{items_at}

pub record Event : Type 0 where
  pub number : ℕ
  -- the processor whose turn it is
  pub proc : ProcNo
  pub records : List Record

-- the items of a history, in order: the flat trace
abbrev pub items_of : List Event → List Item
items_of [] = []
items_of (e ∷ es) = items_at e.number e.proc e.records ++ items_of es

-- the history of a flat trace: items that follow one another with one number and one processor are one event
abbrev pub event_of : Item → Event
event_of x = record { number = x.event; proc = x.proc; records = x.what ∷ [] }

abbrev pub is_of_event : Item → Event → Bool
is_of_event x e = x.event == e.number && x.proc.0 == e.proc.0

abbrev pub before_events : Item → List Event → List Event
before_events x [] = event_of x ∷ []
before_events x (e ∷ es) = if is_of_event x e then record e { records = x.what ∷ e.records } ∷ es else event_of x ∷ e ∷ es

abbrev pub events_of : List Item → List Event
events_of [] = []
events_of (x ∷ xs) = before_events x (events_of xs)
