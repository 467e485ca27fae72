-- The texts that are accepted: the trace texts of items in order, which fit their types.
use Rattle.std.specs.Prelude.{◌≡◌, ℕ, ◌^◌, ◌<◌, ◌≤◌, List, [], ◌∷◌, All, Option, Some, None}
use Rattle.sa_base.specs.declared.record.Item.{Item}
use Rattle.sa_trace.specs.Parts.{FitTheKind, parts_of}
use Rattle.sa_trace.specs.TraceText.{counts_of, trace_text}
use Rattle.sa_trace.specs.Line.{last_of, least_event}
use Rattle.sa_trace.specs.Reading.{Told}

-- each number of an item fits its type
pub record FitsItem (item : Item) : Type 0 where
  pub event : item.event < 2 ^ 64
  pub proc : item.proc.0 < 2 ^ 16
  pub what : FitTheKind (parts_of item.what)

-- an item may follow another: its event is a later one, or the same, on the same processor
abbrev pub MayFollow : Option Item → Item → Type 0
MayFollow None item = Unit {0}
MayFollow (Some last) item = (last.event ≤ item.event) × (item.event ≡ last.event → item.proc ≡ last.proc)

-- each item may follow the one before it, and the first this one
abbrev pub InOrder : Option Item → List Item → Type 0
InOrder last [] = Unit {0}
InOrder last (item ∷ items) = MayFollow last item × InOrder (Some item) items

-- the items are in order, there are at least as many events as the last one says, and each number fits its type
pub record IsAccepted (t : Told) : Type 0 where
  pub fit : All FitsItem t.items
  pub in_order : InOrder None t.items
  pub enough : least_event (last_of t.items) ≤ t.events
  pub events : t.events < 2 ^ 64
  pub few : All (λ n. n < 2 ^ 64) (counts_of t.items)

-- the text of these items, this end and this number of events, and accepted
pub record IsTextOf (text : List ℕ) (t : Told) : Type 0 where
  pub printed : text ≡ trace_text t.items t.end t.events
  pub accepted : IsAccepted t
