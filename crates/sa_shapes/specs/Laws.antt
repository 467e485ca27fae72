-- What holds of every picture.
use Rattle.std.specs.Prelude.{◌≡◌, ◌≢◌, ℕ, ◌+◌, ◌<◌, ◌≤◌, true, ◌&&◌, List, [], ◌∷◌, length, take, slice_get, Contains, count_by, Option, Some, None}
use Rattle.sa_base.specs.declared.number.ProcNo.{ProcNo}
use Rattle.sa_base.specs.declared.record.Item.{Item}
use Rattle.sa_shapes.specs.declared.shape.Mark.{Mark}
use Rattle.sa_shapes.specs.declared.shape.Shape.{Shape}
use Rattle.sa_shapes.specs.declared.shape.Shape.TheVariants as shape
use Rattle.sa_shapes.specs.declared.shape.Shown.{Shown}
use Rattle.sa_shapes.specs.declared.shape.Stretch.{Stretch}
use Rattle.sa_shapes.specs.declared.shape.Track.{Track}
use Rattle.sa_shapes.specs.declared.shape.Track.TheVariants.{Lane}
use Rattle.sa_shapes.specs.declared.window.Window.{Window}
use Rattle.sa_shapes.specs.Window.{place, is_inside}
use Rattle.sa_shapes.specs.Change.{start, change}
use Rattle.sa_shapes.specs.Stretches.{since, stretches}
use Rattle.sa_shapes.specs.Marks.{has_mark, lane_of, is_marked, marks}
use Rattle.sa_shapes.specs.Extent.{extent_of}

-- these are stretches, none is empty, and each begins where the one before it ends: they fill the places from one to another
abbrev pub Tiles : ℕ → ℕ → List Shape → Type 0
Tiles from to [] = from ≡ to
Tiles from to (shape.Stretch s ∷ rest) = (s.from ≡ from) × (s.from < s.to) × Tiles s.to to rest
Tiles from to (shape.Mark m ∷ rest) = ⊥

-- the stretches of a track fill the window: no two overlap, and nothing is left out
abbrev pub TracksAreFilled : Type 0
TracksAreFilled = (w : Window) (items : List Item) (t : Track) → Tiles 0 w.count (stretches w items t)

-- each event that is drawn has its place on the lane of its processor
pub record HasPlace (w : Window) (items : List Item) (i : Item) : Type 0 where
  pub stretch : Stretch
  pub there : Contains (stretches w items (Lane i.proc)) (shape.Stretch stretch)
  pub from : stretch.from ≤ place w i.event
  pub to : place w i.event < stretch.to

abbrev pub EventsHavePlaces : Type 0
EventsHavePlaces = (w : Window) (items : List Item) (i : Item) → is_inside w i.event ≡ true → HasPlace w items i

-- what a track shows after some items
abbrev pub turns_to : Option Shown → Shown → Shown
turns_to None v = v
turns_to (Some u) v = u

abbrev pub shown_from : Track → Shown → List Item → Shown
shown_from t v [] = v
shown_from t v (i ∷ items) = shown_from t (turns_to (change t v i) v) items

abbrev pub shown_after : Track → List Item → Shown
shown_after t items = shown_from t (start t) items

-- where a stretch ends: with the window, or where another thing begins
abbrev pub end_of : Window → Option Item → ℕ
end_of w None = w.count
end_of w (Some i) = place w (since i)

-- a stretch shows what its track shows after the items before its last index, and ends where the next item makes it show another thing
pub record IsShown (w : Window) (items : List Item) (t : Track) (s : Stretch) : Type 0 where
  pub track : s.track ≡ t
  pub shown : s.shown ≡ shown_after t (take s.last items)
  pub end : s.to ≡ end_of w (slice_get items s.last)

-- inside of a stretch nothing changes: after each item from its first up to the one before its last index the track shows the same
abbrev pub IsConstant : List Item → Track → Stretch → Type 0
IsConstant items t s = (k : ℕ) → s.first < k → k ≤ s.last → shown_after t (take k items) ≡ s.shown

-- the item at its end, where it does not end with the trace, makes the track show another thing
abbrev pub EndsInChange : List Item → Track → Stretch → Type 0
EndsInChange items t s = (i : Item) → slice_get items s.last ≡ Some i → shown_after t (take (s.last + 1) items) ≢ s.shown

-- these are stretches, and each is so
abbrev pub EachStretch : (Stretch → Type 0) → List Shape → Type 0
EachStretch P [] = Unit {0}
EachStretch P (shape.Stretch s ∷ rest) = P s × EachStretch P rest
EachStretch P (shape.Mark m ∷ rest) = ⊥

abbrev pub StretchesShowTheTrace : Type 0
StretchesShowTheTrace = (w : Window) (items : List Item) (t : Track) → EachStretch (IsShown w items t) (stretches w items t)

abbrev pub StretchesAreConstant : Type 0
StretchesAreConstant = (w : Window) (items : List Item) (t : Track) → EachStretch (IsConstant items t) (stretches w items t)

abbrev pub StretchesEndInChanges : Type 0
StretchesEndInChanges = (w : Window) (items : List Item) (t : Track) → EachStretch (EndsInChange items t) (stretches w items t)

-- each record that has a mark has it in the picture, at its event and above its lane, if its event is drawn
pub record HasMark (w : Window) (items : List Item) (i : Item) : Type 0 where
  pub mark : Mark
  pub there : Contains (marks w items (lane_of i.proc i.what)) (shape.Mark mark)
  pub lane : mark.lane ≡ lane_of i.proc i.what
  pub at : mark.at ≡ place w i.event
  pub item : mark.item ≡ i

abbrev pub RecordsHaveMarks : Type 0
RecordsHaveMarks =
    (w : Window) (items : List Item) (i : Item) → Contains items i → is_inside w i.event ≡ true → has_mark i.what ≡ true
    → HasMark w items i

-- and a lane has no others: as many as there are such records
abbrev pub MarksAreCounted : Type 0
MarksAreCounted =
    (w : Window) (items : List Item) (lane : ProcNo)
    → length (marks w items lane) ≡ count_by (λ (i : Item). is_marked lane i && is_inside w i.event) items

-- every lane that an item is on is there
pub record HasLane (w : Window) (items : List Item) (i : Item) : Type 0 where
  pub own : i.proc.0 < (extent_of w items).lanes
  pub marked : (lane_of i.proc i.what).0 < (extent_of w items).lanes

abbrev pub LanesAreThere : Type 0
LanesAreThere = (w : Window) (items : List Item) (i : Item) → Contains items i → HasLane w items i
