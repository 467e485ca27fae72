-- What holds of all trace events.
use Rattle.std.specs.Prelude.{◌≡◌, ℕ, ◌^◌, ◌<◌, ◌≤◌, Bool, true, false, ◌&&◌, ◌||◌, ◌==◌, List, All, Contains, Option, Some, None, is_some, nat_le}
use Rattle.std.specs.List.{list_all}
use Rattle.sa_base.specs.declared.number.ActNo.{ActNo}
use Rattle.sa_base.specs.declared.number.ProcNo.{ProcNo}
use Rattle.sa_base.specs.declared.record.Item.{Item}
use Rattle.sa_shapes.specs.declared.look.Look.{Look}
use Rattle.sa_shapes.specs.declared.look.Look.TheVariants as look
use Rattle.sa_trace.specs.Text.{FitsItem}
use Rattle.sa_trace.specs.TraceText.{item_text, record_text}
use Rattle.sa_trace_events.specs.declared.track.Level.TheVariants.{Owner, Activation, Work}
use Rattle.sa_trace_events.specs.declared.track.Track.{Track}
use Rattle.sa_trace_events.specs.declared.track.Track.TheVariants as track
use Rattle.sa_trace_events.specs.declared.state.Doing.{Doing}
use Rattle.sa_trace_events.specs.declared.state.Doing.TheVariants.{Runs, Section, Blocked}
use Rattle.sa_trace_events.specs.declared.state.Holder.{Holder}
use Rattle.sa_trace_events.specs.declared.state.Holder.TheVariants.{Nobody, Handler, Thread}
use Rattle.sa_trace_events.specs.declared.slices.Slice.{Slice}
use Rattle.sa_trace_events.specs.declared.slices.Span.{Span}
use Rattle.sa_trace_events.specs.declared.slices.State.{State}
use Rattle.sa_trace_events.specs.declared.slices.State.TheVariants as state
use Rattle.sa_trace_events.specs.Slices.{slices}
use Rattle.sa_trace_events.specs.Words.{state_name}

-- NESTED. One of these slices goes on all the while that this one does.
pub record LiesIn (outer : List Slice) (s : Slice) : Type 0 where
  pub slice : Slice
  pub there : Contains outer slice
  pub from : slice.from ≤ s.from
  pub to : s.to ≤ slice.to

-- each slice of an activation, and of what a processor does, lies in one of an owner
abbrev pub SlicesAreNested : Type 0
SlicesAreNested =
    (span : Span) (items : List Item) (p : ProcNo)
    → All (LiesIn (slices span items (track.Processor p Owner))) (slices span items (track.Processor p Activation))
    × All (LiesIn (slices span items (track.Processor p Owner))) (slices span items (track.Processor p Work))

-- what a processor does in an activation lies in the slice of that
abbrev pub in_activation : State → Bool
in_activation (state.Context c) = is_some c.act
in_activation other = false

abbrev pub WorkIsNested : Type 0
WorkIsNested =
    (span : Span) (items : List Item) (p : ProcNo)
    → All (λ (s : Slice). in_activation s.shown ≡ true → LiesIn (slices span items (track.Processor p Activation)) s)
    (slices span items (track.Processor p Work))

-- PLAIN. Each byte is a space, one of `, - .`, a digit or a colon, or a small letter: in a text in quotes none needs an escape.
abbrev pub is_plain_byte : ℕ → Bool
is_plain_byte b = b == 32 || (nat_le 44 b && nat_le b 46) || (nat_le 48 b && nat_le b 58) || (nat_le 97 b && nat_le b 122)

abbrev pub is_plain : List ℕ → Bool
is_plain bytes = list_all is_plain_byte bytes

-- the lines of a trace, and its records, which are the names of marks
abbrev pub LinesArePlain : Type 0
LinesArePlain = (i : Item) → FitsItem i → (is_plain (item_text i) ≡ true) × (is_plain (record_text i.what) ≡ true)

-- the numbers of a state are those of a trace
abbrev pub FitsNumber : ℕ → Type 0
FitsNumber n = n < 2 ^ 64

abbrev pub FitsLook : Look → Type 0
FitsLook look.Unowned = Unit {0}
FitsLook (look.Thread s t) = FitsNumber s.0 × FitsNumber t.0
FitsLook (look.Package s) = FitsNumber s.0
FitsLook (look.Placed s) = FitsNumber s.0
FitsLook (look.GoesOn s) = FitsNumber s.0
FitsLook (look.List s l) = FitsNumber s.0 × FitsNumber l.0
FitsLook (look.Idle s) = FitsNumber s.0
FitsLook (look.Section s) = FitsNumber s.0

abbrev pub FitsAct : Option ActNo → Type 0
FitsAct None = Unit {0}
FitsAct (Some a) = FitsNumber a.0

abbrev pub FitsDoing : Doing → Type 0
FitsDoing (Runs p) = FitsNumber p.0
FitsDoing (Section p) = FitsNumber p.0
FitsDoing (Blocked io) = FitsNumber io.0
FitsDoing other = Unit {0}

abbrev pub FitsHolder : Holder → Type 0
FitsHolder Nobody = Unit {0}
FitsHolder (Handler p) = FitsNumber p.0
FitsHolder (Thread p t) = FitsNumber p.0 × FitsNumber t.0

abbrev pub FitsState : State → Type 0
FitsState (state.Context c) = FitsLook c.look × FitsAct c.act
FitsState (state.Doing d) = FitsDoing d
FitsState (state.Holder h) = FitsHolder h
FitsState (state.Tally y) = FitsNumber y.n

-- the names of slices
abbrev pub NamesArePlain : Type 0
NamesArePlain = (t : Track) (v : State) → FitsState v → is_plain (state_name t v) ≡ true
