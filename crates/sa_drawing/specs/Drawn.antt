-- What comes of an input: the picture of its trace, or its trace events, or why there is none.
use Rattle.std.specs.Prelude.{◌≡◌, ⊤, true, false, ℕ, ◌-◌, ◌≤◌, List, [], ◌∷◌, length, slice_get, Option, Some, None, Ok, option_and_then, unwrap_or, min, if◌then◌else◌}
use Rattle.sa_base.specs.declared.record.Item.{Item}
use Rattle.sa_shapes.specs.declared.window.Window.{Window}
use Rattle.sa_shapes.specs.Window.{window_to}
use Rattle.sa_shapes.specs.Extent.{extent_of, can_be_drawn}
use Rattle.sa_shapes.specs.Picture.{shapes_of, depth_of}
use Rattle.sa_svg.specs.declared.layout.Layout.{Layout}
use Rattle.sa_svg.specs.Layout.{unit_of, layout_by}
use Rattle.sa_svg.specs.Drawing.{file_text}
use Rattle.sa_trace.specs.Reading.{Told, read_of}
use Rattle.sa_input.specs.declared.limits.TheConstants.{TRACE_LIMIT}
use Rattle.sa_trace_events.specs.Whole.{can_be_shown, events_text}
use Rattle.sa_drawing.specs.declared.text.Drawing.{Drawing}
use Rattle.sa_drawing.specs.declared.text.Drawing.TheVariants.{Picture, Events}
use Rattle.sa_drawing.specs.declared.text.Part.{Part}
use Rattle.sa_drawing.specs.declared.text.NoDrawing.{NoDrawing}
use Rattle.sa_drawing.specs.declared.text.NoDrawing.TheVariants.{BadTrace, TooMuch, OutOfMemory}
use Rattle.sa_drawing.specs.Losses.{trace_part}
use Rattle.sa_drawing.specs.Refusal.{IsRefused}

-- the events that a trace has
abbrev pub first_event : List Item → ℕ
first_event [] = 0
first_event (i ∷ items) = i.event

abbrev pub event_of : Option Item → ℕ
event_of None = 0
event_of (Some i) = i.event

abbrev pub last_event : List Item → ℕ
last_event items = event_of (slice_get items (length items - 1))

-- the events that are drawn: those that are named, up to the last one of the trace, or else all that it has
abbrev pub window_of : Part → List Item → Option Window
window_of r items = window_to (unwrap_or r.from (first_event items)) (min (unwrap_or r.to (last_event items)) (last_event items))

-- a window in which there is no more to draw than a picture may have
abbrev pub drawable : List Item → Window → Option Window
drawable items w = if can_be_drawn (extent_of w items) then Some w else None

abbrev pub drawn_window : Part → List Item → Option Window
drawn_window r items = option_and_then (drawable items) (window_of r items)

-- the text of the picture of these items in this window
abbrev pub layout_for : Window → List Item → ℕ → Layout
layout_for w items width =
    layout_by width (unit_of width w.count) w.count (extent_of w items).lanes (extent_of w items).spaces (depth_of (shapes_of w items))

unfoldable pub picture_text : Window → List Item → ℕ → List ℕ
picture_text w items width = file_text (layout_for w items width) w items (shapes_of w items)

-- the text of the picture of these items, in the window of the part
pub record HasText (r : Part) (items : List Item) (text : List ℕ) : Type 0 where
  pub window : Window
  pub is : drawn_window r items ≡ Some window
  pub text_is : text ≡ picture_text window items r.width

-- the text of what is asked for, and that there is too much of it
abbrev pub IsTextFor : Drawing → Part → List Item → List ℕ → Type 0
IsTextFor Picture r items text = HasText r items text
IsTextFor Events r items text = (can_be_shown items ≡ true) × (text ≡ events_text items)

abbrev pub IsNoneFor : Drawing → Part → List Item → Type 0
IsNoneFor Picture r items = drawn_window r items ≡ None
IsNoneFor Events r items = can_be_shown items ≡ false

-- these bytes are the text of the picture or of the trace events of the trace of which the input is the text
pub record IsDrawn (d : Drawing) (r : Part) (input : List ℕ) (text : List ℕ) : Type 0 where
  pub short : length input ≤ TRACE_LIMIT
  pub told : Told
  pub read : read_of (trace_part input) ≡ Ok told
  pub drawn : IsTextFor d r told.items text

-- there is too much to draw of the trace of which the input is the text
pub record IsTooMuch (d : Drawing) (r : Part) (input : List ℕ) : Type 0 where
  pub short : length input ≤ TRACE_LIMIT
  pub told : Told
  pub read : read_of (trace_part input) ≡ Ok told
  pub none : IsNoneFor d r told.items

abbrev pub IsNotDrawn : Drawing → Part → List ℕ → NoDrawing → Type 0
IsNotDrawn d r input (BadTrace bad) = IsRefused input bad
IsNotDrawn d r input TooMuch = IsTooMuch d r input
IsNotDrawn d r input OutOfMemory = ⊤
