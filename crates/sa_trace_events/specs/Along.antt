-- The text of a track, along the items that touch it.
use Rattle.std.specs.Prelude.{ℕ, Bool, ◌&&◌, List, [], ◌∷◌, ◌++◌, codes, nat_lt, if◌then◌else◌}
use Rattle.sa_base.specs.declared.record.Item.{Item}
use Rattle.sa_trace_events.specs.declared.track.Track.{Track}
use Rattle.sa_trace_events.specs.declared.slices.Going.{Going}
use Rattle.sa_trace_events.specs.declared.slices.Slice.{Slice}
use Rattle.sa_trace_events.specs.declared.touches.Touch.{Touch}
use Rattle.sa_trace_events.specs.Track.{pid_of, tid_of}
use Rattle.sa_trace_events.specs.Slices.{after, is_shown, going_by, slice_goes_on}
use Rattle.sa_trace_events.specs.Words.{category, state_name}
use Rattle.sa_trace_events.specs.Json.{quoted, slice_head, slice_times}
use Rattle.sa_trace_events.specs.Events.{line_if}

-- the record of a slice that has these lines
unfoldable pub slice_by : Slice → List ℕ → List ℕ
slice_by s lines =
    slice_head (category s.track) ++ state_name s.track s.shown ++ slice_times (pid_of s.track) (tid_of s.track) s.from s.to ++ lines ++ codes "]}}"

-- that of the slice that ends before this event and index, unless it has no event or shows nothing
abbrev pub closed_text : Track → Going → ℕ → ℕ → List ℕ → List ℕ
closed_text t g to last lines =
    if nat_lt g.from to && is_shown t g.shown
    then slice_by (record { track = t; from = g.from; to = to; shown = g.shown; first = g.first; last = last }) lines
    else []

-- at an item: the slice that ends there, unless the track goes on to show the same, and the lines of the one that goes on
abbrev pub text_unless : Bool → Track → Going → Touch → List ℕ → List ℕ
text_unless same t g e lines = if same then [] else closed_text t g e.clock e.at lines

abbrev pub lines_after : Bool → Track → Item → List ℕ → List ℕ
lines_after same t i lines = if same then lines ++ line_if t i else quoted i

abbrev pub text_from : Track → ℕ → ℕ → Going → List ℕ → List Touch → List ℕ
text_from t end len g lines [] = closed_text t g end len lines
text_from t end len g lines (e ∷ es) =
    text_unless (slice_goes_on t g e.item) t g e lines
    ++ text_from t end len (going_by (slice_goes_on t g e.item) g (after t g.state e.item) e.clock e.at)
    (lines_after (slice_goes_on t g e.item) t e.item lines) es
