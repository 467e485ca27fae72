-- The whole file, as a function of the items.
use Rattle.std.specs.Prelude.{ℕ, ◌+◌, ◌-◌, ◌^◌, Bool, ◌&&◌, List, [], ◌∷◌, ◌++◌, length, slice_get, Option, Some, None, codes, max, min, nat_le}
use Rattle.std.specs.List.{flat_map, range_with_len}
use Rattle.sa_base.specs.declared.number.ThreadNo.{ThreadNo}
use Rattle.sa_base.specs.declared.limits.TheConstants.{MAX_THREADS}
use Rattle.sa_base.specs.declared.record.Item.{Item}
use Rattle.sa_base.specs.declared.record.Record.{Record}
use Rattle.sa_base.specs.declared.record.Record.TheVariants.{Ins, Out, Run, Stop, Block, Unblock, Cont, Back, Ready, Take, Free}
use Rattle.sa_shapes.specs.Extent.{extent_of, can_be_drawn}
use Rattle.sa_svg.specs.Markup.{numbered}
use Rattle.sa_trace_events.specs.declared.slices.Span.{Span}
use Rattle.sa_trace_events.specs.declared.track.Count.TheVariants.{Demand, Aimed, Owned, Ready as ReadyCount, Untold}
use Rattle.sa_trace_events.specs.declared.track.Level.TheVariants.{Owner, Activation, Work}
use Rattle.sa_trace_events.specs.declared.track.Track.TheVariants as track
use Rattle.sa_trace_events.specs.declared.whole.Shape.{Shape}
use Rattle.sa_trace_events.specs.Json.{titled_text}
use Rattle.sa_trace_events.specs.Events.{track_text, titled_track, mark_text, notice_of}
use Rattle.sa_trace_events.specs.declared.arrows.Arrow.TheVariants as arrow
use Rattle.sa_trace_events.specs.Arrows.{ends_of}

-- the thread that a record names
abbrev pub thread_of : Record → Option ThreadNo
thread_of (Ins s t i) = Some t
thread_of (Out s t n) = Some t
thread_of (Run s t) = Some t
thread_of (Ready s t) = Some t
thread_of (Stop s t a) = t
thread_of (Block s t a io) = t
thread_of (Unblock s t a) = t
thread_of (Cont s t) = t
thread_of (Back s t) = t
thread_of (Take s l t) = t
thread_of (Free s l t) = t
thread_of other = None

abbrev pub above_thread : Option ThreadNo → ℕ
above_thread None = 0
above_thread (Some t) = t.0 + 1

-- how many threads a space has at most, as far as the items name them
abbrev pub threads_from : ℕ → List Item → ℕ
threads_from n [] = n
threads_from n (i ∷ is) = threads_from (max n (above_thread (thread_of i.what))) is

abbrev pub threads_of : List Item → ℕ
threads_of items = threads_from 0 items

-- the events: from that of the first item up to one after that of the last
abbrev pub first_event : List Item → ℕ
first_event [] = 0
first_event (i ∷ items) = i.event

abbrev pub after_event : Option Item → ℕ
after_event None = 0
after_event (Some i) = min (i.event + 1) (2 ^ 64 - 1)

abbrev pub end_of : List Item → ℕ
end_of items = after_event (slice_get items (length items - 1))

abbrev pub span_of : List Item → Span
span_of items = record { begin = first_event items; end = end_of items }

-- how many processors and spaces there are, and threads of a space
abbrev pub shape_of : List Item → Shape
shape_of items = record {
  lanes = (extent_of (record { from = 0; count = 0 }) items).lanes;
  spaces = (extent_of (record { from = 0; count = 0 }) items).spaces;
  threads = threads_of items;
}

-- no more than a workload may have
abbrev pub can_be_shown : List Item → Bool
can_be_shown items = can_be_drawn (extent_of (record { from = 0; count = 0 }) items) && nat_le (threads_of items) MAX_THREADS

-- a processor: its owners, and in them its activations and what it does
abbrev pub lane_text : Span → List Item → ℕ → List ℕ
lane_text span items p =
    titled_track span items (track.Processor (record { 0 = p }) Owner) ++ track_text span items (track.Processor (record { 0 = p }) Activation)
    ++ track_text span items (track.Processor (record { 0 = p }) Work)

abbrev pub lanes_text : Span → List Item → ℕ → List ℕ
lanes_text span items lanes = flat_map (lane_text span items) (range_with_len 0 lanes)

-- a space: its counts, the locks of its lists, and its threads
abbrev pub counts_text : Span → List Item → ℕ → List ℕ
counts_text span items s =
    titled_track span items (track.Count (record { 0 = s }) Demand) ++ titled_track span items (track.Count (record { 0 = s }) Aimed)
    ++ titled_track span items (track.Count (record { 0 = s }) Owned) ++ titled_track span items (track.Count (record { 0 = s }) ReadyCount)
    ++ titled_track span items (track.Count (record { 0 = s }) Untold)

abbrev pub lock_text : Span → List Item → ℕ → ℕ → List ℕ
lock_text span items s l = titled_track span items (track.Lock (record { 0 = s }) (record { 0 = l }))

abbrev pub locks_text : Span → List Item → ℕ → ℕ → List ℕ
locks_text span items s lanes = flat_map (lock_text span items s) (range_with_len 0 lanes)

abbrev pub thread_text : Span → List Item → ℕ → ℕ → List ℕ
thread_text span items s t = titled_track span items (track.Thread (record { 0 = s }) (record { 0 = t }))

abbrev pub threads_text : Span → List Item → ℕ → ℕ → List ℕ
threads_text span items s threads = flat_map (thread_text span items s) (range_with_len 0 threads)

abbrev pub space_head : ℕ → List ℕ
space_head s = titled_text (codes "process") (10 + s) 0 (numbered (codes "space ") s) (s + 1)

abbrev pub space_text : Span → List Item → Shape → ℕ → List ℕ
space_text span items shape s =
    space_head s ++ counts_text span items s ++ locks_text span items s shape.lanes ++ threads_text span items s shape.threads

abbrev pub spaces_text : Span → List Item → Shape → List ℕ
spaces_text span items shape = flat_map (space_text span items shape) (range_with_len 0 shape.spaces)

-- the arrows of the lines of the processors, and of the threads of the spaces
abbrev pub line_ends : List Item → ℕ → List ℕ
line_ends items p = ends_of items (arrow.Line (record { 0 = p }))

abbrev pub lines_ends : List Item → ℕ → List ℕ
lines_ends items lanes = flat_map (line_ends items) (range_with_len 0 lanes)

abbrev pub thread_ends : List Item → ℕ → ℕ → List ℕ
thread_ends items s t = ends_of items (arrow.Ready (record { 0 = s }) (record { 0 = t }))

abbrev pub space_ends : List Item → ℕ → ℕ → List ℕ
space_ends items threads s = flat_map (thread_ends items s) (range_with_len 0 threads)

abbrev pub spaces_ends : List Item → Shape → List ℕ
spaces_ends items shape = flat_map (space_ends items shape.threads) (range_with_len 0 shape.spaces)

-- all the arrows
unfoldable pub arrows_text : Shape → List Item → List ℕ
arrows_text shape items = flat_map notice_of items ++ lines_ends items shape.lanes ++ spaces_ends items shape

abbrev pub head : List ℕ
head = codes "{\"displayTimeUnit\":\"ns\",\"traceEvents\":[\n{\"ph\":\"M\",\"name\":\"process_name\",\"pid\":1,\"tid\":0,\"args\":{\"name\":\"processors\"}}"

unfoldable pub events_by : Span → Shape → List Item → List ℕ
events_by span shape items =
    head ++ lanes_text span items shape.lanes ++ spaces_text span items shape ++ flat_map mark_text items ++ arrows_text shape items
    ++ codes "\n]}\n"

abbrev pub events_text : List Item → List ℕ
events_text items = events_by (span_of items) (shape_of items) items
