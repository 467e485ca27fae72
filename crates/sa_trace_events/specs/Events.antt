-- The slices of a track as text, the marks, and the arrows.
use Rattle.std.specs.Prelude.{ℕ, ◌+◌, ◌-◌, ◌^◌, Bool, true, false, ◌==◌, List, [], ◌∷◌, ◌++◌, codes, min, if◌then◌else◌}
use Rattle.std.specs.List.{flat_map}
use Rattle.sa_base.specs.declared.number.SpaceNo.{SpaceNo}
use Rattle.sa_base.specs.declared.number.ThreadNo.{ThreadNo}
use Rattle.sa_base.specs.declared.record.Item.{Item}
use Rattle.sa_base.specs.declared.record.Note.{Note}
use Rattle.sa_base.specs.declared.record.Note.TheVariants.{Add, Preempted, Blocked, Unblocked}
use Rattle.sa_base.specs.declared.record.Record.{Record}
use Rattle.sa_base.specs.declared.record.Record.TheVariants as what
use Rattle.sa_svg.specs.Titles.{part}
use Rattle.sa_trace.specs.TraceText.{record_text}
use Rattle.sa_trace_events.specs.declared.track.Level.TheVariants.{Work}
use Rattle.sa_trace_events.specs.declared.track.Track.{Track}
use Rattle.sa_trace_events.specs.declared.track.Track.TheVariants as track
use Rattle.sa_trace_events.specs.declared.slices.Slice.{Slice}
use Rattle.sa_trace_events.specs.declared.slices.Span.{Span}
use Rattle.sa_trace_events.specs.Track.{pid_of, tid_of}
use Rattle.sa_trace_events.specs.State.{is_thread, is_thread_of}
use Rattle.sa_trace_events.specs.Slices.{slices}
use Rattle.sa_trace_events.specs.Words.{category, state_name, track_name}
use Rattle.sa_trace_events.specs.Json.{titled_text, quoted, slice_head, slice_times, arrow_text}

abbrev pub names_thread : SpaceNo → ThreadNo → Record → Bool
names_thread s t (what.Ins u v i) = is_thread s t u v
names_thread s t (what.Out u v n) = is_thread s t u v
names_thread s t (what.Run u v) = is_thread s t u v
names_thread s t (what.Ready u v) = is_thread s t u v
names_thread s t (what.Stop u v a) = is_thread_of s t u v
names_thread s t (what.Unblock u v a) = is_thread_of s t u v
names_thread s t (what.Block u v a io) = is_thread_of s t u v
names_thread s t (what.Cont u v) = is_thread_of s t u v
names_thread s t (what.Back u v) = is_thread_of s t u v
names_thread s t (what.Take u l v) = is_thread_of s t u v
names_thread s t (what.Free u l v) = is_thread_of s t u v
names_thread s t other = false

-- the lines of a slice: that with which it began, and of what a processor does all of the processor, of a thread all that name it
abbrev pub concerns : Track → Item → Bool
concerns (track.Processor p Work) i = i.proc.0 == p.0
concerns (track.Thread s t) i = names_thread s t i.what
concerns other i = false

abbrev pub line_if : Track → Item → List ℕ
line_if t i = if concerns t i then codes "," ++ quoted i else []

abbrev pub rest_text : Track → List Item → List ℕ
rest_text t items = flat_map (line_if t) items

abbrev pub lines_text : Track → List Item → List ℕ
lines_text t [] = []
lines_text t (i ∷ is) = quoted i ++ rest_text t is

-- the record of a slice
unfoldable pub slice_text : List Item → Slice → List ℕ
slice_text items s =
    slice_head (category s.track) ++ state_name s.track s.shown ++ slice_times (pid_of s.track) (tid_of s.track) s.from s.to
    ++ lines_text s.track (part items s.first s.last) ++ codes "]}}"

-- the slices of a track, and before them its name
abbrev pub track_text : Span → List Item → Track → List ℕ
track_text span items t = flat_map (slice_text items) (slices span items t)

abbrev pub titled_track : Span → List Item → Track → List ℕ
titled_track span items t = titled_text (codes "thread") (pid_of t) (tid_of t) (track_name t) (tid_of t) ++ track_text span items t

-- the mark of a record: a slice of its event, with its words as its name
abbrev pub has_mark : Record → Bool
has_mark (what.Ins s t i) = false
has_mark (what.Aim p s) = false
has_mark (what.Move o n) = false
has_mark (what.GiveBack a) = false
has_mark what.Idle = false
has_mark what.Tick = false
has_mark other = true

abbrev pub mark_text : Item → List ℕ
mark_text i =
    if has_mark i.what
    then slice_head (codes "mark") ++ record_text i.what ++ slice_times 1 (1 + i.proc.0) i.event (min (i.event + 1) (2 ^ 64 - 1)) ++ quoted i ++ codes "]}}"
    else []

-- the ends of arrows from what a space is to be told to the upcall that tells it
abbrev pub told_arrow : Note → Item → List ℕ
told_arrow (Add p) i = []
told_arrow (Preempted a) i = arrow_text (codes "f") (codes "preempted") a.0 i
told_arrow (Blocked a) i = arrow_text (codes "f") (codes "blocked") a.0 i
told_arrow (Unblocked a) i = arrow_text (codes "f") (codes "unblocked") a.0 i

abbrev pub notice_by : Record → Item → List ℕ
notice_by (what.Stop s t a) i = arrow_text (codes "s") (codes "preempted") a.0 i
notice_by (what.Block s t a io) i = arrow_text (codes "s") (codes "blocked") a.0 i
notice_by (what.Unblock s t a) i = arrow_text (codes "s") (codes "unblocked") a.0 i
notice_by (what.Told note) i = told_arrow note i
notice_by other i = []

abbrev pub notice_of : Item → List ℕ
notice_of i = notice_by i.what i
