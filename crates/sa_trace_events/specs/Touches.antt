-- The items that touch a track: those that may change it. Tracks of one kind have numbers. A record changes one of them at most, and beside
-- it a thread that it stops from running.
use Rattle.std.specs.Prelude.{◌≡◌, ℕ, ◌+◌, ◌-◌, ◌^◌, Bool, true, false, ◌==◌, ◌&&◌, ◌||◌, List, [], ◌∷◌, ◌++◌, Option, Some, None, length, map, max, min, slice_index_or, slice_set, replicate, if◌then◌else◌}
use Rattle.sa_lemmas.specs.Function.{put}
use Rattle.sa_base.specs.declared.number.SpaceNo.{SpaceNo}
use Rattle.sa_base.specs.declared.number.ThreadNo.{ThreadNo}
use Rattle.sa_base.specs.declared.record.Item.{Item}
use Rattle.sa_base.specs.declared.record.Record.{Record}
use Rattle.sa_base.specs.declared.record.Record.TheVariants as what
use Rattle.sa_trace_events.specs.declared.track.Count.TheVariants.{Demand, Aimed, Owned, Ready, Untold}
use Rattle.sa_trace_events.specs.declared.track.Track.{Track}
use Rattle.sa_trace_events.specs.declared.track.Track.TheVariants as track
use Rattle.sa_trace_events.specs.declared.touches.Group.{Group}
use Rattle.sa_trace_events.specs.declared.touches.Group.TheVariants.{Lanes, Counts, Locks, Threads}
use Rattle.sa_trace_events.specs.declared.touches.Index.{Index}
use Rattle.sa_trace_events.specs.declared.touches.Touch.{Touch}
use Rattle.sa_trace_events.specs.Track.{count_number}
use Rattle.sa_trace_events.specs.Slices.{is_block, is_free}

-- the kind of a track, and its number among those of the kind
abbrev pub group_of : Track → Group
group_of (track.Processor p level) = Lanes
group_of (track.Count s c) = Counts s
group_of (track.Lock s l) = Locks s
group_of (track.Thread s t) = Threads s

abbrev pub number_of : Track → ℕ
number_of (track.Processor p level) = p.0
number_of (track.Count s c) = count_number c
number_of (track.Lock s l) = l.0
number_of (track.Thread s t) = t.0

abbrev pub is_number : ℕ → Option ℕ → Bool
is_number n None = false
is_number n (Some m) = m == n

abbrev pub number_if : Bool → ℕ → Option ℕ
number_if b n = if b then Some n else None

-- the number of the track that a record changes: of a space's counts, its locks, its threads
abbrev pub count_in : SpaceNo → Record → Option ℕ
count_in s (what.Want u n) = number_if (u.0 == s.0) (count_number Demand)
count_in s (what.Aim p u) = Some (count_number Aimed)
count_in s (what.Move o n) = Some (count_number Owned)
count_in s (what.Ready u t) = number_if (u.0 == s.0) (count_number Ready)
count_in s (what.Run u t) = number_if (u.0 == s.0) (count_number Ready)
count_in s (what.Stop u t a) = number_if (u.0 == s.0) (count_number Untold)
count_in s (what.Block u t a io) = number_if (u.0 == s.0) (count_number Untold)
count_in s (what.Unblock u t a) = number_if (u.0 == s.0) (count_number Untold)
count_in s (what.Up u a) = Some (count_number Untold)
count_in s (what.Told note) = Some (count_number Untold)
count_in s other = None

abbrev pub lock_in : SpaceNo → Record → Option ℕ
lock_in s (what.Take u l t) = number_if (u.0 == s.0) l.0
lock_in s (what.Free u l t) = number_if (u.0 == s.0) l.0
lock_in s other = None

abbrev pub among : SpaceNo → SpaceNo → Option ThreadNo → Option ℕ
among s u None = None
among s u (Some t) = number_if (u.0 == s.0) t.0

abbrev pub thread_in : SpaceNo → Record → Option ℕ
thread_in s (what.Ins u t i) = among s u (Some t)
thread_in s (what.Out u t n) = among s u (Some t)
thread_in s (what.Run u t) = among s u (Some t)
thread_in s (what.Ready u t) = among s u (Some t)
thread_in s (what.Stop u t a) = among s u t
thread_in s (what.Block u t a io) = among s u t
thread_in s (what.Unblock u t a) = among s u t
thread_in s (what.Cont u t) = among s u t
thread_in s (what.Back u t) = among s u t
thread_in s (what.Take u l t) = among s u t
thread_in s (what.Free u l t) = among s u t
thread_in s other = None

abbrev pub number_by : Group → Item → Option ℕ
number_by Lanes i = Some i.proc.0
number_by (Counts s) i = count_in s i.what
number_by (Locks s) i = lock_in s i.what
number_by (Threads s) i = thread_in s i.what

-- a record after which no thread but the one that it names runs on its processor
abbrev pub clears : Record → Bool
clears (what.Ins s t i) = true
clears (what.Out s t n) = true
clears (what.Run s t) = true
clears (what.Stop s t a) = true
clears (what.Block s t a io) = true
clears (what.Cont s t) = true
clears (what.Back s t) = true
clears (what.Take s l t) = true
clears (what.Free s l t) = true
clears (what.Up s a) = true
clears what.Idle = true
clears other = false

-- of each processor: the number that its last such record named
abbrev pub on_at : List (Option ℕ) → ℕ → Option ℕ
on_at on p = slice_index_or on p None

abbrev pub on_after : Group → (ℕ → Option ℕ) → Item → ℕ → Option ℕ
on_after g on i = if clears i.what then put on i.proc.0 (number_by g i) else on

-- the thread that a record stops from running and does not name: the one that was on its processor
abbrev pub other_than : Option ℕ → Option ℕ → Option ℕ
other_than number None = None
other_than number (Some m) = if is_number m number then None else Some m

abbrev pub left_by : Group → Option ℕ → Option ℕ → Record → Option ℕ
left_by (Threads s) number was r = if clears r then other_than number was else None
left_by g number was r = None

-- an item touches the track that it changes, and the thread that it stops
abbrev pub touches : Group → ℕ → (ℕ → Option ℕ) → Item → Bool
touches g n on i = is_number n (number_by g i) || is_number n (left_by g (number_by g i) (on i.proc.0) i.what)

-- the event from which on tracks of this kind show what an item makes them show, and the one at which they are after it
abbrev pub are_locks : Group → Bool
are_locks (Locks s) = true
are_locks g = false

abbrev pub over_after : Group → Record → Bool
over_after g r = is_block r || (are_locks g && is_free r)

abbrev pub since_in : Group → Item → ℕ
since_in g i = if over_after g i.what then min (i.event + 1) (2 ^ 64 - 1) else i.event

abbrev pub clock_after : Group → ℕ → Item → ℕ
clock_after g clock i = max clock (since_in g i)

abbrev pub clock_from : Group → ℕ → List Item → ℕ
clock_from g clock [] = clock
clock_from g clock (i ∷ is) = clock_from g (clock_after g clock i) is

abbrev pub touch_of : Group → ℕ → ℕ → Item → Touch
touch_of g clock k i = record { at = k; clock = clock_after g clock i; item = i }

-- the items that touch one track
abbrev pub touched_from : Group → ℕ → (ℕ → Option ℕ) → ℕ → ℕ → List Item → List Touch
touched_from g n on clock k [] = []
touched_from g n on clock k (i ∷ is) =
    (if touches g n on i then touch_of g clock k i ∷ [] else [])
    ++ touched_from g n (on_after g on i) (clock_after g clock i) (k + 1) is

abbrev pub nobody : ℕ → Option ℕ
nobody p = None

abbrev pub touched : Group → ℕ → ℕ → List Item → List Touch
touched g n begin items = touched_from g n nobody begin 0 items

-- the same of all tracks of a kind, found in one pass: each item goes into the lists of those that it touches
abbrev pub pushed : Option ℕ → Touch → List (List Touch) → List (List Touch)
pushed None e lists = lists
pushed (Some n) e lists = slice_set lists n (slice_index_or lists n [] ++ e ∷ [])

abbrev pub both_pushed : Group → (ℕ → Option ℕ) → Touch → List (List Touch) → List (List Touch)
both_pushed g on e lists =
    pushed (left_by g (number_by g e.item) (on e.item.proc.0) e.item.what) e (pushed (number_by g e.item) e lists)

abbrev pub lists_from : Group → (ℕ → Option ℕ) → ℕ → ℕ → List Item → List (List Touch) → List (List Touch)
lists_from g on clock k [] lists = lists
lists_from g on clock k (i ∷ is) lists =
    lists_from g (on_after g on i) (clock_after g clock i) (k + 1) is (both_pushed g on (touch_of g clock k i) lists)

abbrev pub lists_of : Group → ℕ → ℕ → List Item → List (List Touch)
lists_of g begin count items = lists_from g nobody begin 0 items (replicate count [])

-- what one pass over the items finds
pub record IsIndexOf (g : Group) (begin : ℕ) (items : List Item) (index : Index) : Type 0 where
  pub lists : map (λ v. v.items) index.lists.items ≡ lists_of g begin (length index.lists.items) items
  pub clock : index.clock ≡ clock_from g begin items

abbrev pub touches_at : Index → ℕ → List Touch
touches_at index n = slice_index_or (map (λ v. v.items) index.lists.items) n []
