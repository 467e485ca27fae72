-- What each record changes in what is read off a history: for each reading a function, which says at which records it
-- changes.
use Rattle.std.specs.Prelude.{ℕ, ◌+◌, ◌==◌, Bool, true, false, not, ◌&&◌, if◌then◌else◌, is_none, nat_lt, List, [], ◌∷◌, ◌++◌, map, filter, find, Option, Some, None, slice_index_or, slice_set}
use Rattle.std.specs.Option.{option_map}
use Rattle.sa_base.specs.declared.number.ProcNo.{ProcNo}
use Rattle.sa_base.specs.declared.number.SpaceNo.{SpaceNo}
use Rattle.sa_base.specs.declared.number.ThreadNo.{ThreadNo}
use Rattle.sa_base.specs.declared.number.ActNo.{ActNo}
use Rattle.sa_base.specs.declared.record.Note.{Note}
use Rattle.sa_base.specs.declared.record.Note.TheVariants as note
use Rattle.sa_base.specs.declared.record.Record.{Record}
use Rattle.sa_base.specs.declared.record.Record.TheVariants.{Ins, Run, Stop, Block, Unblock, Cont, Back, Ready, Take, Free, Up, Told, Move, Want, Aim, Line, Fetch, Fetched, GiveBack}
use Rattle.sa_base.specs.declared.limits.TheConstants.{PACKAGE_PAGE}
use Rattle.sa_instr.specs.declared.instr.Instr.{Instr}
use Rattle.sa_instr.specs.declared.instr.Instr.TheVariants.{Io as IoOf, Touch}
use Rattle.sa_spaces.specs.Workload.{WorkloadView}
use Rattle.sa_lemmas.specs.Function.{put}
use Rattle.sa_devices.specs.Ios.{Io, fetches}
use Rattle.sa_devices.specs.Pages.{completed}
use Rattle.sa_devices.specs.declared.kind.IoKind.{IoKind}
use Rattle.sa_devices.specs.declared.kind.IoKind.TheVariants.{Plain, Page, Upcall}
use Rattle.sa_laws.specs.State.{instr_of, next_instr}
use Rattle.sa_laws.specs.Machine.{changed, next_effect}
use Rattle.sa_laws.specs.Life.{Life, Lock, new_life, has_lock, first_lock, with_lock, without_lock, with_first, readied, ran, with_hand, without_thread, with_cont, held_with, inherits, bereft}
use Rattle.sa_laws.specs.Readings.{Readings, Listed, space_of_life, running_of, life_of, life_on, demand_of, ready_of, has_hand, is_resident}

-- The aim of a processor is that of its last aim record; the demand of a space that of its last want record.
abbrev pub aims_after : List (Option SpaceNo) → Record → List (Option SpaceNo)
aims_after aims (Aim q s) = slice_set aims q.0 s
aims_after aims _ = aims

abbrev pub demands_after : List ℕ → Record → List ℕ
demands_after demands (Want s n) = slice_set demands s.0 n
demands_after demands _ = demands

-- A line is raised at its record. (It is lowered at the beginning of the next event of its processor.)
abbrev pub lines_after : ℕ → List (Option ℕ) → Record → List (Option ℕ)
lines_after e lines (Line q) = slice_set lines q.0 (Some e)
lines_after e lines _ = lines

-- A processor is marked idle at its lowering hint, and is not from its next up or raising hint on. A hint is a want
-- that is its event's first record.
abbrev pub mark_after : Option Record → ℕ → ℕ → Bool → Bool
mark_after None old new mark = nat_lt new old
mark_after (Some before) old new mark = mark

abbrev pub marks_after : ProcNo → Readings → Record → List Bool
marks_after p r (Up s a) = slice_set r.marks p.0 false
marks_after p r (Want s n) = slice_set r.marks p.0 (mark_after r.last (demand_of r s) n (slice_index_or r.marks p.0 false))
marks_after p r _ = r.marks

-- A life runs on its processor from its up until its stop or block.
abbrev pub running_after : ProcNo → List (Option ActNo) → Record → List (Option ActNo)
running_after p running (Up s a) = slice_set running p.0 (Some a)
running_after p running (Stop s t a) = slice_set running p.0 None
running_after p running (Block s t a io) = slice_set running p.0 None
running_after p running _ = running

-- The life of the last up; and the space that the event's processor moved to.
abbrev pub upped_after : Option ActNo → Record → Option ActNo
upped_after upped (Up s a) = Some a
upped_after upped _ = upped

abbrev pub moved_after : Option SpaceNo → Record → Option SpaceNo
moved_after moved (Move old new) = new
moved_after moved _ = moved

-- A stop, block or unblock is untold until a record tells it.
abbrev pub same_note : Note → Note → Bool
same_note (note.Add p) (note.Add q) = p.0 == q.0
same_note (note.Preempted a) (note.Preempted b) = a.0 == b.0
same_note (note.Blocked a) (note.Blocked b) = a.0 == b.0
same_note (note.Unblocked a) (note.Unblocked b) = a.0 == b.0
same_note m n = false

abbrev pub with_note : List (List Note) → SpaceNo → Note → List (List Note)
with_note untold s n = slice_set untold s.0 (slice_index_or untold s.0 [] ++ n ∷ [])

abbrev pub is_other_note : Note → Note → Bool
is_other_note n m = not (same_note m n)

abbrev pub without_note : List (List Note) → Note → List (List Note)
without_note untold n = map (filter (is_other_note n)) untold

abbrev pub untold_after : Readings → Record → List (List Note)
untold_after r (Stop s t a) = with_note r.untold s (note.Preempted a)
untold_after r (Block s t a io) = with_note r.untold s (note.Blocked a)
untold_after r (Unblock s t a) = with_note r.untold s (note.Unblocked a)
untold_after r (Told n) = without_note r.untold n
untold_after r _ = r.untold

-- A life is taken from the telling of its stop or its unblock to its giveback.
abbrev pub with_act : List (List ActNo) → Option SpaceNo → ActNo → List (List ActNo)
with_act taken None a = taken
with_act taken (Some s) a = slice_set taken s.0 (slice_index_or taken s.0 [] ++ a ∷ [])

abbrev pub is_other_act : ActNo → ActNo → Bool
is_other_act a b = not (b.0 == a.0)

abbrev pub without_act : List (List ActNo) → Option SpaceNo → ActNo → List (List ActNo)
without_act taken None a = taken
without_act taken (Some s) a = slice_set taken s.0 (filter (is_other_act a) (slice_index_or taken s.0 []))

abbrev pub taken_after : Readings → Record → List (List ActNo)
taken_after r (Told (note.Preempted a)) = with_act r.taken (space_of_life r (Some a)) a
taken_after r (Told (note.Unblocked a)) = with_act r.taken (space_of_life r (Some a)) a
taken_after r (GiveBack a) = without_act r.taken (space_of_life r (Some a)) a
taken_after r _ = r.taken

-- the length of the `io` instruction whose record comes directly before, if one of this thread does
abbrev pub length_in : Instr → Option ℕ
length_in (IoOf length) = Some length
length_in _ = None

abbrev pub is_thread : ThreadNo → Option ThreadNo → Bool
is_thread t None = false
is_thread t (Some u) = t.0 == u.0

abbrev pub length_behind : WorkloadView → Readings → SpaceNo → Option ThreadNo → Option Record → Option ℕ
length_behind w r s t (Some (Ins of u i)) =
    if of.0 == s.0 && is_thread u t then length_in (instr_of w r.state of u i) else None
length_behind w r s t _ = None

-- the page that a thread touches
abbrev pub page_in : Instr → ℕ
page_in (Touch page) = page
page_in _ = 0

abbrev pub page_touched : WorkloadView → Readings → SpaceNo → Option ThreadNo → ℕ
page_touched w r s None = 0
page_touched w r s (Some t) = page_in (next_instr w r.state s t)

abbrev pub locks_one : Option Life → Bool
locks_one None = false
locks_one (Some life) = has_lock life

-- What a block is for: directly after an `io` its length, and no page; if its life has a lock and the package's page is absent, that
-- page; else the page that its thread touches
pub record Blocking : Type 0 where
  pub kind : IoKind
  pub length : ℕ

abbrev pub blocking_for : WorkloadView → Readings → SpaceNo → Option ThreadNo → ActNo → Option ℕ → Blocking
blocking_for w r s t a (Some length) = record { kind = Plain s a; length = length }
blocking_for w r s t a None = record {
  kind = Page s a (if locks_one (life_of r a) && not (is_resident r s PACKAGE_PAGE) then PACKAGE_PAGE else page_touched w r s t);
  length = w.fetch;
}

abbrev pub blocking : WorkloadView → Readings → SpaceNo → Option ThreadNo → ActNo → Blocking
blocking w r s t a = blocking_for w r s t a (length_behind w r s t r.last)

-- An I/O is numbered from 0 in the order of the block and fetch records, and is under way until the unblock of its
-- life, or until the next `fetched` of its space. Its end is its event plus its length.
abbrev pub io_count_after : ℕ → Record → ℕ
io_count_after io_count (Block s t a io) = io_count + 1
io_count_after io_count (Fetch s) = io_count + 1
io_count_after io_count _ = io_count

abbrev pub with_io : ℕ → Blocking → Readings → List Io
with_io e b r = r.under_way ++ record { number = r.io_count; ends = e + b.length; kind = b.kind } ∷ []

abbrev pub is_kind_of : ActNo → IoKind → Bool
is_kind_of a (Plain s b) = b.0 == a.0
is_kind_of a (Page s b page) = b.0 == a.0
is_kind_of a (Upcall s) = false

abbrev pub is_io_of : ActNo → Io → Bool
is_io_of a io = is_kind_of a io.kind

-- the I/O that is over: that of a life; the fetch of the upcall page of a space
abbrev pub io_over : Readings → Record → Option Io
io_over r (Unblock s t a) = find (is_io_of a) r.under_way
io_over r (Fetched s) = find (fetches s.0) r.under_way
io_over r _ = None

abbrev pub is_io_of_other : ActNo → Io → Bool
is_io_of_other a io = not (is_io_of a io)

abbrev pub fetches_other : SpaceNo → Io → Bool
fetches_other s io = not (fetches s.0 io)

abbrev pub under_way_after : WorkloadView → ℕ → Readings → Record → List Io
under_way_after w e r (Block s t a io) = with_io e (blocking w r s t a) r
under_way_after w e r (Fetch s) = with_io e (record { kind = Upcall s; length = w.fetch }) r
under_way_after w e r (Unblock s t a) = filter (is_io_of_other a) r.under_way
under_way_after w e r (Fetched s) = filter (fetches_other s) r.under_way
under_way_after w e r _ = r.under_way

-- A page is resident by the last of the workload's absent lines, the evict lines up to the event, and the completions
-- of I/Os for it. (The evict lines of an event come at its beginning.)
abbrev pub with_page : List ℕ → Option Io → List ℕ
with_page pages None = pages
with_page pages (Some io) = completed io.kind pages

abbrev pub pages_after : Readings → Record → List ℕ
pages_after r x = with_page r.pages (io_over r x)

-- A ready thread's list is the first of its life's locks at its ready record.
abbrev pub list_of : Option Lock → ProcNo → ProcNo
list_of None p = p
list_of (Some lock) p = lock.list

abbrev pub first_list : Option Life → ProcNo → ProcNo
first_list None p = p
first_list (Some life) p = list_of (first_lock life) p

abbrev pub is_other_thread : ThreadNo → Listed → Bool
is_other_thread t listed = not (listed.thread.0 == t.0)

abbrev pub ready_after : ProcNo → Readings → Record → List (List Listed)
ready_after p r (Ready s t) = slice_set r.ready s.0 (ready_of r s ++ record { thread = t; list = first_list (life_on r p) p } ∷ [])
ready_after p r (Run s t) = slice_set r.ready s.0 (filter (is_other_thread t) (ready_of r s))
ready_after p r _ = r.ready

-- Lives. An up begins one, and the telling of a stop or an unblock hands the locks and the hand of that life over to
-- the life of the up. A take adds a lock, for a push where the hand is not empty; a free removes the first. Forked and
-- woken threads, and those of stops, unblocks and backs, join the hand; a ready takes its thread from it. A giveback
-- ends the use of the number.
abbrev pub lock_for : Readings → ProcNo → ProcNo → Option ThreadNo → Life → Lock
lock_for r p l t life = record {
  list = l;
  thread = t;
  for_push = has_hand r life;
  used = false;
  own = l.0 == p.0;
  inherited = false;
}

abbrev pub locks : Readings → ProcNo → ProcNo → Option ThreadNo → Life → Life
locks r p l t life = with_lock (lock_for r p l t life) life

abbrev pub one_thread : Option ThreadNo → List ThreadNo
one_thread None = []
one_thread (Some t) = t ∷ []

-- a life is idle where it is not in and carries no thread
abbrev pub stopped_with : Option ThreadNo → Life → Life
stopped_with t life = record (held_with t (with_hand (one_thread t) life)) { idle = not life.inside && is_none t }

abbrev pub back_with : Option ThreadNo → Life → Life
back_with t life = with_cont false (with_hand (one_thread t) life)

abbrev pub made_ready : ThreadNo → Life → Life
made_ready t life = with_first readied (without_thread t life)

-- the lives, one of which is changed
abbrev pub with_life : (Life → Life) → Option ActNo → (ℕ → Option Life) → ℕ → Option Life
with_life f None lives = lives
with_life f (Some a) lives = put lives a.0 (option_map f (lives a.0))

-- a life is told of another: it inherits what that one has
abbrev pub handed : Option ActNo → ActNo → Option Life → (ℕ → Option Life) → ℕ → Option Life
handed upped a None lives = lives
handed upped a (Some from) lives = with_life (inherits from) upped (with_life bereft (Some a) lives)

abbrev pub lives_after : WorkloadView → ProcNo → Readings → Record → ℕ → Option Life
lives_after w p r (Ins s t i) = with_life (with_hand (next_effect w r.state s t).roused) (running_of r p) r.lives
lives_after w p r (Run s t) = with_life (with_first (ran t)) (running_of r p) r.lives
lives_after w p r (Stop s t a) = with_life (stopped_with t) (Some a) r.lives
lives_after w p r (Block s t a io) = with_life (held_with t) (Some a) r.lives
lives_after w p r (Unblock s t a) = with_life (with_hand (one_thread t)) (Some a) r.lives
lives_after w p r (Cont s t) = with_life (with_cont true) (running_of r p) r.lives
lives_after w p r (Back s t) = with_life (back_with t) (running_of r p) r.lives
lives_after w p r (Ready s t) = with_life (made_ready t) (running_of r p) r.lives
lives_after w p r (Take s l t) = with_life (locks r p l t) (running_of r p) r.lives
lives_after w p r (Free s l t) = with_life without_lock (running_of r p) r.lives
lives_after w p r (Up s a) = put r.lives a.0 (Some (new_life s p))
lives_after w p r (Told (note.Preempted a)) = handed r.upped a (life_of r a) r.lives
lives_after w p r (Told (note.Unblocked a)) = handed r.upped a (life_of r a) r.lives
lives_after w p r (GiveBack a) = put r.lives a.0 None
lives_after w p r _ = r.lives

-- The readings after a record of event e of processor p.
abbrev pub after_record : WorkloadView → ℕ → ProcNo → Readings → Record → Readings
after_record w e p r x = record {
  number = r.number;
  state = changed w p r.state x;
  aims = aims_after r.aims x;
  lines = lines_after e r.lines x;
  marks = marks_after p r x;
  running = running_after p r.running x;
  lives = lives_after w p r x;
  taken = taken_after r x;
  demands = demands_after r.demands x;
  untold = untold_after r x;
  io_count = io_count_after r.io_count x;
  under_way = under_way_after w e r x;
  pages = pages_after r x;
  ready = ready_after p r x;
  upped = upped_after r.upped x;
  last = Some x;
  moved = moved_after r.moved x;
}
