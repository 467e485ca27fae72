-- Which cells stay in an event for certain: the records that can change what a cell's text is made of, and what of it is the same at two moments.
use Rattle.std.specs.Prelude.{◌≡◌, ℕ, ◌-◌, ◌==◌, nat_lt, nat_le, Bool, true, false, not, ◌&&◌, if◌then◌else◌, List, [], ◌∷◌, length, Option, Some, None}
use Rattle.std.specs.List.{list_any}
use Rattle.sa_base.specs.declared.number.ProcNo.{ProcNo}
use Rattle.sa_base.specs.declared.number.SpaceNo.{SpaceNo}
use Rattle.sa_base.specs.declared.number.ThreadNo.{ThreadNo}
use Rattle.sa_base.specs.declared.number.ActNo.{ActNo}
use Rattle.sa_base.specs.declared.record.Record.{Record}
use Rattle.sa_base.specs.declared.record.Record.TheVariants as the
use Rattle.sa_instr.specs.declared.instr.Instr.{Instr}
use Rattle.sa_instr.specs.declared.instr.Instr.TheVariants as instr
use Rattle.sa_spaces.specs.Workload.{WorkloadView}
use Rattle.sa_sync.specs.Sync.{Sync, mutex_at}
use Rattle.sa_laws.specs.declared.place.Place.{Place}
use Rattle.sa_laws.specs.declared.place.Place.TheVariants.{Running, Ready, Blocked, Waiting, Carried, Done}
use Rattle.sa_laws.specs.Event.{Event}
use Rattle.sa_laws.specs.State.{Thread, State, space_at, thread_in, instr_of, next_instr}
use Rattle.sa_laws.specs.Life.{Life, has_lock}
use Rattle.sa_laws.specs.Readings.{Readings, line_of, life_of, life_on}
use Rattle.sa_laws.specs.Record.{is_thread}
use Rattle.sa_laws.specs.History.{Test, after_event}
use Rattle.sa_check_moment.specs.Seen.{Seen, event}
use Rattle.sa_cells.specs.declared.cell.Cell.{Cell}
use Rattle.sa_cells.specs.declared.cell.Cell.TheVariants.{Owner, Aim, Line, Activation, Runs, Demand, Untold, Listed, Thread as ThreadCell, Mutex, Semaphore, Shared, Where, Locks, Hand}
use Rattle.sa_cells.specs.Life.{is_on}
use Rattle.sa_cells.specs.Processor.{carried_on}
use Rattle.sa_cells.specs.Thread.{waits}

-- a moment is that after an event, before which the other was
pub record IsAfter (before m : Seen) (e : Event) : Type 0 where
  pub test : Test
  pub is : m ≡ record before { readings = after_event test before.workload before.readings e }

-- BY RECORDS. Those that change an owner, an aim, a demand, what runs on a processor, what a space was not told; the ready list, a thread
-- and what the threads wait on of a space
abbrev pub is_move : Record → Bool
is_move (the.Move old new) = true
is_move other = false

abbrev pub is_aim : Record → Bool
is_aim (the.Aim p s) = true
is_aim other = false

abbrev pub is_want : Record → Bool
is_want (the.Want s n) = true
is_want other = false

abbrev pub is_switch : Record → Bool
is_switch (the.Stop s t a) = true
is_switch (the.Block s t a io) = true
is_switch (the.Up s a) = true
is_switch other = false

abbrev pub is_news : Record → Bool
is_news (the.Stop s t a) = true
is_news (the.Block s t a io) = true
is_news (the.Unblock s t a) = true
is_news (the.Told note) = true
is_news other = false

abbrev pub is_listing : SpaceNo → Record → Bool
is_listing s (the.Run u t) = u.0 == s.0
is_listing s (the.Ready u t) = u.0 == s.0
is_listing s other = false

abbrev pub is_instr : SpaceNo → Record → Bool
is_instr s (the.Ins u t i) = u.0 == s.0
is_instr s other = false

abbrev pub is_threads : SpaceNo → Record → Bool
is_threads s (the.Ins u t i) = u.0 == s.0
is_threads s (the.Run u t) = u.0 == s.0
is_threads s (the.Stop u t a) = u.0 == s.0
is_threads s (the.Block u t a io) = u.0 == s.0
is_threads s (the.Unblock u t a) = u.0 == s.0
is_threads s (the.Cont u t) = u.0 == s.0
is_threads s (the.Back u t) = u.0 == s.0
is_threads s (the.Ready u t) = u.0 == s.0
is_threads s other = false

-- the record can change the cell, which is one of those that are told by records alone
abbrev pub is_told : Cell → Bool
is_told (Owner p) = true
is_told (Aim p) = true
is_told (Activation p) = true
is_told (Demand s) = true
is_told (Untold s) = true
is_told (Listed s l) = true
is_told (ThreadCell s t) = true
is_told (Mutex s m) = true
is_told (Semaphore s k) = true
is_told (Shared s c) = true
is_told other = false

abbrev pub touches : Cell → Record → Bool
touches (Owner p) x = is_move x
touches (Aim p) x = is_aim x
touches (Activation p) x = is_switch x
touches (Demand s) x = is_want x
touches (Untold s) x = is_news x
touches (Listed s l) x = is_listing s x
touches (ThreadCell s t) x = is_threads s x
touches (Mutex s m) x = is_instr s x
touches (Semaphore s k) x = is_instr s x
touches (Shared s c) x = is_instr s x
touches other x = true

abbrev pub stays : List Record → Cell → Bool
stays records c = is_told c && not (list_any (touches c) records)

-- BY THREADS. The instruction changes only its own thread
abbrev pub is_calm_instr : Instr → Bool
is_calm_instr (instr.Store r c) = false
is_calm_instr (instr.Fork r g) = false
is_calm_instr (instr.Join r) = false
is_calm_instr (instr.Lock m) = false
is_calm_instr (instr.Unlock m) = false
is_calm_instr (instr.Wait k) = false
is_calm_instr (instr.Signal k) = false
is_calm_instr instr.End = false
is_calm_instr i = true

abbrev pub is_ins : Record → Bool
is_ins (the.Ins s t i) = true
is_ins other = false

abbrev pub is_calm : WorkloadView → State → Record → Bool
is_calm w a (the.Ins s t i) = is_calm_instr (next_instr w a s t)
is_calm w a other = true

-- so of all records of an event, of which only the first may be of an instruction
abbrev pub are_calm : WorkloadView → State → List Record → Bool
are_calm w a [] = true
are_calm w a (x ∷ xs) = is_calm w a x && not (list_any is_ins xs)

-- the thread of a space that a record names
abbrev pub if_of : SpaceNo → SpaceNo → Option ThreadNo → Option ThreadNo
if_of s u t = if u.0 == s.0 then t else None

abbrev pub named : SpaceNo → Record → Option ThreadNo
named s (the.Ins u t i) = if_of s u (Some t)
named s (the.Run u t) = if_of s u (Some t)
named s (the.Stop u t a) = if_of s u t
named s (the.Block u t a io) = if_of s u t
named s (the.Unblock u t a) = if_of s u t
named s (the.Cont u t) = if_of s u t
named s (the.Back u t) = if_of s u t
named s (the.Ready u t) = if_of s u (Some t)
named s other = None

-- the record can change this thread: it names it, or it is of an instruction of the space that is not calm
abbrev pub reaches : Bool → SpaceNo → ThreadNo → Record → Bool
reaches calm s t x = if is_instr s x && not calm then true else is_thread t (named s x)

-- the first thread of a space from one on that a record, and that some of these records reach; the end, if there is none below it
abbrev pub first_from : ℕ → ℕ → Option ThreadNo → ℕ
first_from from end None = end
first_from from end (Some t) = if nat_le from t.0 && nat_lt t.0 end then t.0 else end

abbrev pub first_reached : Bool → SpaceNo → ℕ → ℕ → Record → ℕ
first_reached calm s from end x = if is_instr s x && not calm then from else first_from from end (named s x)

abbrev pub next_reached : Bool → SpaceNo → ℕ → ℕ → List Record → ℕ
next_reached calm s from end [] = end
next_reached calm s from end (x ∷ xs) = next_reached calm s from (first_reached calm s from end x) xs

-- BY EVENTS. The record can change more than a thread, what runs in a life and its hand: an owner, an aim, a demand, what runs on a processor,
-- what a space was not told, a ready list, a lock, where a life is, and those among whom the holder of a lock is looked for
abbrev pub is_loud : Record → Bool
is_loud (the.Ins s t i) = false
is_loud (the.Out s t n) = false
is_loud (the.Cont s t) = false
is_loud (the.Back s t) = false
is_loud (the.Line q) = false
is_loud the.Idle = false
is_loud (the.Spin l) = false
is_loud the.Tick = false
is_loud other = true

-- BY WHAT IS THERE. What the text of a cell is made of is the same at two moments
abbrev pub same_flag : Bool → Bool → Bool
same_flag a b = if a then b else not b

abbrev pub same_line : Option ℕ → Option ℕ → Bool
same_line None None = true
same_line (Some m) (Some n) = m == n
same_line a b = false

abbrev pub same_thread : Option ThreadNo → Option ThreadNo → Bool
same_thread None None = true
same_thread (Some t) (Some u) = t.0 == u.0
same_thread a b = false

abbrev pub same_run : Life → Life → Bool
same_run x y = same_flag x.cont y.cont && x.scans == y.scans

-- lives of both moments, where there are such
abbrev pub both_if : (Life → Life → Bool) → Option Life → Option Life → Bool
both_if test None o = false
both_if test (Some x) None = false
both_if test (Some x) (Some y) = test x y

abbrev pub runs_same : Readings → Readings → ProcNo → Bool
runs_same a b p = both_if same_run (life_on a p) (life_on b p) && same_thread (carried_on a p) (carried_on b p)

-- the life runs, as before
abbrev pub same_place : Readings → Readings → ActNo → Life → Life → Bool
same_place a b c x y = x.space.0 == y.space.0 && (x.proc.0 == y.proc.0 && (is_on a c x && is_on b c y))

-- neither has a lock; neither has a thread in hand
abbrev pub no_lock : Life → Life → Bool
no_lock x y = not (has_lock x) && not (has_lock y)

abbrev pub no_hand : Life → Life → Bool
no_hand x y = length x.hand == 0 && length y.hand == 0

abbrev pub same_at : (Life → Life → Bool) → Readings → Readings → ActNo → Bool
same_at test a b c = both_if test (life_of a c) (life_of b c)

-- a thread stands at the same instruction, in the same place, and waits for the same, if it waits
abbrev pub same_where : Place → Place → Bool
same_where (Running p) (Running q) = p.0 == q.0
same_where Ready Ready = true
same_where Blocked Blocked = true
same_where Waiting Waiting = true
same_where Carried Carried = true
same_where Done Done = true
same_where a b = false

abbrev pub same_standing : Thread → Thread → Bool
same_standing x y = x.program == y.program && (x.pc == y.pc && same_where x.place y.place)

abbrev pub same_awaited : Sync → Sync → Instr → Bool
same_awaited x y (instr.Lock m) = same_line (mutex_at x m).holder (mutex_at y m).holder
same_awaited x y other = true

abbrev pub same_wait : WorkloadView → State → State → SpaceNo → ThreadNo → ℕ → Bool
same_wait w a b s t pc =
    if waits a s t then waits b s t && same_awaited (space_at a s).sync (space_at b s).sync (instr_of w a s t (pc - 1)) else not (waits b s t)

abbrev pub made_same : WorkloadView → State → State → SpaceNo → ThreadNo → Bool
made_same w a b s t =
    same_standing (thread_in (space_at a s) t) (thread_in (space_at b s) t) && same_wait w a b s t (thread_in (space_at a s) t).pc

abbrev pub has_made : State → SpaceNo → ThreadNo → Bool
has_made a s t = nat_lt t.0 (length (space_at a s).threads)

abbrev pub thread_same : WorkloadView → State → State → SpaceNo → ThreadNo → Bool
thread_same w a b s t =
    if nat_lt s.0 (length a.spaces) && nat_lt s.0 (length b.spaces)
    then has_made a s t && (has_made b s t && made_same w a b s t)
    else false

abbrev pub is_same : Seen → Seen → Cell → Bool
is_same m n (Line p) = same_line (line_of m.readings p) (line_of n.readings p)
is_same m n (Runs p) = runs_same m.readings n.readings p
is_same m n (ThreadCell s t) = thread_same m.workload m.readings.state n.readings.state s t
is_same m n (Where a) = same_at (same_place m.readings n.readings a) m.readings n.readings a
is_same m n (Locks a) = same_at no_lock m.readings n.readings a
is_same m n (Hand a) = same_at no_hand m.readings n.readings a
is_same m n other = false

-- the same of an event's parts
abbrev pub Follows : Seen → Seen → ℕ → ProcNo → List Record → Type 0
Follows before m number p records = IsAfter before m (event number p records)
