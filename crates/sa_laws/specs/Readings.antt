-- What is read off a history at a moment. Lists have one entry for each processor, or for each space.
use Rattle.std.specs.Prelude.{◌≡◌, ℕ, ◌+◌, ◌==◌, nat_le, Bool, true, false, not, ◌||◌, min, if◌then◌else◌, sum_by, Contains, List, [], ◌∷◌, map, length, replicate, Option, Some, None, is_none, slice_index, slice_index_or}
use Rattle.std.specs.List.{list_any}
use Rattle.std.specs.Option.{option_map}
use Rattle.sa_base.specs.declared.number.ProcNo.{ProcNo}
use Rattle.sa_base.specs.declared.number.SpaceNo.{SpaceNo}
use Rattle.sa_base.specs.declared.number.ThreadNo.{ThreadNo}
use Rattle.sa_base.specs.declared.number.ActNo.{ActNo}
use Rattle.sa_base.specs.declared.record.Note.{Note}
use Rattle.sa_base.specs.declared.record.Note.TheVariants.{Preempted, Unblocked}
use Rattle.sa_base.specs.declared.record.Record.{Record}
use Rattle.sa_base.specs.declared.limits.TheConstants.{BULK_RETURN}
use Rattle.sa_spaces.specs.Workload.{WorkloadView}
use Rattle.sa_devices.specs.Ios.{Io, fetches}
use Rattle.sa_devices.specs.Pages.{opening_pages}
use Rattle.sa_base.specs.Pages.{has_page}
use Rattle.sa_laws.specs.State.{State, SpaceState, Runner, opening_state, space_at, thread_in, owner_at, runner_on, is_carried, is_due, active_threads}
use Rattle.sa_laws.specs.Life.{Life, Lock}

-- a thread of a ready list
pub record Listed : Type 0 where
  pub thread : ThreadNo
  pub list : ProcNo

pub record Readings : Type 0 where
  -- how many events there were: the number of the next one
  pub number : ℕ
  pub state : State
  -- of each processor: the space of its last aim record; the event that raised its line, none where it is low; its idle
  -- mark
  pub aims : List (Option SpaceNo)
  pub lines : List (Option ℕ)
  pub marks : List Bool
  -- of each processor: its running life
  pub running : List (Option ActNo)
  -- the lives whose numbers are in use
  pub lives : ℕ → Option Life
  -- of each space: the lives that were taken and not given back, in the order of taking
  pub taken : List (List ActNo)
  -- of each space: the number of its last want record
  pub demands : List ℕ
  -- of each space: what it was not told yet, in order
  pub untold : List (List Note)
  -- how many I/Os and fetches were begun, and those under way in the order of their numbers
  pub io_count : ℕ
  pub under_way : List Io
  -- of each space: bit k says that page k is resident
  pub pages : List ℕ
  -- of each space: the ready threads in the order of their ready records, each with its list
  pub ready : List (List Listed)
  -- the life of the last up
  pub upped : Option ActNo
  -- of the event that goes on: the record directly before, and the space that its processor moved to
  pub last : Option Record
  pub moved : Option SpaceNo

-- before any record: thread 0 of each space is ready in list 0
abbrev pub first_listed : Listed
first_listed = record { thread = record { 0 = 0 }; list = record { 0 = 0 } }

abbrev pub opening_readings : WorkloadView → Readings
opening_readings w = record {
  number = 0;
  state = opening_state w;
  aims = replicate w.processors None;
  lines = replicate w.processors None;
  marks = replicate w.processors false;
  running = replicate w.processors None;
  lives = λ a. None;
  taken = replicate (length w.spaces) [];
  demands = replicate (length w.spaces) 0;
  untold = replicate (length w.spaces) [];
  io_count = 0;
  under_way = [];
  pages = map opening_pages w.spaces;
  ready = replicate (length w.spaces) (first_listed ∷ []);
  upped = None;
  last = None;
  moved = None;
}

-- of a processor
abbrev pub aim_of : Readings → ProcNo → Option SpaceNo
aim_of r p = slice_index_or r.aims p.0 None

abbrev pub line_of : Readings → ProcNo → Option ℕ
line_of r p = slice_index_or r.lines p.0 None

abbrev pub owner_of : Readings → ProcNo → Option SpaceNo
owner_of r p = owner_at r.state p

abbrev pub running_of : Readings → ProcNo → Option ActNo
running_of r p = slice_index_or r.running p.0 None

-- a life by its number, and the running life of a processor
abbrev pub life_of : Readings → ActNo → Option Life
life_of r a = r.lives a.0

abbrev pub life_if : Readings → Option ActNo → Option Life
life_if r None = None
life_if r (Some a) = life_of r a

abbrev pub life_on : Readings → ProcNo → Option Life
life_on r p = life_if r (running_of r p)

abbrev pub space_of_life : Readings → Option ActNo → Option SpaceNo
space_of_life r a = option_map (λ (life : Life). life.space) (life_if r a)

-- of a space
abbrev pub demand_of : Readings → SpaceNo → ℕ
demand_of r s = slice_index r.demands s.0

abbrev pub untold_of : Readings → SpaceNo → List Note
untold_of r s = slice_index_or r.untold s.0 []

abbrev pub taken_of : Readings → SpaceNo → List ActNo
taken_of r s = slice_index_or r.taken s.0 []

abbrev pub ready_of : Readings → SpaceNo → List Listed
ready_of r s = slice_index_or r.ready s.0 []

abbrev pub is_resident : Readings → SpaceNo → ℕ → Bool
is_resident r s page = has_page (slice_index r.pages s.0) page

-- the upcall page of a space is being fetched
abbrev pub is_fetching : Readings → SpaceNo → Bool
is_fetching r s = list_any (fetches s.0) r.under_way

-- the load of a space: its ready and running threads, and the threads of its untold stops
abbrev pub stopped_thread : Option Life → ℕ
stopped_thread None = 0
stopped_thread (Some life) = if is_none life.thread then 0 else 1

abbrev pub untold_thread : Readings → Note → ℕ
untold_thread r (Preempted a) = stopped_thread (life_of r a)
untold_thread r _ = 0

abbrev pub load_of : Readings → SpaceNo → ℕ
load_of r s = active_threads (space_at r.state s) + sum_by (untold_thread r) (untold_of r s)

-- how many processors the load of a space can use
abbrev pub usable : WorkloadView → Readings → SpaceNo → ℕ
usable w r s = min w.processors (load_of r s)

-- a life carries the thread that runs on its processor
abbrev pub carried_by : Readings → Life → Option ThreadNo
carried_by r life = option_map (λ (runner : Runner). runner.thread) (runner_on r.state life.proc)

-- the threads of a hand that count are those that are carried or due
abbrev pub counts : SpaceState → ThreadNo → Bool
counts x t = is_carried (thread_in x t).place || is_due x t

abbrev pub has_hand : Readings → Life → Bool
has_hand r life = list_any (counts (space_at r.state life.space)) life.hand

-- 8 or more lives of the space were taken and not given back
abbrev pub many_taken : Readings → SpaceNo → Bool
many_taken r s = nat_le BULK_RETURN (length (taken_of r s))

-- the life has no lock, no cont without its back, and an empty hand
pub record HasNothing (r : Readings) (life : Life) : Type 0 where
  pub locks : life.locks ≡ []
  pub cont : life.cont ≡ false
  pub hand : has_hand r life ≡ false

-- a ready list is locked where some life of its space has it among its locks
pub record HasList (life : Life) (s : SpaceNo) (l : ProcNo) : Type 0 where
  pub space : life.space ≡ s
  pub lock : Lock
  pub among : Contains life.locks lock
  pub list : lock.list ≡ l

pub record IsLocked (r : Readings) (s : SpaceNo) (l : ProcNo) : Type 0 where
  pub act : ActNo
  pub life : Life
  pub is : life_of r act ≡ Some life
  pub has : HasList life s l

-- a ready thread is in this list
abbrev pub is_in : ProcNo → Listed → Bool
is_in l listed = listed.list.0 == l.0

abbrev pub has_ready : Readings → SpaceNo → ProcNo → Bool
has_ready r s l = list_any (is_in l) (ready_of r s)

-- nobody locks it, and a ready thread is in it
pub record IsOpen (r : Readings) (s : SpaceNo) (l : ProcNo) : Type 0 where
  pub ready : has_ready r s l ≡ true
  pub unlocked : IsLocked r s l → ⊥

-- no list of the space is open
pub record NoneIsOpen (r : Readings) (s : SpaceNo) : Type 0 where
  pub locked : (l : ProcNo) → has_ready r s l ≡ true → IsLocked r s l

-- an upcall must be made even where the space wants no processor: a life has come back, or one was stopped that was not
-- idle
abbrev pub was_idle : Option Life → Bool
was_idle None = false
was_idle (Some life) = life.idle

abbrev pub must_hear : Readings → Note → Bool
must_hear r (Preempted a) = not (was_idle (life_of r a))
must_hear r (Unblocked a) = true
must_hear r _ = false
