-- Who has which thread, and where each virtual processor is.
use Rattle.std.specs.Prelude.{◌≡◌, ℕ, zero, suc, All, ◌+◌, ◌*◌, ◌<◌, ◌≤◌, ◌==◌, ◌&&◌, nat_lt, Bool, false, if◌then◌else◌, List, [], length, map, sum_by, count_by, Option, Some, None, slice_index_or}
use Rattle.sa_base.specs.declared.number.ProcNo.{ProcNo}
use Rattle.sa_base.specs.declared.number.SpaceNo.{SpaceNo}
use Rattle.sa_base.specs.declared.number.ThreadNo.{ThreadNo}
use Rattle.sa_base.specs.declared.number.ActNo.{ActNo}
use Rattle.sa_base.specs.declared.limits.TheConstants.{MAX_PROCESSORS, MAX_THREADS}
use Rattle.sa_spaces.specs.Workload.{WorkloadView}
use Rattle.sa_links.specs.Lists.{count_in}
use Rattle.sa_sync.specs.Sync.{waits_of}
use Rattle.sa_devices.specs.Ios.{Io}
use Rattle.sa_devices.specs.declared.kind.IoKind.{IoKind}
use Rattle.sa_devices.specs.declared.kind.IoKind.TheVariants.{Plain, Page, Upcall}
use Rattle.sa_laws.specs.declared.place.Place.{Place}
use Rattle.sa_laws.specs.declared.place.Place.TheVariants.{Ready, Blocked, Carried}
use Rattle.sa_laws.specs.State.{State, SpaceState, Runner, thread_in, is_waiting, owner_at}
use Rattle.sa_laws.specs.Life.{Life, has_lock}
use Rattle.sa_laws.specs.Readings.{Listed}
use Rattle.sa_laws.specs.Record.{is_io_of}
use Rattle.sa_replay.specs.Running.{IsAt}
use Rattle.sa_laws.specs.State.{space_def}
use Rattle.sa_replay.specs.Spaces.{space_in}
use Rattle.sa_replay.specs.Index.{runner_at}
use Rattle.sa_replay.specs.Inside.{IsReplay}
use Rattle.sa_virtual.specs.Virtual.{Virtuals, space_of, list_of, thread_of_life}

abbrev pub one_where : Bool → ℕ
one_where b = if b then 1 else 0

abbrev pub one_if : ℕ → ℕ → ℕ
one_if n t = if n == t then 1 else 0

-- WHERE A VIRTUAL PROCESSOR IS: in the queue, on a processor, or blocked: in one of them, and once
abbrev pub in_queue : List ActNo → ℕ → ℕ
in_queue queue a = count_by (λ (b : ActNo). b.0 == a) queue

abbrev pub is_one : ℕ → Option ActNo → Bool
is_one a None = false
is_one a (Some b) = b.0 == a

abbrev pub on_processors : List (Option ActNo) → ℕ → ℕ
on_processors placed a = count_by (is_one a) placed

abbrev pub in_ios : List Io → ℕ → ℕ
in_ios ios a = count_by (is_io_of (record { 0 = a })) ios

-- there is a virtual processor of this number
abbrev pub is_virtual : WorkloadView → ActNo → Bool
is_virtual w a = nat_lt (space_of a).0 (length w.spaces) && nat_lt (list_of a).0 w.processors

abbrev pub AreOnce : WorkloadView → List ActNo → List (Option ActNo) → List Io → Type 0
AreOnce w queue placed ios =
    (a : ℕ) → in_queue queue a + on_processors placed a + in_ios ios a ≡ one_where (is_virtual w (record { 0 = a }))

-- WHO HAS A THREAD: how often one is carried by those of a queue, blocked with those of I/Os, listed, due in work lists
abbrev pub one_of : Option ThreadNo → ℕ → ℕ
one_of None t = 0
one_of (Some n) t = one_if n.0 t

-- of virtual processor a, where these are their threads
abbrev pub holds : (ℕ → Option ThreadNo) → ℕ → ℕ → ActNo → ℕ
holds threads s t a = if (space_of a).0 == s then one_of (threads a.0) t else 0

abbrev pub holds_for : (ℕ → Option ThreadNo) → ℕ → ℕ → IoKind → ℕ
holds_for threads s t (Plain r a) = holds threads s t a
holds_for threads s t (Page r a k) = holds threads s t a
holds_for threads s t (Upcall r) = 0

abbrev pub carried : (ℕ → Option ThreadNo) → List ActNo → ℕ → ℕ → ℕ
carried threads queue s t = sum_by (holds threads s t) queue

abbrev pub blocked : (ℕ → Option ThreadNo) → List Io → ℕ → ℕ → ℕ
blocked threads ios s t = sum_by (λ (io : Io). holds_for threads s t io.kind) ios

abbrev pub listed : List (List Listed) → ℕ → ℕ → ℕ
listed ready s t = count_by (λ (x : Listed). x.thread.0 == t) (slice_index_or ready s [])

abbrev pub numbers : List ThreadNo → List ℕ
numbers ts = map (λ (t : ThreadNo). t.0) ts

-- those of the work lists of the first n virtual processors of a space
abbrev pub worked : (ℕ → List ThreadNo) → ℕ → ℕ → ℕ → ℕ
worked work zero s t = 0
worked work (suc n) s t = worked work n s t + count_in t (numbers (work (MAX_PROCESSORS * s + n)))

-- PLACES agree: a thread is Ready exactly where it is listed, Carried with one of the queue, Blocked with one of an I/O,
-- and Waiting in a queue of its space or in a work list; in no two of these, and in none twice
abbrev pub kind : Place → ℕ
kind Ready = 1
kind Carried = 2
kind Blocked = 3
kind _ = 0

pub record Agrees (ready carries blocks waits : ℕ) (place : Place) : Type 0 where
  pub in_lists : ready ≡ one_if (kind place) 1
  pub in_queue : carries ≡ one_if (kind place) 2
  pub in_ios : blocks ≡ one_if (kind place) 3
  pub in_work : waits ≡ one_where (is_waiting place)

-- the counts of all threads, and where they are
pub record Counts : Type 0 where
  pub ready : ℕ → ℕ → ℕ
  pub carries : ℕ → ℕ → ℕ
  pub blocks : ℕ → ℕ → ℕ
  pub works : ℕ → ℕ → ℕ

abbrev pub at_no : List SpaceState → ℕ → SpaceState
at_no spaces s = space_in spaces (record { 0 = s })

abbrev pub place_no : SpaceState → ℕ → Place
place_no x t = (thread_in x (record { 0 = t })).place

abbrev pub AgreesAt : Counts → List SpaceState → ℕ → ℕ → Type 0
AgreesAt c spaces s t =
    Agrees (c.ready s t) (c.carries s t) (c.blocks s t) (waits_of (at_no spaces s).sync t + c.works s t) (place_no (at_no spaces s) t)

abbrev pub AllAgree : Counts → List SpaceState → Type 0
AllAgree c spaces = (s t : ℕ) → AgreesAt c spaces s t

abbrev pub threads_of : (ℕ → Option Life) → ℕ → Option ThreadNo
threads_of lives a = thread_of_life (lives a)

-- what the invariant speaks of
pub record Parts : Type 0 where
  pub state : State
  pub lives : ℕ → Option Life
  pub ios : List Io
  pub queue : List ActNo
  pub placed : List (Option ActNo)
  pub work : ℕ → List ThreadNo
  pub ready : List (List Listed)

abbrev pub parts_of : Virtuals → Parts
parts_of v = record {
  state = v.base.state;
  lives = v.base.lives;
  ios = v.base.under_way;
  queue = v.queue;
  placed = v.placed;
  work = v.work;
  ready = v.ready;
}

abbrev pub counts_of : ℕ → (ℕ → Option ThreadNo) → Parts → Counts
counts_of processors threads v = record {
  ready = listed v.ready;
  carries = carried threads v.queue;
  blocks = blocked threads v.ios;
  works = worked v.work processors;
}

-- WHO RUNS: the thread of a processor is of the space of the one that is placed there, which owns it
pub record RunsForOwner (owner : Option SpaceNo) (runner : Option Runner) (placed : Option ActNo) : Type 0 where
  pub owned : (a : ActNo) → placed ≡ Some a → owner ≡ Some (space_of a)
  pub runs : (x : Runner) → runner ≡ Some x → (a : ActNo) × (placed ≡ Some a) × (x.space ≡ space_of a)

-- each life is that of its space, and has no lock
abbrev pub HaveLives : WorkloadView → (ℕ → Option Life) → Type 0
HaveLives w lives =
    (a : ActNo) → (life : Life) × (lives a.0 ≡ Some life) × (life.space ≡ space_of a) × (has_lock life ≡ false)

-- an I/O is for a virtual processor of its space
abbrev pub IsOwn : IoKind → Type 0
IsOwn (Plain s a) = s ≡ space_of a
IsOwn (Page s a k) = s ≡ space_of a
IsOwn (Upcall s) = ⊥

-- each thread that was made is within its program
abbrev pub StandWithin : WorkloadView → List SpaceState → Type 0
StandWithin w spaces =
    (s t : ℕ) → t < length (at_no spaces s).threads → IsAt (space_def w (record { 0 = s })) (thread_in (at_no spaces s) (record { 0 = t }))

-- a space has no more threads than it can have
pub record IsSized (x : SpaceState) : Type 0 where
  pub few : length x.threads ≤ MAX_THREADS
  pub joiners : length x.sync.joiners ≡ MAX_THREADS

pub record Holds (w : WorkloadView) (v : Parts) (runners : List (Option Runner)) : Type 0 where
  pub replay : IsReplay w v.state.spaces v.state.owners runners
  pub owners : length v.state.owners ≡ w.processors
  pub sized : (s : ℕ) → IsSized (at_no v.state.spaces s)
  pub within : StandWithin w v.state.spaces
  pub processors : length v.placed ≡ w.processors
  pub spaces : length v.ready ≡ length w.spaces
  pub once : AreOnce w v.queue v.placed v.ios
  pub fits : (p : ProcNo) → RunsForOwner (owner_at v.state p) (runner_at runners p) (slice_index_or v.placed p.0 None)
  pub lives : HaveLives w v.lives
  pub ios : All (λ (io : Io). IsOwn io.kind) v.ios
  pub agree : AllAgree (counts_of w.processors (threads_of v.lives) v) v.state.spaces

-- some runners make it hold
pub record Stands (w : WorkloadView) (v : Parts) : Type 0 where
  pub runners : List (Option Runner)
  pub holds : Holds w v runners
