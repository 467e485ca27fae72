-- What the threads of one space wait on: mutexes, semaphores and one another; and the cells that they share.
-- Threads, mutexes, semaphores and cells are numbered from 0. A queue has the thread that came first at its front.
use Rattle.std.specs.Prelude.{◌≡◌, ℕ, ◌≤◌, ◌<◌, Bool, false, List, [], ◌++◌, map, replicate, Option, None, slice_index, slice_index_or, slice_set}
use Rattle.sa_spaces.specs.Space.{SpaceView}
use Rattle.sa_links.specs.Lists.{list_at, count_in_all}
use Rattle.sa_base.specs.declared.limits.TheConstants.{MAX_THREADS}

-- who holds a mutex, and who waits for it
pub record Mutex : Type 0 where
  pub holder : Option ℕ
  pub queue : List ℕ

-- the count of a semaphore, and who waits for it
pub record Semaphore : Type 0 where
  pub count : ℕ
  pub queue : List ℕ

pub record Sync : Type 0 where
  pub mutexes : List Mutex
  pub semaphores : List Semaphore
  -- for each thread, those that wait until it is done
  pub joiners : List (List ℕ)
  -- whether each thread is done
  pub done : List Bool
  -- what each cell holds
  pub cells : List ℕ

abbrev pub free_mutex : Mutex
free_mutex = record { holder = None; queue = [] }

abbrev pub semaphore_of : ℕ → Semaphore
semaphore_of count = record { count = count; queue = [] }

-- at the opening of a space nothing is held, nobody waits, no thread is done, and each cell is 0
abbrev pub opening : SpaceView → Sync
opening space = record {
  mutexes = replicate space.mutexes free_mutex;
  semaphores = map semaphore_of space.sems;
  joiners = replicate MAX_THREADS [];
  done = replicate MAX_THREADS false;
  cells = replicate space.cells 0;
}

abbrev pub mutex_at : Sync → ℕ → Mutex
mutex_at s m = slice_index_or s.mutexes m free_mutex

abbrev pub semaphore_at : Sync → ℕ → Semaphore
semaphore_at s k = slice_index_or s.semaphores k (semaphore_of 0)

abbrev pub joiners_at : Sync → ℕ → List ℕ
joiners_at s t = list_at s.joiners t

abbrev pub is_done : Sync → ℕ → Bool
is_done s t = slice_index_or s.done t false

abbrev pub cell_at : Sync → ℕ → ℕ
cell_at s c = slice_index s.cells c

-- the same, but for one mutex, one semaphore, the joiners of one thread
abbrev pub with_mutex : Sync → ℕ → Option ℕ → List ℕ → Sync
with_mutex s m holder queue = record s { mutexes = slice_set s.mutexes m (record { holder = holder; queue = queue }) }

abbrev pub with_semaphore : Sync → ℕ → ℕ → List ℕ → Sync
with_semaphore s k count queue = record s { semaphores = slice_set s.semaphores k (record { count = count; queue = queue }) }

abbrev pub with_joiners : Sync → ℕ → List ℕ → Sync
with_joiners s t queue = record s { joiners = slice_set s.joiners t queue }

-- all queues, and how often a thread is in them
abbrev pub queues_of : Sync → List (List ℕ)
queues_of s = s.joiners ++ map (λ m. m.queue) s.mutexes ++ map (λ k. k.queue) s.semaphores

abbrev pub waits_of : Sync → ℕ → ℕ
waits_of s t = count_in_all t (queues_of s)

abbrev pub WaitsNowhere : Sync → ℕ → Type 0
WaitsNowhere s t = waits_of s t ≡ 0

abbrev pub Waits : Sync → ℕ → Type 0
Waits s t = 1 ≤ waits_of s t

-- only threads wait, each in one queue at most, and once in it
pub record WaitsOnce (s : Sync) : Type 0 where
  pub threads : (t : ℕ) → Waits s t → t < MAX_THREADS
  pub once : (t : ℕ) → waits_of s t ≤ 1
