-- How the fields of a state show its value: the queues lie in one block of lists, first those that join each
-- thread, then those of the mutexes, then those of the semaphores.
use Rattle.std.specs.Prelude.{◌≡◌, ℕ, ◌+◌, ◌≤◌, Bool, List, length, take, drop, Option}
use Rattle.std.specs.Option.{option_map}
use Rattle.std.specs.Simd.Lanes.{zip2}
use Rattle.sa_base.specs.declared.number.ThreadNo.{ThreadNo}
use Rattle.sa_sync.specs.Sync.{Sync, Mutex, Semaphore}
use Rattle.sa_base.specs.declared.limits.TheConstants.{MAX_THREADS}
use Rattle.sa_instr.specs.declared.limits.TheConstants.{MAX_MUTEXES, MAX_SEMAPHORES}
use Rattle.sa_sync.specs.declared.state.SyncState.TheInside.{Inside}

abbrev pub mutex_of : Option ThreadNo → List ℕ → Mutex
mutex_of holder queue = record { holder = option_map (λ t. t.0) holder; queue = queue }

abbrev pub semaphore_of : ℕ → List ℕ → Semaphore
semaphore_of count queue = record { count = count; queue = queue }

abbrev pub shown : List (Option ThreadNo) → List ℕ → List (List ℕ) → List Bool → List ℕ → Sync
shown holders counts queues done cells = record {
  mutexes = zip2 mutex_of holders (drop MAX_THREADS queues);
  semaphores = zip2 semaphore_of counts (drop (MAX_THREADS + length holders) queues);
  joiners = take MAX_THREADS queues;
  done = done;
  cells = cells;
}

abbrev pub sync_of : Inside → Sync
sync_of s = shown s.holders.items s.counts.items s.queues.lists s.done.items s.cells.items

-- there is a queue for each thread, mutex and semaphore
abbrev pub HasQueues : List (Option ThreadNo) → List ℕ → List (List ℕ) → Type 0
HasQueues holders counts queues = length queues ≡ MAX_THREADS + length holders + length counts

-- mutexes and semaphores are few, and each thread is done or not
pub record IsState (s : Inside) : Type 0 where
  pub threads : s.queues.nodes ≡ MAX_THREADS
  pub queues : HasQueues s.holders.items s.counts.items s.queues.lists
  pub done : length s.done.items ≡ MAX_THREADS
  pub mutexes : length s.holders.items ≤ MAX_MUTEXES
  pub semaphores : length s.counts.items ≤ MAX_SEMAPHORES
