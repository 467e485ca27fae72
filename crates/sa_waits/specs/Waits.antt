-- What the threads of a state of the abstract machine wait for. A thread waits where it is in a queue.
use Rattle.std.specs.Prelude.{ℕ, zero, suc, ◌+◌, ◌-◌, ◌==◌, Bool, if◌then◌else◌, List, [], ◌∷◌, ◌++◌, length, Option, Some, None}
use Rattle.std.specs.List.{list_any}
use Rattle.std.specs.Option.{option_map, option_or}
use Rattle.sa_base.specs.declared.limits.TheConstants.{MAX_THREADS}
use Rattle.sa_base.specs.declared.number.SpaceNo.{SpaceNo}
use Rattle.sa_sync.specs.Sync.{Sync, mutex_at, semaphore_at, joiners_at}
use Rattle.sa_laws.specs.State.{State, SpaceState, space_at, thread_in}
use Rattle.sa_waits.specs.declared.wait.Awaited.{Awaited}
use Rattle.sa_waits.specs.declared.wait.Awaited.TheVariants.{Mutex, Semaphore, Thread}
use Rattle.sa_waits.specs.declared.wait.Wait.{Wait}

-- the first answer among those of n numbers from k on
unfoldable pub first_from : {A : Type 0} → (ℕ → Option A) → (k n : ℕ) → Option A
first_from f k zero = None
first_from f k (suc n) = option_or (f k) (first_from f (k + 1) n)

-- what comes of the numbers below n, in order
unfoldable pub all_below : {A : Type 0} → (ℕ → List A) → ℕ → List A
all_below f zero = []
all_below f (suc n) = all_below f n ++ f n

abbrev pub is_in : List ℕ → ℕ → Bool
is_in queue t = list_any (λ u. u == t) queue

-- a mutex that another thread holds, where the thread is in its queue
abbrev pub held : Sync → ℕ → ℕ → Option Awaited
held x t m = if is_in (mutex_at x m).queue t then option_map (λ holder. Mutex m (record { 0 = holder })) (mutex_at x m).holder else None

-- a semaphore, where the thread is in its queue
abbrev pub counted : Sync → ℕ → ℕ → Option Awaited
counted x t k = if is_in (semaphore_at x k).queue t then Some (Semaphore k) else None

-- another thread, where the thread joins it
abbrev pub joined : Sync → ℕ → ℕ → Option Awaited
joined x t other = if is_in (joiners_at x other) t then Some (Thread (record { 0 = other })) else None

-- what a thread waits for, if it waits
abbrev pub awaited : Sync → ℕ → Option Awaited
awaited x t =
    option_or (first_from (held x t) 0 (length x.mutexes))
    (option_or (first_from (counted x t) 0 (length x.semaphores)) (first_from (joined x t) 0 MAX_THREADS))

-- the place of the instruction in which a thread waits, by that of its next one
abbrev pub waits_at : ℕ → ℕ
waits_at next = next - 1

-- the thread of this number, where it waits
abbrev pub waiting_for : SpaceNo → SpaceState → ℕ → Option Awaited → List Wait
waiting_for s x t None = []
waiting_for s x t (Some awaits) =
    record { space = s; thread = record { 0 = t }; place = waits_at (thread_in x (record { 0 = t })).pc; awaits = awaits } ∷ []

abbrev pub waiting : SpaceNo → SpaceState → ℕ → List Wait
waiting s x t = waiting_for s x t (awaited x.sync t)

-- the threads of a space that wait, in order
abbrev pub waits_in : SpaceNo → SpaceState → List Wait
waits_in s x = all_below (waiting s x) (length x.threads)

-- the threads of all spaces that wait, in order
abbrev pub waits_of : State → List Wait
waits_of a = all_below (λ s. waits_in (record { 0 = s }) (space_at a (record { 0 = s }))) (length a.spaces)
