-- What holds of the calls, whatever the state: who waits after each, and in what order threads are woken.
use Rattle.std.specs.Prelude.{◌≡◌, ℕ, zero, suc, ◌+◌, ◌≤◌, ◌<◌, ◌==◌, List, [], ◌∷◌, ◌++◌, length, slice_get, if◌then◌else◌}
use Rattle.sa_base.specs.declared.limits.TheConstants.{MAX_THREADS}
use Rattle.sa_sync.specs.declared.answer.SyncAnswer.{SyncAnswer}
use Rattle.sa_sync.specs.declared.answer.SyncAnswer.TheVariants as answer
use Rattle.sa_sync.specs.Sync.{Sync, mutex_at, semaphore_at, joiners_at, waits_of, WaitsNowhere, WaitsOnce}
use Rattle.sa_sync.specs.Calls.{Change, locked, unlocked, waited, signalled, joined, finished, first_joiner, without_joiner, stored}

-- 1 where the answer says that the thread was woken, else 0
abbrev pub woken : SyncAnswer → ℕ → ℕ
woken answer.Goes u = 0
woken answer.Waits u = 0
woken (answer.Wakes t) u = if t.0 == u then 1 else 0

-- 1 where the answer says that the calling thread t waits, and u is that thread, else 0
abbrev pub joining : SyncAnswer → ℕ → ℕ → ℕ
joining answer.Goes t u = 0
joining answer.Waits t u = if t == u then 1 else 0
joining (answer.Wakes woken) t u = 0

-- after a call of thread t each thread is in as many queues as before, but for the caller where it waits, and
-- the one that was woken
abbrev pub TellsWhoWaits : Sync → ℕ → Change → Type 0
TellsWhoWaits s t change = (u : ℕ) → waits_of change.state u + woken change.answer u ≡ waits_of s u + joining change.answer t u

abbrev pub AnswersTellWhoWaits : Type 0
AnswersTellWhoWaits =
    ((s : Sync) (t m : ℕ) → m < length s.mutexes → TellsWhoWaits s t (locked s t m))
    × ((s : Sync) (t m : ℕ) → m < length s.mutexes → TellsWhoWaits s t (unlocked s t m))
    × ((s : Sync) (t k : ℕ) → k < length s.semaphores → TellsWhoWaits s t (waited s t k))
    × ((s : Sync) (t k : ℕ) → k < length s.semaphores → TellsWhoWaits s t (signalled s k))
    × ((s : Sync) (t other made : ℕ) → made ≤ length s.joiners → TellsWhoWaits s t (joined s t other made))

-- what an answer does to the queue: a thread that waits comes last, and the one that came first is woken
abbrev pub IsQueueStep : SyncAnswer → ℕ → List ℕ → List ℕ → Type 0
IsQueueStep answer.Goes t old new = new ≡ old
IsQueueStep answer.Waits t old new = new ≡ old ++ t ∷ []
IsQueueStep (answer.Wakes first) t old new = old ≡ first.0 ∷ new

abbrev pub QueuesAreInOrder : Type 0
QueuesAreInOrder =
    ((s : Sync) (t m : ℕ) → m < length s.mutexes → IsQueueStep (locked s t m).answer t (mutex_at s m).queue (mutex_at (locked s t m).state m).queue)
    × ((s : Sync) (t m : ℕ) → m < length s.mutexes → IsQueueStep (unlocked s t m).answer t (mutex_at s m).queue (mutex_at (unlocked s t m).state m).queue)
    × ((s : Sync) (t k : ℕ) → k < length s.semaphores
    → IsQueueStep (waited s t k).answer t (semaphore_at s k).queue (semaphore_at (waited s t k).state k).queue)
    × ((s : Sync) (t k : ℕ) → k < length s.semaphores
    → IsQueueStep (signalled s k).answer t (semaphore_at s k).queue (semaphore_at (signalled s k).state k).queue)
    × ((s : Sync) (t other made : ℕ) → made ≤ length s.joiners
    → IsQueueStep (joined s t other made).answer t (joiners_at s other) (joiners_at (joined s t other made).state other))

-- the state after as many calls of `next_joiner`
abbrev pub without_joiners : Sync → ℕ → ℕ → Sync
without_joiners s t zero = s
without_joiners s t (suc count) = without_joiners (without_joiner s t) t count

-- of the threads that join one which ends, that one is woken n-th which came n-th
abbrev pub JoinersAreInOrder : Type 0
JoinersAreInOrder = (s : Sync) (t n : ℕ) → t < length s.joiners → first_joiner (without_joiners (finished s t) t n) t ≡ slice_get (joiners_at s t) n

-- each call keeps that a thread is in one queue at most
abbrev pub CallsKeepOneQueue : Type 0
CallsKeepOneQueue =
    ((s : Sync) (t m : ℕ) → WaitsOnce s → t < MAX_THREADS → WaitsNowhere s t → m < length s.mutexes → WaitsOnce (locked s t m).state)
    × ((s : Sync) (t m : ℕ) → WaitsOnce s → m < length s.mutexes → WaitsOnce (unlocked s t m).state)
    × ((s : Sync) (t k : ℕ) → WaitsOnce s → t < MAX_THREADS → WaitsNowhere s t → k < length s.semaphores → WaitsOnce (waited s t k).state)
    × ((s : Sync) (k : ℕ) → WaitsOnce s → k < length s.semaphores → WaitsOnce (signalled s k).state)
    × ((s : Sync) (t other made : ℕ) → WaitsOnce s → t < MAX_THREADS → WaitsNowhere s t → made ≤ length s.joiners → WaitsOnce (joined s t other made).state)
    × ((s : Sync) (t : ℕ) → WaitsOnce s → WaitsOnce (finished s t))
    × ((s : Sync) (t : ℕ) → WaitsOnce s → t < length s.joiners → WaitsOnce (without_joiner s t))

-- the two have as many mutexes, semaphores, threads and cells
pub record SameNumbers (old new : Sync) : Type 0 where
  pub mutexes : length new.mutexes ≡ length old.mutexes
  pub semaphores : length new.semaphores ≡ length old.semaphores
  pub joiners : length new.joiners ≡ length old.joiners
  pub done : length new.done ≡ length old.done
  pub cells : length new.cells ≡ length old.cells

-- what is declared stays declared
abbrev pub CallsKeepNumbers : Type 0
CallsKeepNumbers =
    ((s : Sync) (t m : ℕ) → SameNumbers s (locked s t m).state)
    × ((s : Sync) (t m : ℕ) → SameNumbers s (unlocked s t m).state)
    × ((s : Sync) (t k : ℕ) → SameNumbers s (waited s t k).state)
    × ((s : Sync) (k : ℕ) → SameNumbers s (signalled s k).state)
    × ((s : Sync) (t other made : ℕ) → SameNumbers s (joined s t other made).state)
    × ((s : Sync) (t : ℕ) → SameNumbers s (finished s t))
    × ((s : Sync) (t : ℕ) → SameNumbers s (without_joiner s t))
    × ((s : Sync) (c value : ℕ) → SameNumbers s (stored s c value))
