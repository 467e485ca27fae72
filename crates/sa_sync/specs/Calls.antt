-- What each call changes and answers: the effects of the instructions `lock`, `unlock`, `wait`, `signal`, `join`,
-- `load` and `store`, and of a thread's end, on what the threads of a space wait on.
use Rattle.std.specs.Prelude.{ℕ, zero, suc, ◌+◌, Bool, true, false, not, ◌&&◌, List, [], ◌∷◌, ◌++◌, drop, Option, Some, None, ◌==◌, nat_lt, slice_get, slice_set, if◌then◌else◌}
use Rattle.sa_sync.specs.declared.answer.SyncAnswer.{SyncAnswer}
use Rattle.sa_sync.specs.declared.answer.SyncAnswer.TheVariants as answer
use Rattle.sa_sync.specs.Sync.{Sync, mutex_at, semaphore_at, joiners_at, is_done, with_mutex, with_semaphore, with_joiners}

-- the state after a call, and the call's answer
pub record Change : Type 0 where
  pub state : Sync
  pub answer : SyncAnswer

abbrev pub goes : Sync → Change
goes s = record { state = s; answer = answer.Goes }

abbrev pub waits : Sync → Change
waits s = record { state = s; answer = answer.Waits }

abbrev pub wakes : ℕ → Sync → Change
wakes t s = record { state = s; answer = answer.Wakes (record { 0 = t }) }

-- lock: takes a free mutex; else waits in its queue, also where the thread holds it itself
abbrev pub locked_by : Sync → ℕ → ℕ → Option ℕ → List ℕ → Change
locked_by s t m None queue = goes (with_mutex s m (Some t) queue)
locked_by s t m (Some holder) queue = waits (with_mutex s m (Some holder) (queue ++ t ∷ []))

abbrev pub locked : Sync → ℕ → ℕ → Change
locked s t m = locked_by s t m (mutex_at s m).holder (mutex_at s m).queue

-- unlock: nothing where the thread does not hold the mutex; else the first in its queue holds it and is woken,
-- or it is free
abbrev pub is_holder : ℕ → Option ℕ → Bool
is_holder t None = false
is_holder t (Some holder) = holder == t

abbrev pub passed_on : Sync → ℕ → List ℕ → Change
passed_on s m [] = goes (with_mutex s m None [])
passed_on s m (next ∷ queue) = wakes next (with_mutex s m (Some next) queue)

abbrev pub unlocked : Sync → ℕ → ℕ → Change
unlocked s t m = if is_holder t (mutex_at s m).holder then passed_on s m (mutex_at s m).queue else goes s

-- wait: takes one from a count above 0; else waits in the queue
abbrev pub waited_by : Sync → ℕ → ℕ → ℕ → List ℕ → Change
waited_by s t k zero queue = waits (with_semaphore s k 0 (queue ++ t ∷ []))
waited_by s t k (suc count) queue = goes (with_semaphore s k count queue)

abbrev pub waited : Sync → ℕ → ℕ → Change
waited s t k = waited_by s t k (semaphore_at s k).count (semaphore_at s k).queue

-- signal: wakes the first in the queue, or adds one to the count
abbrev pub signalled_by : Sync → ℕ → ℕ → List ℕ → Change
signalled_by s k count [] = goes (with_semaphore s k (count + 1) [])
signalled_by s k count (first ∷ queue) = wakes first (with_semaphore s k count queue)

abbrev pub signalled : Sync → ℕ → Change
signalled s k = signalled_by s k (semaphore_at s k).count (semaphore_at s k).queue

-- join: goes on at once where no thread of that number was made, or where that thread is done; else waits
-- until it is done
abbrev pub joined : Sync → ℕ → ℕ → ℕ → Change
joined s t other made =
    if nat_lt other made && not (is_done s other) then waits (with_joiners s other (joiners_at s other ++ t ∷ [])) else goes s

-- a thread's end: it is done, and those that join it are to be woken, one by one in the order in which they came
abbrev pub finished : Sync → ℕ → Sync
finished s t = record s { done = slice_set s.done t true }

abbrev pub first_joiner : Sync → ℕ → Option ℕ
first_joiner s t = slice_get (joiners_at s t) 0

abbrev pub without_joiner : Sync → ℕ → Sync
without_joiner s t = with_joiners s t (drop 1 (joiners_at s t))

-- store: the cell holds the value
abbrev pub stored : Sync → ℕ → ℕ → Sync
stored s c value = record s { cells = slice_set s.cells c value }
