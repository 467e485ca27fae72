-- Each call keeps what is declared.
use Rattle.std.proofs.Common.{ℕ, zero, suc, ◌+◌, true, false, cond, not, ◌&&◌, List, [], ◌∷◌, ◌++◌, drop, Option, Some, None, nat_lt, refl}
use Rattle.std.proofs.lemmas.List.{length-set}
use Rattle.sa_sync.specs.Sync.{Sync, mutex_at, semaphore_at, joiners_at, is_done, with_mutex, with_semaphore, with_joiners}
use Rattle.sa_sync.specs.Calls.{goes, waits, is_holder, locked, locked_by, passed_on, unlocked, waited, waited_by, signalled, signalled_by, joined, finished, without_joiner, stored}
use Rattle.sa_sync.specs.Laws.{SameNumbers}

pub same_numbers : (s : Sync) → SameNumbers s s
same_numbers s = record { mutexes = refl; semaphores = refl; joiners = refl; done = refl; cells = refl }

mutex_kept : (s : Sync) (m : ℕ) (holder : Option ℕ) (q : List ℕ) → SameNumbers s (with_mutex s m holder q)
mutex_kept s m holder q = record { mutexes = length-set s.mutexes m _; semaphores = refl; joiners = refl; done = refl; cells = refl }

semaphore_kept : (s : Sync) (k count : ℕ) (q : List ℕ) → SameNumbers s (with_semaphore s k count q)
semaphore_kept s k count q = record { mutexes = refl; semaphores = length-set s.semaphores k _; joiners = refl; done = refl; cells = refl }

joiners_kept : (s : Sync) (t : ℕ) (q : List ℕ) → SameNumbers s (with_joiners s t q)
joiners_kept s t q = record { mutexes = refl; semaphores = refl; joiners = length-set s.joiners t q; done = refl; cells = refl }

locked_by_keeps : (s : Sync) (t m : ℕ) (holder : Option ℕ) (q : List ℕ) → SameNumbers s (locked_by s t m holder q).state
locked_by_keeps s t m None q = mutex_kept s m (Some t) q
locked_by_keeps s t m (Some holder) q = mutex_kept s m (Some holder) (q ++ t ∷ [])

pub locked_keeps : (s : Sync) (t m : ℕ) → SameNumbers s (locked s t m).state
locked_keeps s t m = locked_by_keeps s t m (mutex_at s m).holder (mutex_at s m).queue

passed_on_keeps : (s : Sync) (m : ℕ) (q : List ℕ) → SameNumbers s (passed_on s m q).state
passed_on_keeps s m [] = mutex_kept s m None []
passed_on_keeps s m (next ∷ q) = mutex_kept s m (Some next) q

pub unlocked_keeps : (s : Sync) (t m : ℕ) → SameNumbers s (unlocked s t m).state
unlocked_keeps s t m =
    elim (is_holder t (mutex_at s m).holder) as (λ b. SameNumbers s (cond b (passed_on s m (mutex_at s m).queue) (goes s)).state) [
      | true ↦
          passed_on_keeps s m (mutex_at s m).queue
      | false ↦ same_numbers s
    ]

waited_by_keeps : (s : Sync) (t k count : ℕ) (q : List ℕ) → SameNumbers s (waited_by s t k count q).state
waited_by_keeps s t k zero q = semaphore_kept s k 0 (q ++ t ∷ [])
waited_by_keeps s t k (suc count) q = semaphore_kept s k count q

pub waited_keeps : (s : Sync) (t k : ℕ) → SameNumbers s (waited s t k).state
waited_keeps s t k = waited_by_keeps s t k (semaphore_at s k).count (semaphore_at s k).queue

signalled_by_keeps : (s : Sync) (k count : ℕ) (q : List ℕ) → SameNumbers s (signalled_by s k count q).state
signalled_by_keeps s k count [] = semaphore_kept s k (count + 1) []
signalled_by_keeps s k count (first ∷ q) = semaphore_kept s k count q

pub signalled_keeps : (s : Sync) (k : ℕ) → SameNumbers s (signalled s k).state
signalled_keeps s k = signalled_by_keeps s k (semaphore_at s k).count (semaphore_at s k).queue

pub joined_keeps : (s : Sync) (t other made : ℕ) → SameNumbers s (joined s t other made).state
joined_keeps s t other made =
    elim (nat_lt other made && not (is_done s other)) as (λ b. SameNumbers s
    (cond b (waits (with_joiners s other (joiners_at s other ++ t ∷ []))) (goes s)).state) [
      | true ↦ joiners_kept s other (joiners_at s other ++ t ∷ [])
      | false ↦ same_numbers s
    ]

pub finished_keeps : (s : Sync) (t : ℕ) → SameNumbers s (finished s t)
finished_keeps s t = record { mutexes = refl; semaphores = refl; joiners = refl; done = length-set s.done t true; cells = refl }

pub without_joiner_keeps : (s : Sync) (t : ℕ) → SameNumbers s (without_joiner s t)
without_joiner_keeps s t = joiners_kept s t (drop 1 (joiners_at s t))

pub stored_keeps : (s : Sync) (c value : ℕ) → SameNumbers s (stored s c value)
stored_keeps s c value = record { mutexes = refl; semaphores = refl; joiners = refl; done = refl; cells = length-set s.cells c value }
