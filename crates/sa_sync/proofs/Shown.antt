-- How a state shows what its fields say, and what it shows once one of them changes.
use Rattle.std.proofs.Common.{◌≡◌, ℕ, ◌+◌, ◌<◌, Bool, List, [], length, map, take, drop, set, get_or, Option, None, refl, ap, add_assoc, take_all, ◌∙◌, arith, length-drop}
use Rattle.std.proofs.lemmas.List.{get_or-drop, drop-set-add, drop-set-lt, take-set-le, length-set}
use Rattle.std.proofs.Math.Seq.{take-set-lt, take-add}
use Rattle.std.proofs.lemmas.Simd.{get_or-zip2}
use Rattle.std.specs.Option.{option_map}
use Rattle.std.specs.Simd.Lanes.{zip2}
use Rattle.sa_base.specs.declared.number.ThreadNo.{ThreadNo}
use Rattle.sa_base.specs.declared.limits.TheConstants.{MAX_THREADS}
use Rattle.sa_sync.specs.Sync.{Mutex, Semaphore, free_mutex, semaphore_of, mutex_at, semaphore_at, queues_of, with_mutex, with_semaphore, with_joiners}
use Rattle.sa_sync.specs.Parts.{HasQueues, mutex_of, semaphore_of as semaphore_with, shown}
use Rattle.sa_sync.proofs.Lists.{zip2-set, zip2-set_past, map-zip2}

module _ (hs : List (Option ThreadNo)) (cs : List ℕ) (ls : List (List ℕ)) (done : List Bool) (cells : List ℕ) where
  -- what is where
  pub mutex-shown : (m : ℕ) → HasQueues hs cs ls → m < length hs
      → mutex_at (shown hs cs ls done cells) m ≡ mutex_of (get_or hs m None) (get_or ls (MAX_THREADS + m) [])
  mutex-shown m has h =
      let there : m < length (drop MAX_THREADS ls) = omega (arith, length-drop MAX_THREADS ls) in
      get_or-zip2 mutex_of hs (drop MAX_THREADS ls) m None [] free_mutex h there ∙ ap (mutex_of (get_or hs m None)) (get_or-drop MAX_THREADS ls m [])

  pub semaphore-shown : (k : ℕ) → HasQueues hs cs ls → k < length cs
      → semaphore_at (shown hs cs ls done cells) k ≡ semaphore_with (get_or cs k 0) (get_or ls (MAX_THREADS + length hs + k) [])
  semaphore-shown k has h =
      let there : k < length (drop (MAX_THREADS + length hs) ls) = omega (arith, length-drop (MAX_THREADS + length hs) ls) in
      get_or-zip2 semaphore_with cs (drop (MAX_THREADS + length hs) ls) k 0 [] (semaphore_of 0) h there
      ∙ ap (semaphore_with (get_or cs k 0)) (get_or-drop (MAX_THREADS + length hs) ls k [])

  -- all queues are the block's lists
  pub queues-shown : HasQueues hs cs ls → queues_of (shown hs cs ls done cells) ≡ ls
  queues-shown has =
      let mutexes : map (λ (m : Mutex). m.queue) (zip2 mutex_of hs (drop MAX_THREADS ls)) ≡ take (length hs) (drop MAX_THREADS ls) =
      map-zip2 mutex_of (λ m. m.queue) (λ x y. refl) hs (drop MAX_THREADS ls) in
      let semaphores : map (λ (k : Semaphore). k.queue) (zip2 semaphore_with cs (drop (MAX_THREADS + length hs) ls))
      ≡ take (length cs) (drop (MAX_THREADS + length hs) ls) =
      map-zip2 semaphore_with (λ k. k.queue) (λ x y. refl) cs (drop (MAX_THREADS + length hs) ls) in
      rw (mutexes, semaphores, ← take-add MAX_THREADS (length hs) ls, ← take-add (MAX_THREADS + length hs) (length cs) ls)
      (take_all (MAX_THREADS + length hs + length cs) ls (omega arith))

  -- one mutex, one semaphore, the joiners of one thread change
  pub shown-mutex : (m : ℕ) (holder : Option ThreadNo) (queue : List ℕ) → m < length hs
      → shown (set hs m holder) cs (set ls (MAX_THREADS + m) queue) done cells ≡ with_mutex (shown hs cs ls done cells) m (option_map (λ t. t.0) holder) queue
  shown-mutex m holder queue h =
      let mutexes : zip2 mutex_of (set hs m holder) (drop MAX_THREADS (set ls (MAX_THREADS + m) queue))
      ≡ set (zip2 mutex_of hs (drop MAX_THREADS ls)) m (mutex_of holder queue) =
      ap (zip2 mutex_of (set hs m holder)) (drop-set-add MAX_THREADS ls m queue) ∙ zip2-set mutex_of hs (drop MAX_THREADS ls) m holder queue in
      let others : drop (MAX_THREADS + length (set hs m holder)) (set ls (MAX_THREADS + m) queue) ≡ drop (MAX_THREADS + length hs) ls =
      ap (λ n. drop (MAX_THREADS + n) (set ls (MAX_THREADS + m) queue)) (length-set hs m holder)
      ∙ drop-set-lt (MAX_THREADS + length hs) ls (MAX_THREADS + m) queue (omega arith) in
      let joiners : take MAX_THREADS (set ls (MAX_THREADS + m) queue) ≡ take MAX_THREADS ls =
      take-set-le MAX_THREADS ls (MAX_THREADS + m) queue (omega arith) in
      rw (mutexes, others, joiners) refl

  pub shown-semaphore : (k count : ℕ) (queue : List ℕ)
      → shown hs (set cs k count) (set ls (MAX_THREADS + length hs + k) queue) done cells ≡ with_semaphore (shown hs cs ls done cells) k count queue
  shown-semaphore k count queue =
      let at = MAX_THREADS + length hs in
      let semaphores : zip2 semaphore_with (set cs k count) (drop at (set ls (at + k) queue))
      ≡ set (zip2 semaphore_with cs (drop at ls)) k (semaphore_with count queue) =
      ap (zip2 semaphore_with (set cs k count)) (drop-set-add at ls k queue) ∙ zip2-set semaphore_with cs (drop at ls) k count queue in
      let mutexes : zip2 mutex_of hs (drop MAX_THREADS (set ls (at + k) queue)) ≡ zip2 mutex_of hs (drop MAX_THREADS ls) =
      ap (λ i. zip2 mutex_of hs (drop MAX_THREADS (set ls i queue))) (add_assoc MAX_THREADS (length hs) k)
      ∙ ap (zip2 mutex_of hs) (drop-set-add MAX_THREADS ls (length hs + k) queue)
      ∙ zip2-set_past mutex_of hs (drop MAX_THREADS ls) (length hs + k) queue (omega arith) in
      let joiners : take MAX_THREADS (set ls (at + k) queue) ≡ take MAX_THREADS ls = take-set-le MAX_THREADS ls (at + k) queue (omega arith) in
      rw (semaphores, mutexes, joiners) refl

  pub shown-joiners : (t : ℕ) (queue : List ℕ) → t < MAX_THREADS → shown hs cs (set ls t queue) done cells ≡ with_joiners (shown hs cs ls done cells) t queue
  shown-joiners t queue h =
      rw (drop-set-lt MAX_THREADS ls t queue h, drop-set-lt (MAX_THREADS + length hs) ls t queue (omega arith), take-set-lt MAX_THREADS ls t queue h) refl
