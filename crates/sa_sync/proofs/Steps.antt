-- What a state shows after each call is what the call's definition says.
use Rattle.std.proofs.Common.{◌≡◌, ◌≢◌, ℕ, suc, ◌+◌, ◌-◌, ◌≤◌, ◌<◌, true, false, cond, not, ◌&&◌, List, [], ◌∷◌, ◌++◌, length, drop, set, get_or, Option, Some, None, slice_get, nat_lt, sym, ap, ◌∙◌, subst, arith, length-drop}
use Rattle.std.proofs.lemmas.Bool.{le-ltb, lt-ltb}
use Rattle.std.proofs.lemmas.List.{get_or_default, get_or-take, set-get_or}
use Rattle.std.specs.Option.{option_map}
use Rattle.std.specs.Simd.Lanes.{zip2}
use Rattle.sa_base.specs.declared.number.ThreadNo.{ThreadNo}
use Rattle.sa_links.specs.Lists.{Lists, IsApart, IsFree, count_in_all, with_list, list_at}
use Rattle.sa_base.specs.declared.limits.TheConstants.{MAX_THREADS}
use Rattle.sa_lemmas.proofs.ListReads.{first-rest, empty-first}
use Rattle.sa_sync.specs.declared.state.SyncState.TheInside.{Inside}
use Rattle.sa_sync.specs.Sync.{Sync, WaitsNowhere, WaitsOnce, queues_of, mutex_at, semaphore_at, joiners_at, with_mutex, with_semaphore, with_joiners}
use Rattle.sa_sync.specs.Calls.{goes, waits, wakes, is_holder, locked, locked_by, passed_on, unlocked, waited, waited_by, signalled, signalled_by, joined, first_joiner, without_joiner}
use Rattle.sa_sync.specs.Parts.{IsState, mutex_of, semaphore_of, shown, sync_of}
use Rattle.sa_sync.proofs.Lists.{length_zip2}
use Rattle.sa_sync.proofs.Shown.{queues-shown, mutex-shown, semaphore-shown, shown-mutex, shown-semaphore, shown-joiners}

pub more_than_none : (n : ℕ) → n ≢ 0 → n ≡ suc (n - 1)
more_than_none n h = omega arith

module _ (s : Inside) (v : Sync) (is : sync_of s ≡ v) (good : IsState s) where
  -- the numbers that are declared
  pub mutex_declared : (m : ℕ) → m < length v.mutexes → m < length s.holders.items
  mutex_declared m h =
      let all : length (zip2 mutex_of s.holders.items (drop MAX_THREADS s.queues.lists)) ≡ length s.holders.items =
      length_zip2 mutex_of s.holders.items (drop MAX_THREADS s.queues.lists) (omega (arith, good.queues, length-drop MAX_THREADS s.queues.lists)) in
      let same = ap (λ (x : Sync). length x.mutexes) is in omega (arith, all, same)

  pub semaphore_declared : (k : ℕ) → k < length v.semaphores → k < length s.counts.items
  semaphore_declared k h =
      let at = MAX_THREADS + length s.holders.items in
      let all : length (zip2 semaphore_of s.counts.items (drop at s.queues.lists)) ≡ length s.counts.items =
      length_zip2 semaphore_of s.counts.items (drop at s.queues.lists) (omega (arith, good.queues, length-drop at s.queues.lists)) in
      let same = ap (λ (x : Sync). length x.semaphores) is in omega (arith, all, same)

  pub mutexes_are : length v.mutexes ≡ length s.holders.items
  mutexes_are =
      sym (ap (λ (x : Sync). length x.mutexes) is)
      ∙ length_zip2 mutex_of s.holders.items (drop MAX_THREADS s.queues.lists) (omega (arith, good.queues, length-drop MAX_THREADS s.queues.lists))

  pub semaphores_are : length v.semaphores ≡ length s.counts.items
  semaphores_are =
      let at = MAX_THREADS + length s.holders.items in
      sym (ap (λ (x : Sync). length x.semaphores) is)
      ∙ length_zip2 semaphore_of s.counts.items (drop at s.queues.lists) (omega (arith, good.queues, length-drop at s.queues.lists))

  -- a thread waits nowhere where its node is free, and once where the lists are apart
  pub queues_are : (t : ℕ) → count_in_all t s.queues.lists ≡ count_in_all t (queues_of v)
  queues_are t = ap (count_in_all t) (sym (queues-shown s.holders.items s.counts.items s.queues.lists s.done.items s.cells.items good.queues) ∙ ap queues_of is)

  pub waits-nowhere : (t : ℕ) → WaitsNowhere v t → IsFree s.queues t
  waits-nowhere t nowhere = queues_are t ∙ nowhere

  pub waits-once : IsApart s.queues → WaitsOnce v
  waits-once apart = record {
    threads = λ t some. subst (λ n. t < n) good.threads (apart.below t (subst (λ n. 1 ≤ n) (sym (queues_are t)) some));
    once = λ t. subst (λ n. n ≤ 1) (queues_are t) (apart.once t);
  }

  -- what is read of a mutex, a semaphore, the joiners of a thread

  pub mutex_read : (m : ℕ) (r : Option ThreadNo) → m < length v.mutexes → r ≡ get_or s.holders.items m r
      → mutex_at v m ≡ mutex_of r (get_or s.queues.lists (MAX_THREADS + m) [])
  mutex_read m r h read =
      let there = mutex_declared m h in
      ap (λ x. mutex_at x m) (sym is) ∙ mutex-shown s.holders.items s.counts.items s.queues.lists s.done.items s.cells.items m good.queues there
      ∙ ap (λ o. mutex_of o (get_or s.queues.lists (MAX_THREADS + m) [])) (get_or_default s.holders.items m None r there ∙ sym read)

  pub mutex_queue_read : (m : ℕ) → m < length v.mutexes → (mutex_at v m).queue ≡ get_or s.queues.lists (MAX_THREADS + m) []
  mutex_queue_read m h =
      ap (λ x. (mutex_at x m).queue) (sym is)
      ∙ ap (λ x. x.queue) (mutex-shown s.holders.items s.counts.items s.queues.lists s.done.items s.cells.items m good.queues (mutex_declared m h))

  pub semaphore_read : (k : ℕ) → k < length v.semaphores
      → semaphore_at v k ≡ semaphore_of (get_or s.counts.items k 0) (get_or s.queues.lists (MAX_THREADS + length s.holders.items + k) [])
  semaphore_read k h =
      ap (λ x. semaphore_at x k) (sym is)
      ∙ semaphore-shown s.holders.items s.counts.items s.queues.lists s.done.items s.cells.items k good.queues (semaphore_declared k h)

  pub joiners_read : (t : ℕ) → t < MAX_THREADS → joiners_at v t ≡ get_or s.queues.lists t []
  joiners_read t h = ap (λ x. joiners_at x t) (sym is) ∙ get_or-take MAX_THREADS s.queues.lists t [] h

  -- what the state shows once one mutex, one semaphore, the joiners of one thread changed
  mutex_changed : (m : ℕ) (holder : Option ThreadNo) (queue : List ℕ) → m < length v.mutexes
      → shown (set s.holders.items m holder) s.counts.items (set s.queues.lists (MAX_THREADS + m) queue) s.done.items s.cells.items
      ≡ with_mutex v m (option_map (λ t. t.0) holder) queue
  mutex_changed m holder queue h =
      shown-mutex s.holders.items s.counts.items s.queues.lists s.done.items s.cells.items m holder queue (mutex_declared m h)
      ∙ ap (λ x. with_mutex x m (option_map (λ t. t.0) holder) queue) is

  semaphore_changed : (k count : ℕ) (queue : List ℕ)
      → shown s.holders.items (set s.counts.items k count) (set s.queues.lists (MAX_THREADS + length s.holders.items + k) queue) s.done.items s.cells.items
      ≡ with_semaphore v k count queue
  semaphore_changed k count queue =
      shown-semaphore s.holders.items s.counts.items s.queues.lists s.done.items s.cells.items k count queue ∙ ap (λ x. with_semaphore x k count queue) is

  joiners_changed : (t : ℕ) (queue : List ℕ) → t < MAX_THREADS
      → shown s.holders.items s.counts.items (set s.queues.lists t queue) s.done.items s.cells.items ≡ with_joiners v t queue
  joiners_changed t queue h =
      shown-joiners s.holders.items s.counts.items s.queues.lists s.done.items s.cells.items t queue h ∙ ap (λ x. with_joiners x t queue) is

  -- lock
  pub lock_goes : (m : ℕ) (t : ThreadNo) (r : Option ThreadNo) → m < length v.mutexes → r ≡ get_or s.holders.items m r → r ≡ None
      → goes (shown (set s.holders.items m (Some t)) s.counts.items s.queues.lists s.done.items s.cells.items) ≡ locked v t.0 m
  lock_goes m t r h read none =
      let at = MAX_THREADS + m in
      let q = get_or s.queues.lists at [] in
      let new : shown (set s.holders.items m (Some t)) s.counts.items s.queues.lists s.done.items s.cells.items ≡ with_mutex v m (Some t.0) q =
      ap (λ x. shown (set s.holders.items m (Some t)) s.counts.items x s.done.items s.cells.items) (sym (set-get_or s.queues.lists at []))
      ∙ mutex_changed m (Some t) q h in
      ap goes new ∙ sym (ap (λ x. locked_by v t.0 m x.holder x.queue) (mutex_read m r h read ∙ ap (λ o. mutex_of o q) none))

  pub lock_waits : (m l : ℕ) (t : ThreadNo) (r : Option ThreadNo) (holder : ThreadNo) (after : Lists) → m < length v.mutexes → r ≡ get_or s.holders.items m r
      → r ≡ Some holder → l ≡ MAX_THREADS + m → after ≡ with_list s.queues l (list_at s.queues.lists l ++ t.0 ∷ [])
      → waits (shown s.holders.items s.counts.items after.lists s.done.items s.cells.items) ≡ locked v t.0 m
  lock_waits m l t r holder after h read held at added =
      let q = get_or s.queues.lists (MAX_THREADS + m) [] in
      let same : set s.holders.items m (Some holder) ≡ s.holders.items = ap (set s.holders.items m) (sym held ∙ read) ∙ set-get_or s.holders.items m r in
      let new : shown s.holders.items s.counts.items after.lists s.done.items s.cells.items ≡ with_mutex v m (Some holder.0) (q ++ t.0 ∷ []) =
      ap (λ (x : Lists). shown s.holders.items s.counts.items x.lists s.done.items s.cells.items) added
      ∙ ap (λ i. shown s.holders.items s.counts.items (set s.queues.lists i (get_or s.queues.lists i [] ++ t.0 ∷ [])) s.done.items s.cells.items) at
      ∙ ap (λ x. shown x s.counts.items (set s.queues.lists (MAX_THREADS + m) (q ++ t.0 ∷ [])) s.done.items s.cells.items) (sym same)
      ∙ mutex_changed m (Some holder) (q ++ t.0 ∷ []) h in
      ap waits new ∙ sym (ap (λ x. locked_by v t.0 m x.holder x.queue) (mutex_read m r h read ∙ ap (λ o. mutex_of o q) held))

  -- unlock
  pub unlock_nothing : (m : ℕ) (t : ThreadNo) (r : Option ThreadNo) → m < length v.mutexes → r ≡ get_or s.holders.items m r
      → false ≡ is_holder t.0 (option_map (λ u. u.0) r) → goes v ≡ unlocked v t.0 m
  unlock_nothing m t r h read other =
      ap (λ b. cond b (passed_on v m (mutex_at v m).queue) (goes v)) (other ∙ sym (ap (λ x. is_holder t.0 x.holder) (mutex_read m r h read)))

  unlocked_first : (m : ℕ) (t : ThreadNo) (r : Option ThreadNo) → m < length v.mutexes → r ≡ get_or s.holders.items m r
      → true ≡ is_holder t.0 (option_map (λ u. u.0) r) → unlocked v t.0 m ≡ passed_on v m (get_or s.queues.lists (MAX_THREADS + m) [])
  unlocked_first m t r h read holds =
      let at = mutex_read m r h read in
      sym (ap (λ b. cond b (passed_on v m (mutex_at v m).queue) (goes v)) (holds ∙ sym (ap (λ x. is_holder t.0 x.holder) at)))
      ∙ ap (λ x. passed_on v m x.queue) at

  pub unlock_frees : (m l : ℕ) (t : ThreadNo) (r : Option ThreadNo) (after : Lists) → m < length v.mutexes → r ≡ get_or s.holders.items m r
      → true ≡ is_holder t.0 (option_map (λ u. u.0) r) → l ≡ MAX_THREADS + m → None ≡ slice_get (list_at s.queues.lists l) 0
      → after ≡ with_list s.queues l (drop 1 (list_at s.queues.lists l))
      → goes (shown (set s.holders.items m None) s.counts.items after.lists s.done.items s.cells.items) ≡ unlocked v t.0 m
  unlock_frees m l t r after h read holds at none taken =
      let q = get_or s.queues.lists (MAX_THREADS + m) [] in
      let empty : q ≡ [] = empty-first q (sym (none ∙ ap (λ i. slice_get (list_at s.queues.lists i) 0) at)) in
      let new : shown (set s.holders.items m None) s.counts.items after.lists s.done.items s.cells.items ≡ with_mutex v m None (drop 1 q) =
      ap (λ (x : Lists). shown (set s.holders.items m None) s.counts.items x.lists s.done.items s.cells.items) taken
      ∙ ap (λ i. shown (set s.holders.items m None) s.counts.items (set s.queues.lists i (drop 1 (get_or s.queues.lists i []))) s.done.items s.cells.items) at
      ∙ mutex_changed m None (drop 1 q) h in
      ap goes (new ∙ ap (λ x. with_mutex v m None (drop 1 x)) empty) ∙ sym (unlocked_first m t r h read holds ∙ ap (passed_on v m) empty)

  pub unlock_wakes : (m l : ℕ) (t : ThreadNo) (r : Option ThreadNo) (next : ℕ) (after : Lists) → m < length v.mutexes → r ≡ get_or s.holders.items m r
      → true ≡ is_holder t.0 (option_map (λ u. u.0) r) → l ≡ MAX_THREADS + m → Some next ≡ slice_get (list_at s.queues.lists l) 0
      → after ≡ with_list s.queues l (drop 1 (list_at s.queues.lists l))
      → wakes next (shown (set s.holders.items m (Some (record { 0 = next }))) s.counts.items after.lists s.done.items s.cells.items) ≡ unlocked v t.0 m
  unlock_wakes m l t r next after h read holds at first taken =
      let q = get_or s.queues.lists (MAX_THREADS + m) [] in
      let holder : Option ThreadNo = Some (record { 0 = next }) in
      let from : q ≡ next ∷ drop 1 q = first-rest q next (sym (first ∙ ap (λ i. slice_get (list_at s.queues.lists i) 0) at)) in
      let new : shown (set s.holders.items m holder) s.counts.items after.lists s.done.items s.cells.items ≡ with_mutex v m (Some next) (drop 1 q) =
      ap (λ (x : Lists). shown (set s.holders.items m holder) s.counts.items x.lists s.done.items s.cells.items) taken
      ∙ ap (λ i. shown (set s.holders.items m holder) s.counts.items (set s.queues.lists i (drop 1 (get_or s.queues.lists i []))) s.done.items s.cells.items) at
      ∙ mutex_changed m holder (drop 1 q) h in
      ap (wakes next) new ∙ sym (unlocked_first m t r h read holds ∙ ap (passed_on v m) from)

  -- wait
  pub wait_waits : (k l : ℕ) (t : ThreadNo) (after : Lists) → k < length v.semaphores → get_or s.counts.items k 0 ≡ 0
      → l ≡ MAX_THREADS + length s.holders.items + k → after ≡ with_list s.queues l (list_at s.queues.lists l ++ t.0 ∷ [])
      → waits (shown s.holders.items s.counts.items after.lists s.done.items s.cells.items) ≡ waited v t.0 k
  wait_waits k l t after h none at added =
      let i = MAX_THREADS + length s.holders.items + k in
      let q = get_or s.queues.lists i [] in
      let same : set s.counts.items k 0 ≡ s.counts.items = ap (set s.counts.items k) (sym none) ∙ set-get_or s.counts.items k 0 in
      let new : shown s.holders.items s.counts.items after.lists s.done.items s.cells.items ≡ with_semaphore v k 0 (q ++ t.0 ∷ []) =
      ap (λ (x : Lists). shown s.holders.items s.counts.items x.lists s.done.items s.cells.items) added
      ∙ ap (λ j. shown s.holders.items s.counts.items (set s.queues.lists j (get_or s.queues.lists j [] ++ t.0 ∷ [])) s.done.items s.cells.items) at
      ∙ ap (λ x. shown s.holders.items x (set s.queues.lists i (q ++ t.0 ∷ [])) s.done.items s.cells.items) (sym same)
      ∙ semaphore_changed k 0 (q ++ t.0 ∷ []) in
      ap waits new ∙ sym (ap (λ x. waited_by v t.0 k x.count x.queue) (semaphore_read k h ∙ ap (λ n. semaphore_of n q) none))

  pub wait_goes : (k count : ℕ) (t : ThreadNo) → k < length v.semaphores → get_or s.counts.items k 0 ≡ suc count
      → goes (shown s.holders.items (set s.counts.items k count) s.queues.lists s.done.items s.cells.items) ≡ waited v t.0 k
  wait_goes k count t h some =
      let i = MAX_THREADS + length s.holders.items + k in
      let q = get_or s.queues.lists i [] in
      let new : shown s.holders.items (set s.counts.items k count) s.queues.lists s.done.items s.cells.items ≡ with_semaphore v k count q =
      ap (λ x. shown s.holders.items (set s.counts.items k count) x s.done.items s.cells.items) (sym (set-get_or s.queues.lists i []))
      ∙ semaphore_changed k count q in
      ap goes new ∙ sym (ap (λ x. waited_by v t.0 k x.count x.queue) (semaphore_read k h ∙ ap (λ n. semaphore_of n q) some))

  -- signal
  pub signal_goes : (k l count : ℕ) (after : Lists) → k < length v.semaphores → get_or s.counts.items k 0 ≡ count
      → l ≡ MAX_THREADS + length s.holders.items + k → None ≡ slice_get (list_at s.queues.lists l) 0
      → after ≡ with_list s.queues l (drop 1 (list_at s.queues.lists l))
      → goes (shown s.holders.items (set s.counts.items k (count + 1)) after.lists s.done.items s.cells.items) ≡ signalled v k
  signal_goes k l count after h counted at none taken =
      let i = MAX_THREADS + length s.holders.items + k in
      let q = get_or s.queues.lists i [] in
      let empty : q ≡ [] = empty-first q (sym (none ∙ ap (λ j. slice_get (list_at s.queues.lists j) 0) at)) in
      let new : shown s.holders.items (set s.counts.items k (count + 1)) after.lists s.done.items s.cells.items ≡ with_semaphore v k (count + 1) (drop 1 q) =
      ap (λ (x : Lists). shown s.holders.items (set s.counts.items k (count + 1)) x.lists s.done.items s.cells.items) taken
      ∙ ap (λ j. shown s.holders.items (set s.counts.items k (count + 1))
      (set s.queues.lists j (drop 1 (get_or s.queues.lists j []))) s.done.items s.cells.items) at
      ∙ semaphore_changed k (count + 1) (drop 1 q) in
      ap goes (new ∙ ap (λ x. with_semaphore v k (count + 1) (drop 1 x)) empty)
      ∙ sym (ap (λ x. signalled_by v k x.count x.queue) (semaphore_read k h ∙ ap (λ n. semaphore_of n q) counted) ∙ ap (signalled_by v k count) empty)

  pub signal_wakes : (k l first : ℕ) (after : Lists) → k < length v.semaphores → l ≡ MAX_THREADS + length s.holders.items + k
      → Some first ≡ slice_get (list_at s.queues.lists l) 0 → after ≡ with_list s.queues l (drop 1 (list_at s.queues.lists l))
      → wakes first (shown s.holders.items s.counts.items after.lists s.done.items s.cells.items) ≡ signalled v k
  signal_wakes k l first after h at some taken =
      let i = MAX_THREADS + length s.holders.items + k in
      let q = get_or s.queues.lists i [] in
      let count = get_or s.counts.items k 0 in
      let from : q ≡ first ∷ drop 1 q = first-rest q first (sym (some ∙ ap (λ j. slice_get (list_at s.queues.lists j) 0) at)) in
      let new : shown s.holders.items s.counts.items after.lists s.done.items s.cells.items ≡ with_semaphore v k count (drop 1 q) =
      ap (λ (x : Lists). shown s.holders.items s.counts.items x.lists s.done.items s.cells.items) taken
      ∙ ap (λ j. shown s.holders.items s.counts.items (set s.queues.lists j (drop 1 (get_or s.queues.lists j []))) s.done.items s.cells.items) at
      ∙ ap (λ x. shown s.holders.items x (set s.queues.lists i (drop 1 q)) s.done.items s.cells.items) (sym (set-get_or s.counts.items k 0))
      ∙ semaphore_changed k count (drop 1 q) in
      ap (wakes first) new ∙ sym (ap (λ x. signalled_by v k x.count x.queue) (semaphore_read k h) ∙ ap (signalled_by v k count) from)

  -- join
  pub join_waits : (t : ThreadNo) (other made : ℕ) (after : Lists) → made ≤ MAX_THREADS → other < made → get_or s.done.items other false ≡ false
      → after ≡ with_list s.queues other (list_at s.queues.lists other ++ t.0 ∷ [])
      → waits (shown s.holders.items s.counts.items after.lists s.done.items s.cells.items) ≡ joined v t.0 other made
  join_waits t other made after few there undone added =
      let q = get_or s.queues.lists other [] in
      let here : other < MAX_THREADS = omega arith in
      let new : shown s.holders.items s.counts.items after.lists s.done.items s.cells.items ≡ with_joiners v other (q ++ t.0 ∷ []) =
      ap (λ (x : Lists). shown s.holders.items s.counts.items x.lists s.done.items s.cells.items) added ∙ joiners_changed other (q ++ t.0 ∷ []) here in
      let test : (nat_lt other made && not (get_or v.done other false)) ≡ true =
      ap (λ b. nat_lt other made && not b) (ap (λ (x : Sync). get_or x.done other false) (sym is) ∙ undone) ∙ ap (λ b. b && true) (lt-ltb other made there) in
      ap waits new
      ∙ sym (ap (λ b. cond b (waits (with_joiners v other (joiners_at v other ++ t.0 ∷ []))) (goes v)) test
      ∙ ap (λ x. waits (with_joiners v other (x ++ t.0 ∷ []))) (joiners_read other here))

  -- who joins a thread that was not made, or is done, goes on
  pub join_of_none : (t : ThreadNo) (other made : ℕ) → made ≤ other → goes v ≡ joined v t.0 other made
  join_of_none t other made none =
      sym (ap (λ b. cond (b && not (get_or v.done other false)) (waits (with_joiners v other (joiners_at v other ++ t.0 ∷ []))) (goes v)) (le-ltb other made none))

  pub join_of_done : (t : ThreadNo) (other made : ℕ) → other < made → get_or s.done.items other false ≡ true → goes v ≡ joined v t.0 other made
  join_of_done t other made there done =
      let test : (nat_lt other made && not (get_or v.done other false)) ≡ false =
      ap (λ b. nat_lt other made && not b) (ap (λ (x : Sync). get_or x.done other false) (sym is) ∙ done) ∙ ap (λ b. b && false) (lt-ltb other made there) in
      sym (ap (λ b. cond b (waits (with_joiners v other (joiners_at v other ++ t.0 ∷ []))) (goes v)) test)

  -- next_joiner
  pub joiner_first : (t : ℕ) (first : Option ℕ) → t < MAX_THREADS → first ≡ slice_get (list_at s.queues.lists t) 0 → first ≡ first_joiner v t
  joiner_first t first h is_first = is_first ∙ ap (λ q. slice_get q 0) (sym (joiners_read t h))

  pub joiner_taken : (t : ℕ) (after : Lists) → t < MAX_THREADS → after ≡ with_list s.queues t (drop 1 (list_at s.queues.lists t))
      → shown s.holders.items s.counts.items after.lists s.done.items s.cells.items ≡ without_joiner v t
  joiner_taken t after h taken =
      ap (λ (x : Lists). shown s.holders.items s.counts.items x.lists s.done.items s.cells.items) taken
      ∙ joiners_changed t (drop 1 (get_or s.queues.lists t [])) h
      ∙ ap (λ q. with_joiners v t (drop 1 q)) (sym (joiners_read t h))
