-- Who waits after each call, and in what order.
use Rattle.std.proofs.Common.{◌≡◌, ◌⊎◌, ℕ, zero, suc, ◌+◌, ◌≤◌, ◌<◌, Bool, true, false, cond, not, ◌&&◌, List, [], ◌∷◌, ◌++◌, length, map, drop, set, replicate, Option, Some, None, slice_get, nat_lt, eqb, refl, sym, ap, ◌∙◌, subst, inl, inr, arith}
use Rattle.std.proofs.lemmas.Bool.{cases_eq, eq-eqb, ne_eqb, ltb-true}
use Rattle.std.proofs.lemmas.List.{get_or-map, get_or-set_same, length-map, length-set, map-set, set-set}
use Rattle.std.proofs.lemmas.List.Sums.{sum_by-append, sum_by-cons}
use Rattle.sa_links.specs.Lists.{count_in, count_in_all, list_at}
use Rattle.sa_links.proofs.Counting.{count_set, count-cons, count-replicate}
use Rattle.sa_base.specs.declared.limits.TheConstants.{MAX_THREADS}
use Rattle.sa_spaces.specs.Space.{SpaceView}
use Rattle.sa_sync.specs.declared.answer.SyncAnswer.{SyncAnswer}
use Rattle.sa_sync.specs.declared.answer.SyncAnswer.TheVariants.{Waits}
use Rattle.sa_sync.specs.Sync.{Sync, Mutex, Semaphore, free_mutex, semaphore_of, opening, mutex_at, semaphore_at, joiners_at, is_done, with_mutex, with_semaphore, with_joiners, waits_of, WaitsNowhere, WaitsOnce}
use Rattle.sa_sync.specs.Calls.{Change, goes, waits, is_holder, locked, locked_by, passed_on, unlocked, waited, waited_by, signalled, signalled_by, joined, first_joiner, without_joiner}
use Rattle.sa_sync.specs.Laws.{joining, TellsWhoWaits, IsQueueStep, without_joiners}

-- how often a thread is in a queue with one more
count-push : (u x : ℕ) (q : List ℕ) → count_in u (q ++ x ∷ []) ≡ count_in u q + cond (eqb x u) 1 0
count-push u x q = let e : count_in u (q ++ x ∷ []) ≡ count_in u q + count_in u (x ∷ []) = sum_by-append (λ z. cond (eqb z u) 1 0) q (x ∷ []) in
    let one = count-cons u x [] in omega arith

count-parts : (u : ℕ) (a b c : List (List ℕ)) → count_in_all u (a ++ b ++ c) ≡ count_in_all u a + count_in_all u b + count_in_all u c
count-parts u a b c = let left = sum_by-append (count_in u) a b in let all = sum_by-append (count_in u) (a ++ b) c in omega arith

-- how often a thread waits, by the kinds of queues
pub waits_parts : (s : Sync) (u : ℕ)
    → waits_of s u
    ≡ count_in_all u s.joiners + count_in_all u (map (λ (m : Mutex). m.queue) s.mutexes) + count_in_all u (map (λ (k : Semaphore). k.queue) s.semaphores)
waits_parts s u = count-parts u s.joiners (map (λ (m : Mutex). m.queue) s.mutexes) (map (λ (k : Semaphore). k.queue) s.semaphores)

-- once one queue is another
waits-mutex : (s : Sync) (m : ℕ) (holder : Option ℕ) (q : List ℕ) (u : ℕ) → m < length s.mutexes
    → waits_of (with_mutex s m holder q) u + count_in u (mutex_at s m).queue ≡ waits_of s u + count_in u q
waits-mutex s m holder q u h =
    let queues = map (λ (x : Mutex). x.queue) s.mutexes in
    let others = map (λ (x : Semaphore). x.queue) s.semaphores in
    let new : map (λ (x : Mutex). x.queue) (set s.mutexes m (record { holder = holder; queue = q })) ≡ set queues m q =
    map-set (λ (x : Mutex). x.queue) s.mutexes m (record { holder = holder; queue = q }) in
    let at : list_at queues m ≡ (mutex_at s m).queue = get_or-map (λ (x : Mutex). x.queue) s.mutexes m free_mutex [] h in
    let there : m < length queues = omega (arith, length-map s.mutexes (λ (x : Mutex). x.queue)) in
    let change = count_set u queues m q there in
    let before = count-parts u s.joiners queues others in
    let after = count-parts u s.joiners (set queues m q) others in
    let same : waits_of (with_mutex s m holder q) u ≡ count_in_all u (s.joiners ++ set queues m q ++ others) =
    ap (λ x. count_in_all u (s.joiners ++ x ++ others)) new in
    omega (arith, ap (count_in u) at, same, change, before, after)

waits-semaphore : (s : Sync) (k count : ℕ) (q : List ℕ) (u : ℕ) → k < length s.semaphores
    → waits_of (with_semaphore s k count q) u + count_in u (semaphore_at s k).queue ≡ waits_of s u + count_in u q
waits-semaphore s k count q u h =
    let queues = map (λ (x : Semaphore). x.queue) s.semaphores in
    let others = map (λ (x : Mutex). x.queue) s.mutexes in
    let new : map (λ (x : Semaphore). x.queue) (set s.semaphores k (record { count = count; queue = q })) ≡ set queues k q =
    map-set (λ (x : Semaphore). x.queue) s.semaphores k (record { count = count; queue = q }) in
    let at : list_at queues k ≡ (semaphore_at s k).queue = get_or-map (λ (x : Semaphore). x.queue) s.semaphores k (semaphore_of 0) [] h in
    let there : k < length queues = omega (arith, length-map s.semaphores (λ (x : Semaphore). x.queue)) in
    let change = count_set u queues k q there in
    let before = count-parts u s.joiners others queues in
    let after = count-parts u s.joiners others (set queues k q) in
    let same : waits_of (with_semaphore s k count q) u ≡ count_in_all u (s.joiners ++ others ++ set queues k q) =
    ap (λ x. count_in_all u (s.joiners ++ others ++ x)) new in
    omega (arith, ap (count_in u) at, same, change, before, after)

pub waits-joiners : (s : Sync) (t : ℕ) (q : List ℕ) (u : ℕ) → t < length s.joiners
    → waits_of (with_joiners s t q) u + count_in u (joiners_at s t) ≡ waits_of s u + count_in u q
waits-joiners s t q u h = omega (arith, count_set u s.joiners t q h, waits_parts s u, waits_parts (with_joiners s t q) u)

pub joiners_twice : (s : Sync) (t : ℕ) (q r : List ℕ) → with_joiners (with_joiners s t q) t r ≡ with_joiners s t r
joiners_twice s t q r = ap (λ js. record s { joiners = js }) (set-set s.joiners t q r)

-- at the opening nobody waits
opening-locks : (u n : ℕ) → count_in_all u (map (λ (m : Mutex). m.queue) (replicate n free_mutex)) ≡ 0
opening-locks u zero = refl
opening-locks u (suc n) =
    omega (arith, sum_by-cons (count_in u) [] (map (λ (m : Mutex). m.queue) (replicate n free_mutex)), opening-locks u n)

opening-semaphores : (u : ℕ) (counts : List ℕ) → count_in_all u (map (λ (k : Semaphore). k.queue) (map semaphore_of counts)) ≡ 0
opening-semaphores u [] = refl
opening-semaphores u (count ∷ counts) =
    omega (arith, sum_by-cons (count_in u) [] (map (λ (k : Semaphore). k.queue) (map semaphore_of counts)), opening-semaphores u counts)

pub opening-waits : (space : SpaceView) (u : ℕ) → waits_of (opening space) u ≡ 0
opening-waits space u =
    omega (arith, waits_parts (opening space) u, count-replicate u MAX_THREADS, opening-locks u space.mutexes, opening-semaphores u space.sems)

-- the answers tell who waits
locked_by_tells : (s : Sync) (t m : ℕ) (holder : Option ℕ) (q : List ℕ) → m < length s.mutexes → (mutex_at s m).queue ≡ q
    → TellsWhoWaits s t (locked_by s t m holder q)
locked_by_tells s t m None q h e u = omega (arith, waits-mutex s m (Some t) q u h, ap (count_in u) e)
locked_by_tells s t m (Some holder) q h e u = omega (arith, waits-mutex s m (Some holder) (q ++ t ∷ []) u h, ap (count_in u) e, count-push u t q)

pub locked_tells : (s : Sync) (t m : ℕ) → m < length s.mutexes → TellsWhoWaits s t (locked s t m)
locked_tells s t m h = locked_by_tells s t m (mutex_at s m).holder (mutex_at s m).queue h refl

passed_on_tells : (s : Sync) (t m : ℕ) (q : List ℕ) → m < length s.mutexes → (mutex_at s m).queue ≡ q → TellsWhoWaits s t (passed_on s m q)
passed_on_tells s t m [] h e u = omega (arith, waits-mutex s m None [] u h, ap (count_in u) e)
passed_on_tells s t m (next ∷ q) h e u = omega (arith, waits-mutex s m (Some next) q u h, ap (count_in u) e, count-cons u next q)

unlocked_tells_any : (s : Sync) (caller t m : ℕ) → m < length s.mutexes → TellsWhoWaits s caller (unlocked s t m)
unlocked_tells_any s caller t m h =
    elim (is_holder t (mutex_at s m).holder) as (λ b. TellsWhoWaits s caller (cond b (passed_on s m (mutex_at s m).queue) (goes s))) [
      | true ↦ passed_on_tells s caller m (mutex_at s m).queue h refl
      | false ↦ λ u. refl
    ]

pub unlocked_tells : (s : Sync) (t m : ℕ) → m < length s.mutexes → TellsWhoWaits s t (unlocked s t m)
unlocked_tells s t m h = unlocked_tells_any s t t m h

waited_by_tells : (s : Sync) (t k count : ℕ) (q : List ℕ) → k < length s.semaphores → (semaphore_at s k).queue ≡ q → TellsWhoWaits s t (waited_by s t k count q)
waited_by_tells s t k zero q h e u = omega (arith, waits-semaphore s k 0 (q ++ t ∷ []) u h, ap (count_in u) e, count-push u t q)
waited_by_tells s t k (suc count) q h e u = omega (arith, waits-semaphore s k count q u h, ap (count_in u) e)

pub waited_tells : (s : Sync) (t k : ℕ) → k < length s.semaphores → TellsWhoWaits s t (waited s t k)
waited_tells s t k h = waited_by_tells s t k (semaphore_at s k).count (semaphore_at s k).queue h refl

signalled_by_tells : (s : Sync) (t k count : ℕ) (q : List ℕ) → k < length s.semaphores → (semaphore_at s k).queue ≡ q
    → TellsWhoWaits s t (signalled_by s k count q)
signalled_by_tells s t k count [] h e u = omega (arith, waits-semaphore s k (count + 1) [] u h, ap (count_in u) e)
signalled_by_tells s t k count (first ∷ q) h e u = omega (arith, waits-semaphore s k count q u h, ap (count_in u) e, count-cons u first q)

pub signalled_tells : (s : Sync) (t k : ℕ) → k < length s.semaphores → TellsWhoWaits s t (signalled s k)
signalled_tells s t k h = signalled_by_tells s t k (semaphore_at s k).count (semaphore_at s k).queue h refl

and_left : (a b : Bool) → true ≡ (a && b) → a ≡ true
and_left true b e = refl
and_left false b e = sym e

pub joined_tells : (s : Sync) (t other made : ℕ) → made ≤ length s.joiners → TellsWhoWaits s t (joined s t other made)
joined_tells s t other made few =
    elim (nat_lt other made && not (is_done s other)) as (λ b. b ≡ (nat_lt other made && not (is_done s other))
    → TellsWhoWaits s t (cond b (waits (with_joiners s other (joiners_at s other ++ t ∷ []))) (goes s))) [
      | true ↦ λ test u. let there : other < made = ltb-true other made (and_left _ _ test) in
          omega (arith, waits-joiners s other (joiners_at s other ++ t ∷ []) u (omega arith), count-push u t (joiners_at s other))
      | false ↦ λ test u. refl
    ] refl

-- a thread that waits comes last, and the first is woken
mutex_after : (s : Sync) (m : ℕ) (holder : Option ℕ) (q : List ℕ) → m < length s.mutexes → (mutex_at (with_mutex s m holder q) m).queue ≡ q
mutex_after s m holder q h = ap (λ (x : Mutex). x.queue) (get_or-set_same s.mutexes m (record { holder = holder; queue = q }) free_mutex h)

semaphore_after : (s : Sync) (k count : ℕ) (q : List ℕ) → k < length s.semaphores → (semaphore_at (with_semaphore s k count q) k).queue ≡ q
semaphore_after s k count q h = ap (λ (x : Semaphore). x.queue) (get_or-set_same s.semaphores k (record { count = count; queue = q }) (semaphore_of 0) h)

locked_by_in_order : (s : Sync) (t m : ℕ) (holder : Option ℕ) (q : List ℕ) → m < length s.mutexes → (mutex_at s m).queue ≡ q
    → IsQueueStep (locked_by s t m holder q).answer t (mutex_at s m).queue (mutex_at (locked_by s t m holder q).state m).queue
locked_by_in_order s t m None q h e = mutex_after s m (Some t) q h ∙ sym e
locked_by_in_order s t m (Some holder) q h e = mutex_after s m (Some holder) (q ++ t ∷ []) h ∙ ap (λ x. x ++ t ∷ []) (sym e)

pub locked_in_order : (s : Sync) (t m : ℕ) → m < length s.mutexes
    → IsQueueStep (locked s t m).answer t (mutex_at s m).queue (mutex_at (locked s t m).state m).queue
locked_in_order s t m h = locked_by_in_order s t m (mutex_at s m).holder (mutex_at s m).queue h refl

passed_on_in_order : (s : Sync) (t m : ℕ) (q : List ℕ) → m < length s.mutexes → (mutex_at s m).queue ≡ q
    → IsQueueStep (passed_on s m q).answer t (mutex_at s m).queue (mutex_at (passed_on s m q).state m).queue
passed_on_in_order s t m [] h e = mutex_after s m None [] h ∙ sym e
passed_on_in_order s t m (next ∷ q) h e = e ∙ ap (λ x. next ∷ x) (sym (mutex_after s m (Some next) q h))

pub unlocked_in_order : (s : Sync) (t m : ℕ) → m < length s.mutexes
    → IsQueueStep (unlocked s t m).answer t (mutex_at s m).queue (mutex_at (unlocked s t m).state m).queue
unlocked_in_order s t m h =
    let made : Bool → Change = λ b. cond b (passed_on s m (mutex_at s m).queue) (goes s) in
    elim (is_holder t (mutex_at s m).holder) as (λ b. IsQueueStep (made b).answer t (mutex_at s m).queue (mutex_at (made b).state m).queue) [
      | true ↦ passed_on_in_order s t m (mutex_at s m).queue h refl
      | false ↦ refl
    ]

waited_by_in_order : (s : Sync) (t k count : ℕ) (q : List ℕ) → k < length s.semaphores → (semaphore_at s k).queue ≡ q
    → IsQueueStep (waited_by s t k count q).answer t (semaphore_at s k).queue (semaphore_at (waited_by s t k count q).state k).queue
waited_by_in_order s t k zero q h e = semaphore_after s k 0 (q ++ t ∷ []) h ∙ ap (λ x. x ++ t ∷ []) (sym e)
waited_by_in_order s t k (suc count) q h e = semaphore_after s k count q h ∙ sym e

pub waited_in_order : (s : Sync) (t k : ℕ) → k < length s.semaphores
    → IsQueueStep (waited s t k).answer t (semaphore_at s k).queue (semaphore_at (waited s t k).state k).queue
waited_in_order s t k h = waited_by_in_order s t k (semaphore_at s k).count (semaphore_at s k).queue h refl

signalled_by_in_order : (s : Sync) (t k count : ℕ) (q : List ℕ) → k < length s.semaphores → (semaphore_at s k).queue ≡ q
    → IsQueueStep (signalled_by s k count q).answer t (semaphore_at s k).queue (semaphore_at (signalled_by s k count q).state k).queue
signalled_by_in_order s t k count [] h e = semaphore_after s k (count + 1) [] h ∙ sym e
signalled_by_in_order s t k count (first ∷ q) h e = e ∙ ap (λ x. first ∷ x) (sym (semaphore_after s k count q h))

pub signalled_in_order : (s : Sync) (t k : ℕ) → k < length s.semaphores
    → IsQueueStep (signalled s k).answer t (semaphore_at s k).queue (semaphore_at (signalled s k).state k).queue
signalled_in_order s t k h = signalled_by_in_order s t k (semaphore_at s k).count (semaphore_at s k).queue h refl

joiners_after : (s : Sync) (t : ℕ) (q : List ℕ) → t < length s.joiners → joiners_at (with_joiners s t q) t ≡ q
joiners_after s t q h = get_or-set_same s.joiners t q [] h

pub joined_in_order : (s : Sync) (t other made : ℕ) → made ≤ length s.joiners
    → IsQueueStep (joined s t other made).answer t (joiners_at s other) (joiners_at (joined s t other made).state other)
joined_in_order s t other made few =
    let after : Bool → Change = λ b. cond b (waits (with_joiners s other (joiners_at s other ++ t ∷ []))) (goes s) in
    elim (nat_lt other made && not (is_done s other)) as (λ b. b ≡ (nat_lt other made && not (is_done s other))
    → IsQueueStep (after b).answer t (joiners_at s other) (joiners_at (after b).state other)) [
      | true ↦ λ test. let there : other < made = ltb-true other made (and_left _ _ test) in joiners_after s other (joiners_at s other ++ t ∷ []) (omega arith)
      | false ↦ λ test. refl
    ] refl

-- those that join a thread, one after the other
behind_first : (q : List ℕ) (n : ℕ) → slice_get (drop 1 q) n ≡ slice_get q (suc n)
behind_first [] n = refl
behind_first (x ∷ q) n = refl

pub joiners_in_order : (s : Sync) (t n : ℕ) → t < length s.joiners → first_joiner (without_joiners s t n) t ≡ slice_get (joiners_at s t) n
joiners_in_order s t zero h = refl
joiners_in_order s t (suc n) h =
    joiners_in_order (without_joiner s t) t n (omega (arith, length-set s.joiners t (drop 1 (joiners_at s t))))
    ∙ ap (λ q. slice_get q n) (joiners_after s t (drop 1 (joiners_at s t)) h)
    ∙ behind_first (joiners_at s t) n

-- a thread stays in one queue at most
joins_once : (a : SyncAnswer) (t u : ℕ) → (joining a t u ≡ 0) ⊎ ((t ≡ u) × (joining a t u ≡ 1))
joins_once Waits t u = elim (cases_eq t u) [
  | inl same ↦ inr (same, ap (λ b. cond b 1 0) (eq-eqb t u same))
  | inr other ↦ inl (ap (λ b. cond b 1 0) (ne_eqb t u other))
]
joins_once _ t u = inl refl

pub keeps_one_queue : (s : Sync) (t : ℕ) (change : Change) → WaitsOnce s → t < MAX_THREADS → WaitsNowhere s t → TellsWhoWaits s t change
    → WaitsOnce change.state
keeps_one_queue s t change once thread nowhere tells = record {
  threads = λ u some. elim (joins_once change.answer t u) [
    | inl none ↦ once.threads u (omega (arith, tells u, none))
    | inr one ↦ subst (λ x. x < MAX_THREADS) one.0 thread
  ];
  once = λ u. elim (joins_once change.answer t u) [
    | inl none ↦ omega (arith, tells u, none, once.once u)
    | inr one ↦ let here : waits_of s u ≡ 0 = subst (WaitsNowhere s) one.0 nowhere in omega (arith, tells u, one.1, here)
  ];
}

-- a change that no thread is the caller of only wakes
pub wakes_keep_one_queue : (s : Sync) (change : Change) → WaitsOnce s → ((t : ℕ) → TellsWhoWaits s t change) → WaitsOnce change.state
wakes_keep_one_queue s change once tells =
    let none : (u : ℕ) → joining change.answer (suc u) u ≡ 0 = λ u. elim (joins_once change.answer (suc u) u) [
      | inl none ↦ none
      | inr one ↦ absurd (omega (arith, one.0))
    ] in
    record {
      threads = λ u some. once.threads u (omega (arith, tells (suc u) u, none u));
      once = λ u. omega (arith, tells (suc u) u, none u, once.once u);
    }

pub unlocked_keeps : (s : Sync) (t m : ℕ) → WaitsOnce s → m < length s.mutexes → WaitsOnce (unlocked s t m).state
unlocked_keeps s t m once h = wakes_keep_one_queue s (unlocked s t m) once (λ caller. unlocked_tells_any s caller t m h)

count_behind : (u : ℕ) (q : List ℕ) → count_in u (drop 1 q) ≤ count_in u q
count_behind u [] = omega arith
count_behind u (x ∷ q) = omega (arith, count-cons u x q)

pub without_joiner_keeps : (s : Sync) (t : ℕ) → WaitsOnce s → t < length s.joiners → WaitsOnce (without_joiner s t)
without_joiner_keeps s t once h =
    let fewer : (u : ℕ) → waits_of (without_joiner s t) u ≤ waits_of s u =
    λ u. omega (arith, waits-joiners s t (drop 1 (joiners_at s t)) u h, count_behind u (joiners_at s t)) in
    record {
      threads = λ u some. once.threads u (omega (arith, fewer u));
      once = λ u. omega (arith, fewer u, once.once u);
    }
