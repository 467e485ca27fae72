-- A thread that is in some queue waits for something, and each thread that waits has a line.
use Rattle.std.proofs.Common.{◌≡◌, ℕ, zero, suc, ◌+◌, ◌≤◌, ◌<◌, true, List, [], ◌∷◌, length, map, Contains, Option, Some, None, IsSome, refl, sym, ap, ◌∙◌, subst, inl, inr, arith, ◌==◌, ◌||◌}
use Rattle.std.specs.Prelude.{if◌then◌else◌}
use Rattle.std.specs.Option.{option_map, option_or}
use Rattle.std.proofs.lemmas.Bool.{cases_eq, cases_lt, eq-eqb}
use Rattle.std.proofs.lemmas.List.{length-map, get_or-map, get_or_past}
use Rattle.std.proofs.lemmas.List.Sums.{sum_by-cons}
use Rattle.std.proofs.lemmas.List.Elements.{Contains-append_left, Contains-append_right}
use Rattle.std.proofs.Math.Bool.{or-true}
use Rattle.sa_base.specs.declared.limits.TheConstants.{MAX_THREADS}
use Rattle.sa_base.specs.declared.number.SpaceNo.{SpaceNo}
use Rattle.sa_links.specs.Lists.{list_at, count_in, count_in_all}
use Rattle.sa_links.proofs.Counting.{count_other}
use Rattle.sa_sync.specs.Sync.{Sync, Mutex, Semaphore, free_mutex, semaphore_of, mutex_at, semaphore_at, joiners_at, Waits}
use Rattle.sa_sync.proofs.LawLemmas.{waits_parts}
use Rattle.sa_laws.specs.State.{State, SpaceState, no_threads, space_at}
use Rattle.sa_debug.specs.Stuck.{EachLeftWaits}
use Rattle.sa_waits.specs.declared.wait.Awaited.{Awaited}
use Rattle.sa_waits.specs.declared.wait.Awaited.TheVariants as awaited_one
use Rattle.sa_waits.specs.declared.wait.Wait.{Wait}
use Rattle.sa_explore_run.specs.Behind.{HaveEach}
use Rattle.sa_waits.specs.Waits.{first_from, all_below, is_in, held, counted, joined, awaited, waiting_for, waiting, waits_in, waits_of}
use Rattle.sa_explore_run.proofs.Holders.{AreHeld, AreAllHeld}

-- THE FIRST ANSWER, where some number has one
some-or : {A : Type 0} (a b : Option A) → IsSome b → IsSome (option_or a b)
some-or None b some = some
some-or (Some x) b some = refl

some-first : {A : Type 0} (a b : Option A) → IsSome a → IsSome (option_or a b)
some-first None b some = absurd cc
some-first (Some x) b some = refl

some-from : {A : Type 0} (f : ℕ → Option A) (k n i : ℕ) → k ≤ i → i < k + n → IsSome (f i) → IsSome (first_from f k n)
unfolding first_from
some-from f k zero i low high some = absurd (omega (arith, low, high))
some-from f k (suc n) i low high some = elim (cases_eq i k) [
  | inl here ↦ some-first (f k) (first_from f (k + 1) n) (subst (λ j. IsSome (f j)) here some)
  | inr ne ↦ some-or (f k) (first_from f (k + 1) n) (some-from f (k + 1) n i (omega (arith, low, ne)) (omega (arith, high)) some)
]

-- ALL THAT COME of the numbers below n have what comes of one of them.
below-has : {A : Type 0} (f : ℕ → List A) (n i : ℕ) (x : A) → i < n → Contains (f i) x → Contains (all_below f n) x
unfolding all_below
below-has f zero i x low has = absurd (omega (arith, low))
below-has f (suc n) i x low has = elim (cases_eq i n) [
  | inl here ↦ Contains-append_right (all_below f n) (f n) x (subst (λ j. Contains (f j) x) here has)
  | inr ne ↦ Contains-append_left (all_below f n) (f n) x (below-has f n i x (omega (arith, low, ne)) has)
]

-- QUEUES: what is counted in a queue is in it, and what is counted in all is in one of them.
is-in : (queue : List ℕ) (t : ℕ) → 1 ≤ count_in t queue → is_in queue t ≡ true
is-in [] t some = absurd (omega (arith, some))
is-in (u ∷ queue) t some = elim (cases_eq u t) [
  | inl same ↦ ap (λ b. b || is_in queue t) (eq-eqb u t same)
  | inr ne ↦
      let rest = is-in queue t (let other = count_other t u queue ne in omega (arith, some, other)) in
      ap (λ b. (u == t) || b) rest ∙ or-true (u == t)
]

in-one : (queues : List (List ℕ)) (t : ℕ) → 1 ≤ count_in_all t queues → (i : ℕ) × (i < length queues) × (1 ≤ count_in t (list_at queues i))
in-one [] t some = absurd (omega (arith, some))
in-one (queue ∷ queues) t some = elim (cases_lt (count_in t queue) 1) [
  | inl less ↦
      let sum : count_in_all t (queue ∷ queues) ≡ count_in t queue + count_in_all t queues = sum_by-cons (count_in t) queue queues in
      let rest = in-one queues t (omega (arith, some, sum, less)) in
      (suc rest.0, (let below = rest.1 in omega (arith, below)), rest.2)
  | inr more ↦ (zero, omega arith, more)
]

-- WHAT A THREAD WAITS FOR
module _ (x : Sync) (h : AreHeld x) (t : ℕ) where
  held-some : (m : ℕ) → 1 ≤ count_in t (mutex_at x m).queue → IsSome (held x t m)
  held-some m some = by (mutex_at x m).holder refl where
    by : (o : Option ℕ) → (mutex_at x m).holder ≡ o → IsSome (held x t m)
    by None free = absurd (let none : count_in t (mutex_at x m).queue ≡ 0 = ap (count_in t) (h.alone m free) in omega (arith, some, none))
    by (Some holder) is =
        subst IsSome (sym (ap (λ b. if b then option_map (λ u. awaited_one.Mutex m (record { 0 = u })) (mutex_at x m).holder else None) (is-in (mutex_at x m).queue t some)
        ∙ ap (λ o. option_map (λ u. awaited_one.Mutex m (record { 0 = u })) o) is)) refl

  counted-some : (k : ℕ) → 1 ≤ count_in t (semaphore_at x k).queue → IsSome (counted x t k)
  counted-some k some = subst (λ b. IsSome (if b then Some (awaited_one.Semaphore k) else None)) (sym (is-in (semaphore_at x k).queue t some)) refl

  joined-some : (other : ℕ) → 1 ≤ count_in t (joiners_at x other) → IsSome (joined x t other)
  joined-some other some =
      subst (λ b. IsSome (if b then Some (awaited_one.Thread (record { 0 = other })) else None)) (sym (is-in (joiners_at x other) t some)) refl

  pub awaits-some : Waits x t → IsSome (awaited x t)
  awaits-some waits = elim (cases_lt (count_in_all t x.joiners) 1) [
    | inr joins ↦
        let at = in-one x.joiners t joins in
        let below = at.1 in let all = h.joiners in
        some-or (first_from (held x t) 0 (length x.mutexes)) _
        (some-or (first_from (counted x t) 0 (length x.semaphores)) (first_from (joined x t) 0 MAX_THREADS)
        (some-from (joined x t) 0 MAX_THREADS at.0 (omega arith) (omega (arith, below, all)) (joined-some at.0 at.2)))
    | inl few ↦ elim (cases_lt (count_in_all t (map (λ (m : Mutex). m.queue) x.mutexes)) 1) [
      | inr locks ↦
          let at = in-one (map (λ (m : Mutex). m.queue) x.mutexes) t locks in
          let below : at.0 < length x.mutexes = (let z = at.1 in omega (arith, z, length-map x.mutexes (λ (m : Mutex). m.queue))) in
          let here = get_or-map (λ (m : Mutex). m.queue) x.mutexes at.0 free_mutex [] below in
          some-first (first_from (held x t) 0 (length x.mutexes)) _
          (some-from (held x t) 0 (length x.mutexes) at.0 (omega arith) (omega (arith, below))
          (held-some at.0 (subst (λ queue. 1 ≤ count_in t queue) here at.2)))
      | inl fewer ↦
          let parts = waits_parts x t in
          let at = in-one (map (λ (k : Semaphore). k.queue) x.semaphores) t (omega (arith, parts, waits, few, fewer)) in
          let below : at.0 < length x.semaphores = (let z = at.1 in omega (arith, z, length-map x.semaphores (λ (k : Semaphore). k.queue))) in
          let here = get_or-map (λ (k : Semaphore). k.queue) x.semaphores at.0 (semaphore_of 0) [] below in
          some-or (first_from (held x t) 0 (length x.mutexes)) _
          (some-first (first_from (counted x t) 0 (length x.semaphores)) (first_from (joined x t) 0 MAX_THREADS)
          (some-from (counted x t) 0 (length x.semaphores) at.0 (omega arith) (omega (arith, below))
          (counted-some at.0 (subst (λ queue. 1 ≤ count_in t queue) here at.2))))
    ]
  ]

-- EACH THREAD THAT IS LEFT HAS A LINE
one-line : (s : SpaceNo) (x : SpaceState) (t : ℕ) (o : Option Awaited) → IsSome o
    → (wait : Wait) × Contains (waiting_for s x t o) wait × (wait.space ≡ s) × (wait.thread ≡ record { 0 = t })
one-line s x t None some = absurd cc
one-line s x t (Some awaits) some = (_, (0, omega arith, refl), refl, refl)

pub have-each : (a : State) → AreAllHeld a → EachLeftWaits a → HaveEach a (waits_of a)
have-each a held waits s t left =
    let x = space_at a s in
    let line = one-line s x t.0 (awaited x.sync t.0) (awaits-some x.sync (held s.0) t.0 (waits s t left)) in
    let inside : s.0 < length a.spaces = elim (cases_lt s.0 (length a.spaces)) [
      | inl below ↦ below
      | inr past ↦
          let none : space_at a s ≡ no_threads = get_or_past a.spaces s.0 no_threads past in
          let made = left.made in
          absurd (omega (arith, made, ap (λ (y : SpaceState). length y.threads) none))
    ] in (
      line.0,
      below-has (λ n. waits_in (record { 0 = n }) (space_at a (record { 0 = n }))) (length a.spaces) s.0 line.0 inside
          (below-has (waiting s x) (length x.threads) t.0 line.0 left.made line.1),
      line.2,
      line.3,
    )
