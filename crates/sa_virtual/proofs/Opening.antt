-- Everything holds at the opening.
use Rattle.std.proofs.Common.{◌≡◌, ◌≢◌, ℕ, zero, suc, ◌+◌, ◌*◌, ◌<◌, ◌≤◌, Bool, true, false, cond, eqb, nat_lt, ◌&&◌, List, [], ◌∷◌, length, map, replicate, get_or, Option, Some, None, inl, inr, refl, sym, ap, subst, ◌∙◌, arith}
use Rattle.std.specs.Prelude.{All, count_by, ◌/◌, ◌%◌}
use Rattle.std.specs.List.{range_with_len}
use Rattle.std.proofs.lemmas.Bool.{cases_eq, cases_lt, eq-eqb, ne_eqb, lt-ltb, le-ltb}
use Rattle.std.proofs.lemmas.List.{length-replicate, length-map, get_or_past, get_or-map, get_or-replicate}
use Rattle.std.proofs.lemmas.List.Elements.{All-get_or, All-nil}
use Rattle.std.proofs.lemmas.List.Sums.{sum_by-cons, sum_by-append}
use Rattle.sa_base.specs.declared.number.ActNo.{ActNo}
use Rattle.sa_base.specs.declared.limits.TheConstants.{MAX_PROCESSORS}
use Rattle.sa_spaces.specs.Workload.{WorkloadView, IsWorkload}
use Rattle.sa_assign.specs.Aims.{space_no}
use Rattle.sa_base.specs.declared.number.SpaceNo.{SpaceNo}
use Rattle.sa_instr.specs.Program.{IsProgram}
use Rattle.sa_spaces.specs.Space.{SpaceView, IsSpace}
use Rattle.sa_assign.specs.Reaim.{proc_no}
use Rattle.sa_sync.specs.Sync.{waits_of, Semaphore, semaphore_of}
use Rattle.sa_instr.specs.declared.limits.TheConstants.{MAX_START}
use Rattle.sa_devices.specs.Ios.{Io}
use Rattle.sa_laws.specs.declared.place.Place.TheVariants as places
use Rattle.sa_laws.specs.State.{SpaceState, Runner, opening_space, no_space, at_start, thread_in, is_waiting, space_def, no_threads}
use Rattle.sa_laws.specs.Life.{new_life}
use Rattle.sa_laws.specs.Readings.{Listed, first_listed}
use Rattle.sa_replay.specs.Running.{IsAt}
use Rattle.sa_replay.specs.Sound.{IsSound}
use Rattle.sa_replay.proofs.OpeningLemmas.{opening-sound}
use Rattle.sa_replay.proofs.ReplayLemmas.{opening_kept}
use Rattle.sa_virtual.specs.Virtual.{opening, opening_life, virtual, of_place, of_places, opening_queue, space_of}
use Rattle.sa_virtual.specs.Holding.{parts_of, Holds, IsSized, IsOwn, Agrees, AllAgree, counts_of, threads_of, at_no, place_no, in_queue, on_processors, is_one, holds, carried, listed, worked, one_if, one_where, is_virtual}
use Rattle.sa_virtual.specs.Turning.{Good, IsBelow, count_at}
use Rattle.sa_virtual.proofs.Sums.{unqueued, holds_none}

never : (b : Bool) → one_where (b && false) ≡ 0
never true = refl
never false = refl

-- THE QUEUE has each virtual processor once
module _ (a : ℕ) where
  cons : (n : ℕ) (queue : List ActNo) → n ≢ a → in_queue queue a ≡ 0 → in_queue (record { 0 = n } ∷ queue) a ≡ 0
  cons n queue ne none = let z : one_if n a ≡ 0 = ap one_where (ne_eqb n a ne) in omega (arith, z, none, unqueued queue (record { 0 = n }) a)

  pub place_none : (n b k : ℕ) → ((s : ℕ) → b ≤ s → s < b + n → MAX_PROCESSORS * s + k ≢ a)
      → in_queue (map (λ s. virtual (space_no s) k) (range_with_len b n)) a ≡ 0
  place_none zero b k apart = refl
  place_none (suc n) b k apart =
      cons (MAX_PROCESSORS * b + k) (map (λ s. virtual (space_no s) k) (range_with_len (b + 1) n)) (apart b (omega arith) (omega arith))
      (place_none n (b + 1) k (λ s low high. apart s (omega (arith, low)) (omega (arith, high))))

  place_once : (n b k : ℕ) → k ≡ a % MAX_PROCESSORS → b ≤ a / MAX_PROCESSORS → a / MAX_PROCESSORS < b + n
      → in_queue (map (λ s. virtual (space_no s) k) (range_with_len b n)) a ≡ 1
  place_once zero b k is low high = absurd (omega (arith, low, high))
  place_once (suc n) b k is low high =
      let rest = map (λ s. virtual (space_no s) k) (range_with_len (b + 1) n) in
      elim (cases_eq (MAX_PROCESSORS * b + k) a) [
        | inl e ↦
            let one : one_if (MAX_PROCESSORS * b + k) a ≡ 1 = ap one_where (eq-eqb (MAX_PROCESSORS * b + k) a e) in
            omega (
              arith,
              one,
              unqueued rest (record { 0 = MAX_PROCESSORS * b + k }) a,
              place_none n (b + 1) k (λ s l h' same. absurd (omega (arith, e, same, l))),
            )
        | inr ne ↦
            let z : one_if (MAX_PROCESSORS * b + k) a ≡ 0 = ap one_where (ne_eqb (MAX_PROCESSORS * b + k) a ne) in
            let more : b ≢ a / MAX_PROCESSORS = λ e. ne (omega (arith, e, is)) in
            omega (
              arith,
              z,
              unqueued rest (record { 0 = MAX_PROCESSORS * b + k }) a,
              place_once n (b + 1) k is (omega (arith, low, more)) (omega (arith, high)),
            )
      ]

  split : (spaces k : ℕ) (ks : List ℕ) → in_queue (of_places spaces (k ∷ ks)) a ≡ in_queue (of_place spaces k) a + in_queue (of_places spaces ks) a
  split spaces k ks = sum_by-append (λ (c : ActNo). cond (eqb c.0 a) 1 0) (of_place spaces k) (of_places spaces ks)

  pub places_none : (spaces m b : ℕ) → ((k s : ℕ) → b ≤ k → k < b + m → s < spaces → MAX_PROCESSORS * s + k ≢ a)
      → in_queue (of_places spaces (range_with_len b m)) a ≡ 0
  places_none spaces zero b apart = refl
  places_none spaces (suc m) b apart =
      omega (
        arith,
        split spaces b (range_with_len (b + 1) m),
        place_none spaces 0 b (λ s low high. apart b s (omega arith) (omega arith) (omega (arith, high))),
        places_none spaces m (b + 1) (λ k s low high inside. apart k s (omega (arith, low)) (omega (arith, high)) inside),
      )

  places_once : (spaces m b : ℕ) → b + m ≤ MAX_PROCESSORS → b ≤ a % MAX_PROCESSORS → a % MAX_PROCESSORS < b + m → a / MAX_PROCESSORS < spaces
      → in_queue (of_places spaces (range_with_len b m)) a ≡ 1
  places_once spaces zero b few low high inside = absurd (omega (arith, low, high))
  places_once spaces (suc m) b few low high inside = elim (cases_eq b (a % MAX_PROCESSORS)) [
    | inl e ↦ omega (
      arith,
      split spaces b (range_with_len (b + 1) m),
      place_once spaces 0 b e (omega arith) (omega (arith, inside)),
      places_none spaces m (b + 1) (λ k s l h' t same. absurd (omega (arith, e, same, l, h', few))),
    )
    | inr ne ↦ omega (
      arith,
      split spaces b (range_with_len (b + 1) m),
      place_none spaces 0 b (λ s l h' same. absurd (ne (omega (arith, same, few)))),
      places_once spaces m (b + 1) (omega (arith, few)) (omega (arith, low, ne)) (omega (arith, high)) inside,
    )
  ]

  pub queue_once : (w : WorkloadView) → w.processors ≤ MAX_PROCESSORS → in_queue (opening_queue w) a ≡ one_where (is_virtual w (record { 0 = a }))
  queue_once w few = elim (cases_lt (a / MAX_PROCESSORS) (length w.spaces)) [
    | inl inside ↦ elim (cases_lt (a % MAX_PROCESSORS) w.processors) [
      | inl low ↦ places_once (length w.spaces) w.processors 0 (omega (arith, few)) (omega arith) (omega (arith, low)) inside ∙ sym (both inside low)
      | inr past ↦ places_none (length w.spaces) w.processors 0 (λ k s l h' t same. absurd (omega (arith, same, h', past, few))) ∙ sym (not_second past)
    ]
    | inr past ↦ places_none (length w.spaces) w.processors 0 (λ k s l h' t same. absurd (omega (arith, same, h', few, past, t))) ∙ sym (not_first past)
  ] where
    both : a / MAX_PROCESSORS < length w.spaces → a % MAX_PROCESSORS < w.processors → one_where (is_virtual w (record { 0 = a })) ≡ 1
    both x y = ap (λ b. one_where (b && nat_lt (a % MAX_PROCESSORS) w.processors)) (lt-ltb _ _ x) ∙ ap one_where (lt-ltb _ _ y)

    not_first : length w.spaces ≤ a / MAX_PROCESSORS → one_where (is_virtual w (record { 0 = a })) ≡ 0
    not_first x = ap (λ b. one_where (b && nat_lt (a % MAX_PROCESSORS) w.processors)) (le-ltb _ _ x)

    not_second : w.processors ≤ a % MAX_PROCESSORS → one_where (is_virtual w (record { 0 = a })) ≡ 0
    not_second x =
        ap (λ b. one_where (nat_lt (a / MAX_PROCESSORS) (length w.spaces) && b)) (le-ltb _ _ x) ∙ never (nat_lt (a / MAX_PROCESSORS) (length w.spaces))

-- THE REST
none_there : (n a : ℕ) → on_processors (replicate n None) a ≡ 0
none_there zero a = refl
none_there (suc n) a = omega (arith, none_there n a, sum_by-cons (λ (x : Option ActNo). cond (is_one a x) 1 0) None (replicate n None))

none_is : {A : Type 0} (n k : ℕ) (none : Option A) → none ≡ None → get_or (replicate n none) k None ≡ None
none_is {A} n k none is = elim (cases_lt k n) [
  | inl h ↦ get_or-replicate n k none None h ∙ is
  | inr h ↦ get_or_past (replicate n none) k None (omega (arith, h, length-replicate {A = Option A} n none))
]

-- a fact of each space at the opening
each_opening : (w : WorkloadView) (P : ℕ → SpaceState → Type 0) → ((s : ℕ) → s < length w.spaces → P s (opening_space (get_or w.spaces s no_space)))
    → ((s : ℕ) → length w.spaces ≤ s → P s no_threads) → (s : ℕ) → P s (at_no (map opening_space w.spaces) s)
each_opening w P some none s = elim (cases_lt s (length w.spaces)) [
  | inl h ↦ subst (P s) (sym (get_or-map opening_space w.spaces s no_space no_threads h)) (some s h)
  | inr h ↦ subst (P s) (sym (get_or_past (map opening_space w.spaces) s no_threads (omega (arith, h, length-map w.spaces opening_space)))) (none s h)
]

none_carried : (queue : List ActNo) (s t : ℕ) → carried (threads_of opening_life) queue s t ≡ 0
none_carried [] s t = refl
none_carried (a ∷ queue) s t =
    omega (arith, sum_by-cons (holds (threads_of opening_life) s t) a queue, holds_none (threads_of opening_life) s t a refl, none_carried queue s t)

none_worked : (n s t : ℕ) → worked (λ a. []) n s t ≡ 0
none_worked zero s t = refl
none_worked (suc n) s t = omega (arith, none_worked n s t)

-- a thread that does not wait is in no queue
no_wait : (x : SpaceState) (t : ℕ) → IsSound x → is_waiting (place_no x t) ≡ false → waits_of x.sync t ≡ 0
no_wait x t sound is = elim (cases_lt 0 (waits_of x.sync t)) [
  | inl some ↦ let both : false ≡ true = sym is ∙ ap is_waiting (sound.waiting (record { 0 = t }) some) in cc
  | inr none ↦ omega (arith, none)
]

later : (t : ℕ) → count_by (λ (x : Listed). eqb x.thread.0 (suc t)) (first_listed ∷ []) ≡ 0
later t = sum_by-cons (λ (x : Listed). cond (eqb x.thread.0 (suc t)) 1 0) first_listed [] ∙ ap (λ b. cond b 1 0 + 0) (ne_eqb 0 (suc t) (λ e. cc))

first_agrees : (def : SpaceView) (t : ℕ)
    → Agrees (count_by (λ (x : Listed). eqb x.thread.0 t) (first_listed ∷ [])) 0 0 (waits_of (opening_space def).sync t + 0) (place_no (opening_space def) t)
first_agrees def zero =
    record {
      in_lists = refl;
      in_queue = refl;
      in_ios = refl;
      in_work = let none = no_wait (opening_space def) 0 (opening-sound def) refl in
          omega (arith, none);
    }
first_agrees def (suc t) =
    record {
      in_lists = later t;
      in_queue = refl;
      in_ios = refl;
      in_work = let none = no_wait (opening_space def) (suc t) (opening-sound def) refl in
          omega (arith, none);
    }

opening_agrees : (w : WorkloadView) → AllAgree (counts_of w.processors (threads_of opening_life) (parts_of (opening w))) (map opening_space w.spaces)
opening_agrees w s t =
    let agrees : ℕ → SpaceState → Type 0 =
    λ r x. Agrees (listed (replicate (length w.spaces) (first_listed ∷ [])) r t) 0 0 (waits_of x.sync t + 0) (place_no x t) in
    let all = each_opening w agrees
    (λ r h. subst (λ (xs : List Listed). Agrees (count_by (λ (x : Listed). eqb x.thread.0 t) xs) 0 0
    (waits_of (opening_space (get_or w.spaces r no_space)).sync t + 0) (place_no (opening_space (get_or w.spaces r no_space)) t))
    (sym (get_or-replicate (length w.spaces) r (first_listed ∷ []) [] h)) (first_agrees (get_or w.spaces r no_space) t))
    (λ r h. subst (λ (xs : List Listed). Agrees (count_by (λ (x : Listed). eqb x.thread.0 t) xs) 0 0 (waits_of no_threads.sync t + 0) (place_no no_threads t))
    (sym (get_or_past (replicate (length w.spaces) (first_listed ∷ [])) r []
    (omega (arith, h, length-replicate {A = List Listed} (length w.spaces) (first_listed ∷ [])))))
    (let none : waits_of no_threads.sync t ≡ 0 = elim (cases_lt 0 (waits_of no_threads.sync t)) [
      | inl some ↦ absurd (some_first t ((opening-sound no_space).waiting (record { 0 = t }) some))
      | inr none ↦ omega (arith, none)
    ] in record { in_lists = refl; in_queue = refl; in_ios = refl; in_work = omega (arith, none) }))
    s in
    record {
      in_lists = all.in_lists;
      in_queue = none_carried (opening_queue w) s t ∙ all.in_queue;
      in_ios = all.in_ios;
      in_work = omega (arith, none_worked w.processors s t, all.in_work);
    } where
      some_first : (t : ℕ) → place_no (opening_space no_space) t ≡ places.Waiting → ⊥
      some_first zero is = let both : places.Ready ≡ places.Waiting = is in cc
      some_first (suc t) is = let both : places.Done ≡ places.Waiting = is in cc

opening_holds : (w : WorkloadView) → IsWorkload w → Holds w (parts_of (opening w)) (replicate w.processors None)
opening_holds w valid = record {
  replay = opening_kept w;
  owners = length-replicate {A = Option SpaceNo} w.processors None;
  sized = each_opening w (λ s x. IsSized x)
      (λ s h. let sound = opening-sound (get_or w.spaces s no_space) in record { few = sound.few; joiners = sound.joiners })
      (λ s h. record { few = omega arith; joiners = (opening-sound no_space).joiners });
  within = each_opening w (λ s x. (t : ℕ) → t < length x.threads → IsAt (space_def w (record { 0 = s })) (thread_in x (record { 0 = t })))
      (λ s h t below.
      let space = All-get_or IsSpace w.spaces s no_space h valid.spaces in
      let first : IsAt (get_or w.spaces s no_space) (at_start 0 places.Ready) = record {
        in_space = space.some_program;
        in_program = (All-get_or IsProgram (get_or w.spaces s no_space).programs 0 [] space.some_program space.programs).not_empty;
      } in
      let zero' : t ≡ 0 = omega (arith, below) in
      subst (λ n. IsAt (get_or w.spaces s no_space) (thread_in (opening_space (get_or w.spaces s no_space)) (record { 0 = n }))) (sym zero') first)
      (λ s h t below. absurd (omega (arith, below)));
  processors = length-replicate {A = Option ActNo} w.processors None;
  spaces = length-replicate {A = List Listed} (length w.spaces) (first_listed ∷ []);
  once = λ a. omega (arith, queue_once a w valid.few_processors, none_there w.processors a);
  fits = λ p. record {
    owned = λ a is. let both : None ≡ Some a = sym (none_is {A = ActNo} w.processors p.0 None refl) ∙ is in cc;
    runs = λ x is. let both : None ≡ Some x = sym (none_is {A = Runner} w.processors p.0 None refl) ∙ is in cc;
  };
  lives = λ a. (new_life (space_of a) (proc_no 0), refl, refl, refl);
  ios = All-nil (λ (io : Io). IsOwn io.kind);
  agree = opening_agrees w;
}

pub opening_good : (w : WorkloadView) → IsWorkload w → Good w (opening w)
opening_good w valid = record {
  stands = record { runners = replicate w.processors None; holds = opening_holds w valid };
  quiet = λ p. none_is {A = ActNo} w.processors p.0 None refl;
}

-- no semaphore has more than it can start with
start_below : (sems : List ℕ) (k : ℕ) → All (λ start. start ≤ MAX_START) sems → (get_or (map semaphore_of sems) k (semaphore_of 0)).count ≤ MAX_START
start_below sems k starts = elim (cases_lt k (length sems)) [
  | inl h ↦ subst (λ (x : Semaphore). x.count ≤ MAX_START) (sym (get_or-map semaphore_of sems k 0 (semaphore_of 0) h))
      (All-get_or (λ start. start ≤ MAX_START) sems k 0 h starts)
  | inr h ↦ subst (λ (x : Semaphore). x.count ≤ MAX_START)
      (sym (get_or_past (map semaphore_of sems) k (semaphore_of 0) (omega (arith, h, length-map sems semaphore_of)))) (omega arith)
]

pub opening_below : (w : WorkloadView) → IsWorkload w → IsBelow MAX_START (opening w).base.state.spaces
opening_below w valid = each_opening w (λ s x. (k : ℕ) → count_at x k ≤ MAX_START)
    (λ s h k. start_below (get_or w.spaces s no_space).sems k (All-get_or IsSpace w.spaces s no_space h valid.spaces).starts)
    (λ s h k. omega arith)
