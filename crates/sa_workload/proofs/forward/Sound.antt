-- A line that leads on from a reached position is a step to a reached position.
use Rattle.std.proofs.Common.{◌≡◌, ℕ, ◌+◌, ◌-◌, ◌<◌, ◌≤◌, ◌==◌, leb-false, Result, ◌&&◌, not, Bool, true, false, List, [], ◌∷◌, ◌++◌, length, get_or, slice_index, Option, Some, None, Ok, Err, codes, decimal, refl, sym, ap, ap₂, ◌∙◌, subst, inl, inr, arith, le-leb, eq-eqb, ne_eqb, eqb-true, ◌≢◌, if◌then◌else◌}
use Rattle.std.specs.Option.{is_some, option_map}
use Rattle.std.specs.List.{AllByRecursion}
use Rattle.std.proofs.lemmas.Bool.{cond_both, false≢true, eqb-false}
use Rattle.std.proofs.lemmas.List.{length_push}
use Rattle.std.proofs.lemmas.List.Elements.{All-nil, All-push, All-contains, All-from_recursion}
use Rattle.sa_base.specs.declared.limits.TheConstants.{MAX_EVENTS, MAX_PROCESSORS, MAX_SPACES}
use Rattle.sa_instr.specs.declared.limits.TheConstants.{LAST_PAGE, MAX_CELLS, MAX_EVICTIONS, MAX_FETCH, MAX_INSTRUCTIONS, MAX_MUTEXES, MAX_PATIENCE, MAX_PRIORITY, MAX_PROGRAMS, MAX_SEMAPHORES, MAX_SLICE, MAX_START, MAX_TURNS}
use Rattle.sa_instr.specs.declared.instr.Instr.{Instr}
use Rattle.sa_instr.specs.declared.instr.Instr.TheVariants.{End}
use Rattle.sa_spaces.specs.declared.workload.Evict.{Evict}
use Rattle.sa_spaces.specs.Space.{SpaceView}
use Rattle.sa_spaces.specs.Workload.{IsEviction, IsBefore}
use Rattle.sa_lemmas.proofs.Booleans.{if_either}
use Rattle.sa_workload.specs.Text.{instr_line}
use Rattle.sa_workload.specs.Bad.{Field, within, declared, list_lt, instr_words}
use Rattle.sa_workload.specs.Fields.{order_cause, line_numbers, index_of}
use Rattle.sa_workload.specs.Position.{HeaderView, Draft, Position, AtVersion, AtProcessors, AtFetch, AtSlice, AtSpaces, AtSpace, AtSem, AtAbsent, AtProgram, AtInstr, AtEvict, AtTurn, Closed, IsReached}
use Rattle.sa_workload.specs.Steps.{Steps, with_sem, expected, step_version, step_processors, step_fetch, step_slice, step_spaces, step_space, step_sem, step_absent, step_first_program, step_program, step_instr as step_by_instr, step_evict, step_first_turn, step_turn, step_first_close, step_close, after_sem, after_instr}
use Rattle.sa_workload.specs.Next.{numbers_at, fields_of, is_full, last_numbers, last_of, evict_numbers, draft_from, evict_from, turn_from, is_end, step, step_instr, next_by, is_last_impatient}
use Rattle.sa_workload.proofs.fields.FieldLemmas.{and_then-ok, contained, line-ok, Passes, spelled_all, AllPass, within-passes, declared-passes}
use Rattle.sa_workload.proofs.fields.InstrLemmas.{instr-read}
use Rattle.sa_workload.proofs.forward.Fronts.{last_is, all_true}
use Rattle.sa_workload.proofs.forward.Orders.{before_heads, order-none, evict_before}
use Rattle.sa_workload.proofs.forward.Reached.{can_slice, no_spaces, reached-after_sem, redrafted, rise-push, nothing_begun, reached-instr, more_turns, reached-closed}

-- what holds of each of some words holds of the one that is found among them
pub by_word : (ks : List (List ℕ)) (word : List ℕ) (G : List ℕ → Type 0) → AllByRecursion G ks → is_some (index_of word ks) ≡ true → G word
by_word ks word G all h = All-contains G ks word (All-from_recursion G ks all) (contained ks word h)

-- what a line that leads on has
pub record Took (versions : ℕ) (p : Position) (word : List ℕ) (words : List (List ℕ)) (q : Position) : Type 0 where
  pub known : is_some (index_of word (expected p)) ≡ true
  pub room : is_full p word ≡ false
  pub numbers : List ℕ
  pub passes : AllPass (fields_of versions p word) numbers
  pub line : words ≡ spelled_all (fields_of versions p word) numbers
  pub order : order_cause (last_numbers p word) numbers ≡ None
  pub to : step p word numbers ≡ Ok q

pub took : (versions : ℕ) (p : Position) (word : List ℕ) (words : List (List ℕ)) (q : Position) → next_by versions p word words ≡ Ok q
    → Took versions p word words q
took versions p word words q h =
    elim (if_either (is_some (index_of word (expected p))) _ (Err 2) (Ok q) h) [
      | inr none ↦ absurd (cc (none.1))
      | inl known ↦ elim (if_either (is_full p word) (Err 8) _ (Ok q) known.1) [
        | inl full ↦ absurd (cc (full.1))
        | inr room ↦
            let read = and_then-ok (line_numbers (fields_of versions p word) (last_numbers p word) words) (step p word) q room.1 in
            let line = line-ok (fields_of versions p word) (last_numbers p word) words read.0 read.1 in
            record { known = known.0; room = room.0; numbers = read.0; passes = line.1; line = line.0; order = line.2; to = read.2 }
      ]
    ]

-- a step to a reached position
pub record GoesTo (versions : ℕ) (p : Position) (line : List (List ℕ)) (q : Position) : Type 0 where
  pub step : Steps p line q
  pub reached : IsReached versions q

abbrev Lands : ℕ → Position → List (List ℕ) → Result Position ℕ → Type 0
Lands versions p line (Ok q) = GoesTo versions p line q
Lands versions p line (Err why) = Unit {0}

-- right numbers after a word are a step to a reached position
abbrev Sound : ℕ → Position → List ℕ → Type 0
Sound versions p word =
    (ns : List ℕ) → AllPass (fields_of versions p word) ns → is_full p word ≡ false → order_cause (last_numbers p word) ns ≡ None
    → Lands versions p (word ∷ spelled_all (fields_of versions p word) ns) (step p word ns)

-- what holds of all numbers that pass, a number at a time
number : (G : List ℕ → Type 0) (f : Field) (fs : List Field) → ((n : ℕ) → Passes f n → (ns : List ℕ) → AllPass fs ns → G (n ∷ ns)) → (ns : List ℕ)
    → AllPass (f ∷ fs) ns → G ns
number G f fs go [] h = absurd h
number G f fs go (n ∷ ns) h = go n h.0 ns h.1

none : (G : List ℕ → Type 0) → G [] → (ns : List ℕ) → AllPass [] ns → G ns
none G g [] h = g
none G g (n ∷ ns) h = absurd h

between : (G : List ℕ → Type 0) (low high : ℕ) → ((n : ℕ) → (low ≤ n) × (n ≤ high) → G (n ∷ [])) → (ns : List ℕ) → AllPass (within low high ∷ []) ns → G ns
between G low high go = number G (within low high) [] (λ n h. none _ (go n (within-passes low high n h)))

-- the patience of a space line, by whether it has one
patience_of : (b : Bool) (low : ℕ) (rest : List ℕ) → 1 ≤ low → AllPass (if b then within low MAX_PATIENCE ∷ [] else []) rest
    → (spelled_all (if b then within low MAX_PATIENCE ∷ [] else []) rest ≡ (if b then decimal (if b then slice_index rest 0 else 1) ∷ [] else []))
    × ((1 ≤ (if b then slice_index rest 0 else 1)) × ((if b then slice_index rest 0 else 1) ≤ MAX_PATIENCE))
    × (b ≡ true → low ≤ (if b then slice_index rest 0 else 1))
patience_of true low [] some h = absurd h
patience_of true low (n ∷ []) some h = let a = within-passes low MAX_PATIENCE n h.0 in (refl, (omega (arith, a.0), a.1), λ _. a.0)
patience_of true low (n ∷ m ∷ rest) some h = absurd h.1
patience_of false low [] some h = (refl, (omega arith, omega arith), λ e. absurd (false≢true e))
patience_of false low (n ∷ rest) some h = absurd h

space_goes : (versions : ℕ) (m : HeaderView) (spaces : List SpaceView) → IsReached versions (AtSpace m spaces) → Sound versions (AtSpace m spaces) (codes "space")
space_goes versions m spaces r [] h = absurd h
space_goes versions m spaces r (a ∷ []) h = absurd h.1
space_goes versions m spaces r (a ∷ b ∷ []) h = absurd h.1.1
space_goes versions m spaces r (a ∷ b ∷ c ∷ []) h = absurd h.1.1.1
space_goes versions m spaces r (a ∷ b ∷ c ∷ d ∷ []) h = absurd h.1.1.1.1
space_goes versions m spaces r (a ∷ b ∷ c ∷ d ∷ g ∷ rest) h = λ room order.
    let patience = patience_of (m.version == 3) (if is_last_impatient m spaces then 2 else 1) rest (low_some (is_last_impatient m spaces)) h.1.1.1.1.1 in
    let draft : Draft = draft_from m (a ∷ b ∷ c ∷ d ∷ g ∷ rest) in
    subst (λ (ws : List (List ℕ)). GoesTo versions (AtSpace m spaces)
    (codes "space" ∷ decimal a ∷ decimal b ∷ decimal c ∷ decimal d ∷ decimal g ∷ ws) (after_sem m spaces draft)) (sym patience.0) (record {
      step = step_space m spaces draft (refl, refl, refl);
      reached = reached-after_sem versions m spaces draft r.0 r.1 (record {
        room = r.2;
        priority = (within-passes 0 MAX_PRIORITY a h.0).1;
        mutexes = (within-passes 0 MAX_MUTEXES b h.1.0).1;
        sem_count = (within-passes 0 MAX_SEMAPHORES c h.1.1.0).1;
        cells = (within-passes 0 MAX_CELLS d h.1.1.1.0).1;
        program_count = within-passes 1 MAX_PROGRAMS g h.1.1.1.1.0;
        patience = patience.1;
        patient = λ other. ap (λ (b : Bool). if b then slice_index rest 0 else 1) (ne_eqb m.version 3 other);
        own = λ three last all one.
            let need : is_last_impatient m spaces ≡ true =
            ap₂ (λ (a b : Bool). a && b) (le-leb m.count (length spaces + 1) (omega (arith, last))) (all_true (λ (s : SpaceView). s.patience) 1 spaces all) in
            let least : 2 ≤ draft.patience = subst (λ (b : Bool). (if b then 2 else 1) ≤ draft.patience) need (patience.2 (eq-eqb m.version 3 three)) in
            absurd (omega (arith, one));
        sems = omega arith;
        starts = All-nil _;
        pages = All-nil _;
        absent_rise = λ k b. absurd (omega arith);
        programs = omega arith;
        each = All-nil _;
        names = All-nil _;
      }) refl refl;
    })
  where
    low_some : (b : Bool) → 1 ≤ (if b then 2 else 1)
    low_some true = omega arith
    low_some false = omega arith

-- an instruction
pub end_of : (i : Instr) → is_end i ≡ true → i ≡ End
end_of End h = refl
end_of _ h = absurd (cc h)

pub not_both : (a b : Bool) → (a && not b) ≡ false → a ≡ true → b ≡ true
not_both true true h e = refl
not_both true false h e = absurd (cc h)
not_both false b h e = absurd (cc e)

instr_goes : (versions : ℕ) (m : HeaderView) (spaces : List SpaceView) (d : Draft) (len : ℕ) (instrs : List Instr) (word : List ℕ)
    → IsReached versions (AtInstr m spaces d len instrs) → is_some (index_of word instr_words) ≡ true → Sound versions (AtInstr m spaces d len instrs) word
instr_goes versions m spaces d len instrs word r known ns pass room order =
    let i = instr-read versions (numbers_at (AtInstr m spaces d len instrs)) word ns known pass in
    subst (λ (o : Option Instr). Lands versions (AtInstr m spaces d len instrs)
    (word ∷ spelled_all (fields_of versions (AtInstr m spaces d len instrs) word) ns) (step_instr m spaces d len instrs o)) (sym i.is)
    (subst (λ (l : List (List ℕ)). Lands versions (AtInstr m spaces d len instrs) l (step_instr m spaces d len instrs (Some i.instr))) i.line
    (cond_both ((length instrs + 1 == len) && not (is_end i.instr)) (Err 9) (Ok (after_instr m spaces d len (instrs ++ i.instr ∷ [])))
    (Lands versions (AtInstr m spaces d len instrs) (instr_line i.instr)) (λ _. tt) (λ fine. record {
      step = step_by_instr m spaces d len instrs i.instr;
      reached = reached-instr versions m spaces d len instrs i.instr r i.allowed.range i.allowed.jump i.allowed.name
          (λ last. end_of i.instr (not_both (length instrs + 1 == len) (is_end i.instr) fine (eq-eqb (length instrs + 1) len last)));
    })))

above_last : (pages : List ℕ) (k : ℕ) → order_cause (option_map (λ page. page ∷ []) (last_of pages)) (k ∷ []) ≡ None → 0 < length pages
    → slice_index pages (length pages - 1) < k
above_last pages k o some =
    let less : list_lt (get_or pages (length pages - 1) 0 ∷ []) (k ∷ []) ≡ true =
    order-none (get_or pages (length pages - 1) 0 ∷ []) (k ∷ []) refl
    (ap (λ (l : Option ℕ). order_cause (option_map (λ page. page ∷ []) l) (k ∷ [])) (sym (last_is pages 0 some)) ∙ o) in
    elim (before_heads (get_or pages (length pages - 1) 0) k [] [] less) [ inl l ↦ l | inr x ↦ absurd (cc (x.1)) ]

-- an eviction
evict_goes : (versions : ℕ) (m : HeaderView) (spaces : List SpaceView) (es : List Evict) → IsReached versions (AtEvict m spaces es)
    → Sound versions (AtEvict m spaces es) (codes "evict")
evict_goes versions m spaces es r =
    number _ (within 1 MAX_EVENTS) (declared m.count ∷ within 0 LAST_PAGE ∷ []) (λ a ha. number _ (declared m.count) (within 0 LAST_PAGE ∷ []) (λ b hb.
    between _ 0 LAST_PAGE (λ c page room order.
    let event = within-passes 1 MAX_EVENTS a ha in
    let this : Evict = evict_from (a ∷ b ∷ c ∷ []) in
    record {
      step = step_evict m spaces es this;
      reached = (
        r.0,
        r.1,
        r.2,
        record {
          few = omega (arith, length_push es this, leb-false MAX_EVICTIONS (length es) room);
          each = All-push (IsEviction m.count) es this r.3.each
              (record { first = event.0; last = event.1; space = declared-passes m.count b hb; page = page.1 });
          rise = λ k d. rise-push IsBefore es this d (λ j. r.3.rise j d) (λ some. evict_before (get_or es (length es - 1) d) this
              (order-none (evict_numbers (get_or es (length es - 1) d)) (a ∷ b ∷ c ∷ []) refl
              (ap (λ (l : Option Evict). order_cause (option_map evict_numbers l) (a ∷ b ∷ c ∷ [])) (sym (last_is es d some)) ∙ order))) k;
        },
      );
    })))

among : (versions : ℕ) (p : Position) (word : List ℕ) → AllByRecursion (Sound versions p) (expected p) → is_some (index_of word (expected p)) ≡ true
    → Sound versions p word
among versions p word = by_word (expected p) word (Sound versions p)

-- each line of a word that is expected
lands : (versions : ℕ) → versions ≤ 3 → (p : Position) (word : List ℕ) → IsReached versions p → is_some (index_of word (expected p)) ≡ true
    → Sound versions p word
lands versions three AtVersion word r =
    among versions AtVersion word (between _ 1 versions (λ n a room order. record { step = step_version n; reached = a }), tt)
lands versions three (AtProcessors v) word r =
    among versions (AtProcessors v) word
    (between _ 1 MAX_PROCESSORS (λ n a room order. record { step = step_processors v n; reached = (r.0, r.1, a.0, a.1) }), tt)
lands versions three (AtFetch v k) word r = among versions (AtFetch v k) word (
  between _ 1 MAX_FETCH (λ n a room order. record {
    step = step_fetch v k n;
    reached = cond_both (v == 1) (AtSpaces v k n 0) (AtSlice v k n) (λ (q : Position). IsReached versions q)
        (λ e. (r.1, r.2, r.3, a.0, a.1, inl (eqb-true v 1 e, refl)))
        (λ e. let ne : v ≢ 1 = eqb-false v 1 e in (omega (arith, r.0), r.1, r.2, r.3, a.0, a.1));
  }),
  tt,
)
lands versions three (AtSlice v k f) word r = among versions (AtSlice v k f) word (
  between _ (if v == 3 then 0 else 1) MAX_SLICE (λ n a room order. record {
    step = step_slice v k f n;
    reached = (
      r.1,
      r.2,
      r.3,
      r.4,
      r.5,
      can_slice v n r.0 (omega (arith, r.1)) (λ other. subst (λ (b : Bool). (if b then 0 else 1) ≤ n) (ne_eqb v 3 other) a.0) a.1,
    );
  }),
  tt,
)
lands versions three (AtSpaces v k f s) word r = among versions (AtSpaces v k f s) word (
  between _ 1 MAX_SPACES (λ n a room order. record {
    step = step_spaces v k f s n;
    reached = (record { version = r.0; processors = (r.1, r.2); fetch = (r.3, r.4); slice = r.5; count = a }, no_spaces _ a.0, a.0);
  }),
  tt,
)
lands versions three (AtSpace m spaces) word r = among versions (AtSpace m spaces) word (space_goes versions m spaces r, tt)
lands versions three (AtSem m spaces d) word r = among versions (AtSem m spaces d) word (
  between _ 0 MAX_START (λ n a room order. record {
    step = step_sem m spaces d n;
    reached = reached-after_sem versions m spaces (with_sem d n) r.0 r.1
        (redrafted m spaces d (d.sems ++ n ∷ []) d.absent d.programs r.2 (omega (arith, length_push d.sems n, r.3))
        (All-push (λ start. start ≤ MAX_START) d.sems n r.2.starts a.1) r.2.pages r.2.absent_rise r.2.programs r.2.each r.2.names) r.4 r.5;
  }),
  tt,
)
lands versions three (AtAbsent m spaces d) word r = among versions (AtAbsent m spaces d) word (
  between _ 0 LAST_PAGE (λ n a room order. record {
    step = step_absent m spaces d n;
    reached = (
      r.0,
      r.1,
      redrafted m spaces d d.sems (d.absent ++ n ∷ []) d.programs r.2 r.2.sems r.2.starts (All-push (λ page. page ≤ LAST_PAGE) d.absent n r.2.pages a.1)
          (rise-push (λ (a b : ℕ). a < b) d.absent n 0 r.2.absent_rise (above_last d.absent n order)) r.2.programs r.2.each r.2.names,
      r.3,
      r.4,
    );
  }),
  (
    between _ 1 MAX_INSTRUCTIONS (λ n a room order. record {
      step = step_first_program m spaces d n;
      reached = (r.0, r.1, r.2, r.3, omega (arith, ap length r.4, r.2.program_count.0), nothing_begun d n a);
    }),
    tt,
  ),
)
lands versions three (AtProgram m spaces d) word r = among versions (AtProgram m spaces d) word (
  between _ 1 MAX_INSTRUCTIONS (λ n a room order. record { step = step_program m spaces d n; reached = (r.0, r.1, r.2, r.3, r.5, nothing_begun d n a) }),
  tt,
)
lands versions three (AtInstr m spaces d len instrs) word r = instr_goes versions m spaces d len instrs word r
lands versions three (AtEvict m spaces es) word r = among versions (AtEvict m spaces es) word (
  evict_goes versions m spaces es r,
  (
    between _ 0 (m.processors - 1) (λ n a room order. record {
      step = step_first_turn m spaces es (turn_from (n ∷ []));
      reached = (
        r.0,
        r.1,
        r.2,
        r.3,
        more_turns m [] (turn_from (n ∷ [])) (record { few = omega arith; each = All-nil _ }) (omega (arith, a.1, r.0.processors.0)) (omega arith),
        omega arith,
      );
    }),
    (
      none _ (λ room order. record {
        step = step_first_close m spaces es;
        reached = reached-closed versions m spaces es [] r.0 r.1 r.2 r.3 (record { few = omega arith; each = All-nil _ });
      }),
      tt,
    ),
  ),
)
lands versions three (AtTurn m spaces es ts) word r = among versions (AtTurn m spaces es ts) word (
  between _ 0 (m.processors - 1) (λ n a room order. record {
    step = step_turn m spaces es ts (turn_from (n ∷ []));
    reached = (
      r.0,
      r.1,
      r.2,
      r.3,
      more_turns m ts (turn_from (n ∷ [])) r.4 (omega (arith, a.1, r.0.processors.0)) (leb-false MAX_TURNS (length ts) room),
      omega (arith, length_push ts (turn_from (n ∷ []))),
    );
  }),
  (none _ (λ room order. record { step = step_close m spaces es ts; reached = reached-closed versions m spaces es ts r.0 r.1 r.2 r.3 r.4 }), tt),
)
lands versions three (Closed w) word r = λ known. absurd (cc known)

-- each line that leads on from a reached position
pub sound : (versions : ℕ) → versions ≤ 3 → (p : Position) (word : List ℕ) (words : List (List ℕ)) (q : Position) → IsReached versions p
    → Took versions p word words q → GoesTo versions p (word ∷ words) q
sound versions three p word words q r t =
    subst (λ (ws : List (List ℕ)). GoesTo versions p (word ∷ ws) q) (sym t.line)
    (subst (Lands versions p (word ∷ spelled_all (fields_of versions p word) t.numbers)) t.to
    (lands versions three p word r t.known t.numbers t.passes t.room t.order))
