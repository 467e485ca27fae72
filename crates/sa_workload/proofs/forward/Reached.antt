-- What each line has to keep to, so that it leads from a reached position to a reached position.
use Rattle.std.proofs.Common.{◌≡◌, ◌≢◌, ℕ, ◌+◌, ◌-◌, ◌<◌, ◌≤◌, ◌==◌, List, [], ◌∷◌, ◌++◌, length, All, get_or, Some, inl, inr, sym, ap, subst, subst₂, ◌∙◌, arith, eqb-true}
use Rattle.std.proofs.lemmas.Bool.{cond_both, cases_lt, eqb-false}
use Rattle.std.proofs.lemmas.List.{length_push, get_or_append_left, get_or_push}
use Rattle.std.proofs.lemmas.List.Elements.{All-nil, All-push}
use Rattle.std.specs.List.Sorted.{IsStrictlyIncreasing}
use Rattle.std.proofs.lemmas.Option.{slice_get-get_or}
use Rattle.sa_instr.specs.declared.limits.TheConstants.{LAST_PAGE, MAX_INSTRUCTIONS, MAX_SLICE, MAX_START, MAX_TURNS}
use Rattle.sa_base.specs.declared.number.ProcNo.{ProcNo}
use Rattle.sa_instr.specs.declared.instr.Instr.{Instr}
use Rattle.sa_instr.specs.declared.instr.Instr.TheVariants.{End}
use Rattle.sa_spaces.specs.declared.workload.Evict.{Evict}
use Rattle.sa_instr.specs.Instr.{IsInRange, JumpsBelow, NamesDeclared}
use Rattle.sa_instr.specs.Program.{IsProgram}
use Rattle.sa_spaces.specs.Space.{SpaceView, IsSpace}
use Rattle.sa_spaces.specs.Workload.{IsEviction}
use Rattle.sa_workload.specs.Position.{HeaderView, Draft, Position, AtSpace, AtSem, AtAbsent, AtProgram, AtInstr, AtEvict, Closed, CanSlice, IsHeader, AreSpaces, IsDraft, IsBegun, AreEvictions, AreTurns, IsReached}
use Rattle.sa_workload.specs.Steps.{workload, space_of_draft, with_program, after_sem, after_spaces, after_program, after_instr}
use Rattle.sa_workload.proofs.forward.Fronts.{All-front, All-last}
use Rattle.sa_workload.proofs.forward.ShownStep.{version_of-workload}

-- a draft with other lists after its first line
pub redrafted : (m : HeaderView) (spaces : List SpaceView) (d : Draft) (sems absent : List ℕ) (programs : List (List Instr)) → IsDraft m spaces d
    → length sems ≤ d.sem_count → All (λ start. start ≤ MAX_START) sems → All (λ page. page ≤ LAST_PAGE) absent → IsStrictlyIncreasing absent
    → length programs ≤ d.program_count → All IsProgram programs → All (All (NamesDeclared d.mutexes d.sem_count d.cells d.program_count)) programs
    → IsDraft m spaces (record d { sems = sems; absent = absent; programs = programs })
redrafted m spaces d sems absent programs is a b c e f g h = record {
  room = is.room;
  priority = is.priority;
  mutexes = is.mutexes;
  sem_count = is.sem_count;
  cells = is.cells;
  program_count = is.program_count;
  patience = is.patience;
  patient = is.patient;
  own = is.own;
  sems = a;
  starts = b;
  pages = c;
  absent_rise = e;
  programs = f;
  each = g;
  names = h;
}

-- only version 3 has slice 0
pub can_slice : (v s : ℕ) → 2 ≤ v → v ≤ 3 → (v ≢ 3 → 1 ≤ s) → s ≤ MAX_SLICE → CanSlice v s
can_slice v s two three low high =
    elim (cases_lt v 3) [
      | inl h ↦ inr (inl (omega arith, low (omega arith), high))
      | inr h ↦ inr (inr (omega arith, high))
    ]

pub no_spaces : (m : HeaderView) → 1 ≤ m.count → AreSpaces m []
no_spaces m h = record {
  few = omega arith;
  each = All-nil IsSpace;
  patient = λ _. All-nil (λ (s : SpaceView). s.patience ≡ 1);
  own = λ _ full. absurd (omega arith);
}

pub reached-after_sem : (versions : ℕ) (m : HeaderView) (spaces : List SpaceView) (d : Draft) → IsHeader versions m → AreSpaces m spaces
    → IsDraft m spaces d → d.absent ≡ [] → d.programs ≡ [] → IsReached versions (after_sem m spaces d)
reached-after_sem versions m spaces d k a h absent programs =
    cond_both (length d.sems == d.sem_count) (AtAbsent m spaces d) (AtSem m spaces d) (λ (q : Position). IsReached versions q)
    (λ e. (k, a, h, eqb-true _ _ e, programs))
    (λ e. let ne : length d.sems ≢ d.sem_count = eqb-false _ _ e in (k, a, h, omega arith, absent, programs))

-- a list that rises goes on rising with an element that is above its last one
pub rise-push : {X : Type 0} (R : X → X → Type 0) (xs : List X) (x d : X)
    → ((k : ℕ) → k + 1 < length xs → R (get_or xs k d) (get_or xs (k + 1) d))
    → (0 < length xs → R (get_or xs (length xs - 1) d) x)
    → (k : ℕ) → k + 1 < length (xs ++ x ∷ []) → R (get_or (xs ++ x ∷ []) k d) (get_or (xs ++ x ∷ []) (k + 1) d)
rise-push {X} R xs x d rise last k h =
    let l : length (xs ++ x ∷ []) ≡ length xs + 1 = length_push xs x in
    elim (cases_lt (k + 1) (length xs)) [
      | inl b ↦ rw (get_or_append_left xs (x ∷ []) d k (omega arith), get_or_append_left xs (x ∷ []) d (k + 1) b) (rise k b)
      | inr b ↦
          let e : length xs ≡ k + 1 = omega arith in
          let e' : length xs - 1 ≡ k = omega arith in
          rw (get_or_append_left xs (x ∷ []) d k (omega arith), get_or_push xs x d (k + 1) e)
          (subst (λ (n : ℕ). R (get_or xs n d) x) e' (last (omega arith)))
    ]

pub nothing_begun : (d : Draft) (len : ℕ) → (1 ≤ len) × (len ≤ MAX_INSTRUCTIONS) → IsBegun d len []
nothing_begun d len short = record {
  short = short;
  room = omega arith;
  ranges = All-nil IsInRange;
  jumps = All-nil (JumpsBelow len);
  names = All-nil (NamesDeclared d.mutexes d.sem_count d.cells d.program_count);
}

reached-after_spaces : (versions : ℕ) (m : HeaderView) (spaces : List SpaceView) → IsHeader versions m → AreSpaces m spaces
    → IsReached versions (after_spaces m spaces)
reached-after_spaces versions m spaces k a =
    cond_both (length spaces == m.count) (AtEvict m spaces []) (AtSpace m spaces) (λ (q : Position). IsReached versions q)
    (λ e. (k, a, eqb-true _ _ e, record { few = omega arith; each = All-nil (IsEviction m.count); rise = λ n d b. absurd (omega arith) }))
    (λ e. let ne : length spaces ≢ m.count = eqb-false _ _ e in let few : length spaces ≤ m.count = a.few in (k, a, omega arith))

-- a draft with all its semaphores and programs is a space
pub whole_space : (m : HeaderView) (spaces : List SpaceView) (d : Draft) → IsDraft m spaces d → length d.sems ≡ d.sem_count
    → length d.programs ≡ d.program_count → IsSpace (space_of_draft d)
whole_space m spaces d h s p = record {
  priority = h.priority;
  mutexes = h.mutexes;
  sems = omega (arith, s, h.sem_count);
  starts = h.starts;
  cells = h.cells;
  pages = h.pages;
  absent_rise = h.absent_rise;
  some_program = omega (arith, p, h.program_count.0);
  few_programs = omega (arith, p, h.program_count.1);
  programs = h.each;
  names = subst₂ (λ (n k : ℕ). All (All (NamesDeclared d.mutexes n d.cells k)) d.programs) (sym s) (sym p) h.names;
  patient = h.patience.0;
  patience = h.patience.1;
}

more_spaces : (m : HeaderView) (spaces : List SpaceView) (d : Draft) → AreSpaces m spaces → IsDraft m spaces d → length d.sems ≡ d.sem_count
    → length d.programs ≡ d.program_count → AreSpaces m (spaces ++ space_of_draft d ∷ [])
more_spaces m spaces d a h s p =
    let l : length (spaces ++ space_of_draft d ∷ []) ≡ length spaces + 1 = length_push spaces (space_of_draft d) in
    record {
      few = omega (arith, h.room);
      each = All-push IsSpace spaces (space_of_draft d) a.each (whole_space m spaces d h s p);
      patient = λ v. All-push (λ (t : SpaceView). t.patience ≡ 1) spaces (space_of_draft d) (a.patient v) (h.patient v);
      own = λ v full all.
          h.own v (sym l ∙ full) (All-front (λ (t : SpaceView). t.patience ≡ 1) spaces (space_of_draft d) all)
          (All-last (λ (t : SpaceView). t.patience ≡ 1) spaces (space_of_draft d) all);
    }

reached-after_program : (versions : ℕ) (m : HeaderView) (spaces : List SpaceView) (d : Draft) → IsHeader versions m → AreSpaces m spaces
    → IsDraft m spaces d → length d.sems ≡ d.sem_count → 1 ≤ length d.programs → IsReached versions (after_program m spaces d)
reached-after_program versions m spaces d k a h s one =
    cond_both (length d.programs == d.program_count) (after_spaces m (spaces ++ space_of_draft d ∷ [])) (AtProgram m spaces d)
    (λ (q : Position). IsReached versions q)
    (λ e. reached-after_spaces versions m (spaces ++ space_of_draft d ∷ []) k (more_spaces m spaces d a h s (eqb-true _ _ e)))
    (λ e.
    let ne : length d.programs ≢ d.program_count = eqb-false _ _ e in
    let few : length d.programs ≤ d.program_count = h.programs in
    (k, a, h, s, one, omega arith))

-- the instructions begun and one more
pub begun_more : (d : Draft) (len : ℕ) (instrs : List Instr) (i : Instr) → IsBegun d len instrs → IsInRange i → JumpsBelow len i
    → NamesDeclared d.mutexes d.sem_count d.cells d.program_count i
    → All IsInRange (instrs ++ i ∷ []) × All (JumpsBelow len) (instrs ++ i ∷ [])
    × All (NamesDeclared d.mutexes d.sem_count d.cells d.program_count) (instrs ++ i ∷ [])
begun_more d len instrs i h range jump name = (
  All-push IsInRange instrs i h.ranges range,
  All-push (JumpsBelow len) instrs i h.jumps jump,
  All-push (NamesDeclared d.mutexes d.sem_count d.cells d.program_count) instrs i h.names name,
)

-- and where they are all, the last of them `end`, they are a program
pub whole_program : (d : Draft) (len : ℕ) (instrs : List Instr) (i : Instr) → IsBegun d len instrs → IsInRange i → JumpsBelow len i
    → NamesDeclared d.mutexes d.sem_count d.cells d.program_count i → i ≡ End → length (instrs ++ i ∷ []) ≡ len → IsProgram (instrs ++ i ∷ [])
whole_program d len instrs i h range jump name last e =
    let l : length (instrs ++ i ∷ []) ≡ length instrs + 1 = length_push instrs i in
    let more = begun_more d len instrs i h range jump name in
    record {
      not_empty = omega arith;
      not_too_long = omega (arith, h.short.1);
      ends =
          slice_get-get_or (instrs ++ i ∷ []) (length (instrs ++ i ∷ []) - 1) i (omega arith)
          ∙ (ap Some (get_or_push instrs i i (length (instrs ++ i ∷ []) - 1) (omega arith)) ∙ ap Some last);
      jumps = subst (λ (n : ℕ). All (JumpsBelow n) (instrs ++ i ∷ [])) (sym e) more.1;
      ranges = more.0;
    }

pub with_program-drafted : (m : HeaderView) (spaces : List SpaceView) (d : Draft) (p : List Instr) → IsDraft m spaces d
    → length d.programs < d.program_count → IsProgram p → All (NamesDeclared d.mutexes d.sem_count d.cells d.program_count) p
    → IsDraft m spaces (with_program d p)
with_program-drafted m spaces d p h room program names =
    redrafted m spaces d d.sems d.absent (d.programs ++ p ∷ []) h h.sems h.starts h.pages h.absent_rise (omega (arith, length_push d.programs p))
    (All-push IsProgram d.programs p h.each program)
    (All-push (All (NamesDeclared d.mutexes d.sem_count d.cells d.program_count)) d.programs p h.names names)

pub reached-instr : (versions : ℕ) (m : HeaderView) (spaces : List SpaceView) (d : Draft) (len : ℕ) (instrs : List Instr) (i : Instr)
    → IsReached versions (AtInstr m spaces d len instrs) → IsInRange i → JumpsBelow len i
    → NamesDeclared d.mutexes d.sem_count d.cells d.program_count i → (length instrs + 1 ≡ len → i ≡ End)
    → IsReached versions (after_instr m spaces d len (instrs ++ i ∷ []))
reached-instr versions m spaces d len instrs i r range jump name last =
    cond_both (length (instrs ++ i ∷ []) == len) (after_program m spaces (with_program d (instrs ++ i ∷ [])))
    (AtInstr m spaces d len (instrs ++ i ∷ [])) (λ (q : Position). IsReached versions q)
    (λ e. whole (eqb-true _ _ e))
    (λ e. more (eqb-false _ _ e))
  where
    l : length (instrs ++ i ∷ []) ≡ length instrs + 1
    l = length_push instrs i

    whole : length (instrs ++ i ∷ []) ≡ len → IsReached versions (after_program m spaces (with_program d (instrs ++ i ∷ [])))
    whole e =
        reached-after_program versions m spaces (with_program d (instrs ++ i ∷ [])) r.0 r.1
        (with_program-drafted m spaces d (instrs ++ i ∷ []) r.2 r.4
        (whole_program d len instrs i r.5 range jump name (last (sym l ∙ e)) e) (begun_more d len instrs i r.5 range jump name).2)
        r.3 (omega (arith, length_push d.programs (instrs ++ i ∷ [])))

    more : (length (instrs ++ i ∷ []) ≡ len → ⊥) → IsReached versions (AtInstr m spaces d len (instrs ++ i ∷ []))
    more ne =
        let room : length instrs < len = r.5.room in
        let all = begun_more d len instrs i r.5 range jump name in
        (r.0, r.1, r.2, r.3, r.4, record { short = r.5.short; room = omega (arith, l); ranges = all.0; jumps = all.1; names = all.2 })

pub more_turns : (m : HeaderView) (turns : List ProcNo) (p : ProcNo) → AreTurns m turns → p.0 < m.processors → length turns < MAX_TURNS
    → AreTurns m (turns ++ p ∷ [])
more_turns m turns p t h few =
    record { few = omega (arith, length_push turns p); each = All-push (λ (q : ProcNo). q.0 < m.processors) turns p t.each h }

can_slice-below : (v s : ℕ) → CanSlice v s → s ≤ MAX_SLICE
can_slice-below v s (inl h) = omega arith
can_slice-below v s (inr (inl h)) = omega arith
can_slice-below v s (inr (inr h)) = omega arith

-- what was read is a workload
pub reached-closed : (versions : ℕ) (m : HeaderView) (spaces : List SpaceView) (evictions : List Evict) (turns : List ProcNo) → IsHeader versions m
    → AreSpaces m spaces → length spaces ≡ m.count → AreEvictions m evictions → AreTurns m turns
    → IsReached versions (Closed (workload m spaces evictions turns))
reached-closed versions m spaces evictions turns k a c e t = (
  record {
    some_processor = k.processors.0;
    few_processors = k.processors.1;
    some_fetch = k.fetch.0;
    short_fetch = k.fetch.1;
    some_space = omega (arith, k.count.0);
    few_spaces = omega (arith, k.count.1);
    spaces = a.each;
    few_evictions = e.few;
    evictions = rw c e.each;
    evictions_rise = e.rise;
    few_turns = t.few;
    turns = t.each;
    slice = can_slice-below m.version m.slice k.slice;
  },
  omega (arith, version_of-workload m spaces evictions turns k.slice a c, k.version),
)
