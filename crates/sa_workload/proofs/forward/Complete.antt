-- The lines of each workload lead from the first position to the last.
use Rattle.std.proofs.Common.{◌≡◌, ◌≢◌, ℕ, ◌+◌, ◌-◌, ◌<◌, ◌≤◌, ◌==◌, ◌&&◌, not, Bool, true, false, cond, if◌then◌else◌, List, [], ◌∷◌, ◌++◌, length, get_or, map, slice_index, slice_get, length-append, All, Option, None, Result, Ok, Err, codes, decimal, refl, sym, ap, ap₂, ◌∙◌, subst, arith, leb, eqb, eq-eqb, ne_eqb, eqb-true, leb-true, append_assoc, append-nil}
use Rattle.std.specs.Option.{is_some, option_map}
use Rattle.std.specs.List.{flat_map, list_all}
use Rattle.std.proofs.Math.Seq.{get_or-append_seam}
use Rattle.std.proofs.lemmas.Bool.{lt-leb, cond-true, cond-false, false≢true, eqb-false, and_parts}
use Rattle.std.proofs.lemmas.List.{get_or_append_left}
use Rattle.std.proofs.lemmas.List.Elements.{All-push}
use Rattle.std.proofs.lemmas.List.{nil_from_length}
use Rattle.std.proofs.lemmas.Option.{same_Some}
use Rattle.sa_lemmas.proofs.ListUpdates.{slice_get-append_seam}
use Rattle.sa_base.specs.declared.limits.TheConstants.{MAX_EVENTS, MAX_PROCESSORS, MAX_SPACES}
use Rattle.sa_instr.specs.declared.limits.TheConstants.{LAST_PAGE, MAX_CELLS, MAX_EVICTIONS, MAX_FETCH, MAX_INSTRUCTIONS, MAX_MUTEXES, MAX_PATIENCE, MAX_PRIORITY, MAX_PROGRAMS, MAX_SEMAPHORES, MAX_SLICE, MAX_START, MAX_TURNS}
use Rattle.sa_base.specs.declared.number.ProcNo.{ProcNo}
use Rattle.sa_instr.specs.declared.instr.Instr.{Instr}
use Rattle.sa_instr.specs.declared.instr.Instr.TheVariants.{End}
use Rattle.sa_instr.specs.Operation.{form_of}
use Rattle.sa_instr.specs.Parts.{parts_of}
use Rattle.sa_instr.specs.Program.{IsProgram}
use Rattle.sa_instr.specs.Instr.{IsInRange, JumpsBelow, NamesDeclared}
use Rattle.sa_spaces.specs.declared.workload.Evict.{Evict}
use Rattle.sa_spaces.specs.Space.{SpaceView, IsSpace}
use Rattle.sa_spaces.specs.Workload.{WorkloadView, IsWorkload, IsEviction, IsBefore}
use Rattle.sa_workload.specs.Text.{instr_line, program_lines, sem_line, absent_line, space_line, space_lines, evict_line, turn_line, version_of, machine_lines, closing_lines, workload_lines}
use Rattle.sa_workload.specs.Bad.{Field, within, list_lt}
use Rattle.sa_workload.specs.Fields.{and_then, order_cause, line_numbers, index_of}
use Rattle.sa_workload.specs.Position.{HeaderView, Draft, Position, AtVersion, AtSlice, AtSpaces, AtSpace, AtAbsent, AtInstr, AtEvict, AtTurn, Closed}
use Rattle.sa_workload.specs.Steps.{expected, after_sem, after_spaces, after_program, after_instr, with_program}
use Rattle.sa_workload.specs.Next.{draft_numbers, fields_of, is_full, last_numbers, last_of, evict_numbers, is_end, is_last_impatient, step, step_instr, next}
use Rattle.sa_workload.proofs.fields.FieldLemmas.{line-spelled, spelled_all, AllPass, passes-within, passes-declared}
use Rattle.sa_workload.proofs.fields.InstrLemmas.{AreSmall, IsAllowed, instr-back, numbers_of_instr, operation-expected}
use Rattle.sa_workload.proofs.forward.Fronts.{last_is, all_true, true_all}
use Rattle.sa_workload.proofs.forward.Orders.{none-order, before_evict, less_head}

-- what a version says of the patience of all spaces, and of the slice
pub record IsVersion (v : ℕ) (all none : Bool) : Type 0 where
  pub range : (1 ≤ v) × (v ≤ 3)
  pub usual : v ≢ 3 → all ≡ true
  pub own : v ≡ 3 → all ≡ false
  pub first : v ≡ 1 → none ≡ true
  pub second : v ≢ 1 → v ≢ 3 → none ≡ false

by_tests : (all none : Bool) → IsVersion (if all then (if none then 1 else 2) else 3) all none
by_tests true true =
    record { range = (omega arith, omega arith); usual = λ _. refl; own = λ e. absurd (omega arith); first = λ _. refl; second = λ n. absurd (n refl) }
by_tests true false =
    record { range = (omega arith, omega arith); usual = λ _. refl; own = λ e. absurd (omega arith); first = λ e. absurd (omega arith); second = λ _ _. refl }
by_tests false none =
    record {
      range = (omega arith, omega arith);
      usual = λ n. absurd (n refl);
      own = λ _. refl;
      first = λ e. absurd (omega arith);
      second = λ _ n. absurd (n refl);
    }

pub version_is : (w : WorkloadView) → IsVersion (version_of w) (list_all (λ (s : SpaceView). eqb s.patience 1) w.spaces) (eqb w.slice 0)
version_is w = by_tests (list_all (λ (s : SpaceView). eqb s.patience 1) w.spaces) (eqb w.slice 0)

-- what a line of right numbers leads to
pub take-line : (versions : ℕ) (p : Position) (word : List ℕ) (ns : List ℕ) (q : Position) → is_some (index_of word (expected p)) ≡ true
    → is_full p word ≡ false
    → AllPass (fields_of versions p word) ns → order_cause (last_numbers p word) ns ≡ None → step p word ns ≡ Ok q
    → next versions p (word ∷ spelled_all (fields_of versions p word) ns) ≡ Ok q
take-line versions p word ns q known room passes order to =
    let read : Result (List ℕ) ℕ = line_numbers (fields_of versions p word) (last_numbers p word) (spelled_all (fields_of versions p word) ns) in
    ap (λ (b : Bool). cond b (cond (is_full p word) (Err 8) (and_then read (step p word))) (Err 2)) known
    ∙ ap (λ (b : Bool). cond b (Err 8) (and_then read (step p word))) room
    ∙ ap (λ (r : Result (List ℕ) ℕ). and_then r (step p word)) (line-spelled (fields_of versions p word) (last_numbers p word) ns passes order) ∙ to

-- where lines lead, one after another
abbrev pub run : ℕ → Position → List (List (List ℕ)) → Result Position ℕ
run versions p [] = Ok p
run versions p (line ∷ lines) = and_then (next versions p line) (λ q. run versions q lines)

assoc : (r : Result Position ℕ) (f g h : Position → Result Position ℕ) → ((q : Position) → h q ≡ and_then (f q) g) → and_then r h ≡ and_then (and_then r f) g
assoc (Ok q) f g h e = e q
assoc (Err why) f g h e = refl

pub run-append : (versions : ℕ) (p : Position) (xs ys : List (List (List ℕ)))
    → run versions p (xs ++ ys) ≡ and_then (run versions p xs) (λ q. run versions q ys)
run-append versions p [] ys = refl
run-append versions p (x ∷ xs) ys =
    assoc (next versions p x) (λ q. run versions q xs) (λ q. run versions q ys) (λ q. run versions q (xs ++ ys)) (λ q. run-append versions q xs ys)

pub run-then : (versions : ℕ) (p q r : Position) (xs ys : List (List (List ℕ))) → run versions p xs ≡ Ok q → run versions q ys ≡ Ok r
    → run versions p (xs ++ ys) ≡ Ok r
run-then versions p q r xs ys a b = run-append versions p xs ys ∙ ap (λ (x : Result Position ℕ). and_then x (λ q. run versions q ys)) a ∙ b

-- lines lead from a position to another
record Runs (versions : ℕ) (p : Position) (lines : List (List (List ℕ))) (q : Position) : Type 0 where
  is : run versions p lines ≡ Ok q

stop : {versions : ℕ} {p : Position} → Runs versions p [] p
stop = record { is = refl }

-- some lines and others, or a line and others
chain : {versions : ℕ} {p q r : Position} {xs ys : List (List (List ℕ))} → Runs versions p xs q → Runs versions q ys r → Runs versions p (xs ++ ys) r
chain {versions} {p} {q} {r} {xs} {ys} a b = record { is = run-then versions p q r xs ys a.is b.is }

one : {versions : ℕ} {p q r : Position} {x : List (List ℕ)} {ys : List (List (List ℕ))} → Runs versions p (x ∷ []) q → Runs versions q ys r
    → Runs versions p (x ∷ ys) r
one a b = chain a b

-- a line of right numbers
taken : {versions : ℕ} {p q : Position} (word ns : List ℕ) → is_some (index_of word (expected p)) ≡ true → is_full p word ≡ false
    → AllPass (fields_of versions p word) ns → order_cause (last_numbers p word) ns ≡ None → step p word ns ≡ Ok q
    → Runs versions p ((word ∷ spelled_all (fields_of versions p word) ns) ∷ []) q
taken {versions} {p} {q} word ns known room passes order to =
    record { is = ap (λ (x : Result Position ℕ). and_then x (λ q. Ok q)) (take-line versions p word ns q known room passes order to) }

-- where a position is one of two by a count: all are read, or more are to come
full : {versions : ℕ} {p x : Position} (n : ℕ) (y : Position) {ls : List (List (List ℕ))} → Runs versions p ls (if n == n then x else y) → Runs versions p ls x
full {versions} {p} {x} n y {ls} r = subst (Runs versions p ls) (cond-true _ x y (eq-eqb n n refl)) r

more : {versions : ℕ} {q y : Position} (x : Position) {ls : List (List (List ℕ))} {a b : ℕ} → a < b → Runs versions (if a == b then x else y) ls q
    → Runs versions y ls q
more {versions} {q} {y} x {ls} {a} {b} n r = subst (λ (p : Position). Runs versions p ls q) (cond-false _ x y (ne_eqb a b (omega arith))) r

at_more : {versions : ℕ} {q y : Position} (x : Position) {ls : List (List (List ℕ))} {a b : ℕ} → a < b → Runs versions y ls q
    → Runs versions (if a == b then x else y) ls q
at_more {versions} {q} {y} x {ls} {a} {b} n r = subst (λ (p : Position). Runs versions p ls q) (sym (cond-false _ x y (ne_eqb a b (omega arith)))) r

-- an element of a list, and those before it
record Among {X : Type 0} (all done : List X) (x : X) : Type 0 where
  rest : List X
  is : all ≡ done ++ x ∷ rest

-- what holds of all elements holds of it, and it is before the end
here : {X : Type 0} {all done : List X} {x : X} → Among all done x → (P : X → Type 0) → All P all → P x
here {X} {all} {done} {x} m P h =
    subst P (get_or-append_seam done x m.rest x) (subst (All P) m.is h (length done) x (omega (arith, length-append done (x ∷ m.rest))))

before : {X : Type 0} {all done : List X} {x : X} → Among all done x → length done < length all
before {X} {all} {done} {x} m = omega (arith, ap length m.is, length-append done (x ∷ m.rest))

-- the lines of each element of a list
over : {X : Type 0} {versions : ℕ} (P : List X → Position) (f : X → List (List (List ℕ))) (g : List X → List (List (List ℕ))) → g [] ≡ []
    → ((x : X) (xs : List X) → g (x ∷ xs) ≡ f x ++ g xs) → (all : List X)
    → ((done : List X) (x : X) → Among all done x → Runs versions (P done) (f x) (P (done ++ x ∷ []))) → Runs versions (P []) (g all) (P all)
over {X} {versions} P f g nil cons all each = go [] all refl
  where
    go : (done rest : List X) → all ≡ done ++ rest → Runs versions (P done) (g rest) (P all)
    go done [] e =
        subst (λ (ls : List (List (List ℕ))). Runs versions (P done) ls (P all)) (sym nil)
        (subst (λ (xs : List X). Runs versions (P done) [] (P xs)) (sym (e ∙ append-nil done)) stop)
    go done (x ∷ xs) e =
        subst (λ (ls : List (List (List ℕ))). Runs versions (P done) ls (P all)) (sym (cons x xs))
        (chain (each done x (record { rest = xs; is = e })) (go (done ++ x ∷ []) xs (e ∙ sym (append_assoc done (x ∷ []) xs))))

-- an element comes after the last of those before it, where they are in order
behind_last : {X : Type 0} (R : X → X → Type 0) (f : X → List ℕ) (all done : List X) (x d : X) → Among all done x
    → ((a b : X) → R a b → list_lt (f a) (f b) ≡ true)
    → ((k : ℕ) → k + 1 < length all → R (get_or all k d) (get_or all (k + 1) d))
    → order_cause (option_map f (last_of done)) (f x) ≡ None
behind_last R f all [] x d m less rise = refl
behind_last {X} R f all (y ∷ ys) x d m less rise =
    ap (λ (l : Option X). order_cause (option_map f l) (f x)) (last_is (y ∷ ys) d (omega arith))
    ∙ none-order (f last) (f x) (less last x
    (subst (λ (z : X). R z x) (ap (λ (l : List X). get_or l k d) m.is ∙ get_or_append_left (y ∷ ys) (x ∷ m.rest) d k (omega arith))
    (subst (λ (z : X). R (get_or all k d) z)
    (ap (λ (l : List X). get_or l (k + 1) d) m.is ∙ ap (λ (n : ℕ). get_or (y ∷ ys ++ x ∷ m.rest) n d) next_one ∙ get_or-append_seam (y ∷ ys) x m.rest d)
    (rise k (omega (arith, before m))))))
  where
    k : ℕ
    k = length (y ∷ ys) - 1

    last : X
    last = get_or (y ∷ ys) k d

    next_one : k + 1 ≡ length (y ∷ ys)
    next_one = omega arith

-- a program
allowed_last : (b : Bool) (i : Instr) → (b ≡ true → i ≡ End) → (b && not (is_end i)) ≡ false
allowed_last true i h = ap (λ (j : Instr). not (is_end j)) (h refl)
allowed_last false i h = refl

instr_run : (versions : ℕ) (m : HeaderView) (spaces : List SpaceView) (d : Draft) (len : ℕ) (instrs : List Instr) (i : Instr)
    → AreSmall (draft_numbers d len) → IsAllowed (draft_numbers d len) i → ((length instrs + 1 == len) ≡ true → i ≡ End)
    → Runs versions (AtInstr m spaces d len instrs) (instr_line i ∷ []) (after_instr m spaces d len (instrs ++ i ∷ []))
instr_run versions m spaces d len instrs i few allowed last =
    let read = instr-back versions (draft_numbers d len) few i allowed in
    subst (λ (l : List (List ℕ)). Runs versions (AtInstr m spaces d len instrs) (l ∷ []) (after_instr m spaces d len (instrs ++ i ∷ []))) read.line
    (taken (form_of (parts_of i).operation).word (numbers_of_instr i) (operation-expected (parts_of i).operation) refl read.passes refl
    (ap (step_instr m spaces d len instrs) read.is
    ∙ ap (λ (b : Bool). if b then Err 9 else Ok (after_instr m spaces d len (instrs ++ i ∷ []))) (allowed_last (length instrs + 1 == len) i last)))

program_run : (versions : ℕ) (m : HeaderView) (spaces : List SpaceView) (d : Draft) (p : List Instr) → AreSmall (draft_numbers d (length p)) → IsProgram p
    → All (NamesDeclared d.mutexes d.sem_count d.cells d.program_count) p
    → Runs versions (AtInstr m spaces d (length p) []) (map instr_line p) (after_program m spaces (with_program d p))
program_run versions m spaces d p few h names =
    let some : 0 < length p = omega (arith, h.not_empty) in
    more _ some (full (length p) _
    (over (λ (instrs : List Instr). after_instr m spaces d (length p) instrs) (λ (i : Instr). instr_line i ∷ []) (map instr_line) refl (λ i is. refl) p each))
  where
    each : (done : List Instr) (i : Instr) → Among p done i
        → Runs versions (after_instr m spaces d (length p) done) (instr_line i ∷ []) (after_instr m spaces d (length p) (done ++ i ∷ []))
    each done i at =
        at_more _ (before at) (instr_run versions m spaces d (length p) done i few
        (record {
          range = here at IsInRange h.ranges;
          jump = here at (JumpsBelow (length p)) h.jumps;
          name = here at (NamesDeclared d.mutexes d.sem_count d.cells d.program_count) names;
        })
        (λ t.
        let last : length p - 1 ≡ length done = omega (arith, eqb-true (length done + 1) (length p) t) in
        same_Some i End (sym (slice_get-append_seam done at.rest i) ∙ ap₂ (λ (l : List Instr) (k : ℕ). slice_get l k) (sym at.is) (sym last) ∙ h.ends)))

-- a space
abbrev first_draft : SpaceView → Draft
first_draft s = record {
  priority = s.priority;
  mutexes = s.mutexes;
  sem_count = length s.sems;
  cells = s.cells;
  program_count = length s.programs;
  patience = s.patience;
  sems = [];
  absent = [];
  programs = [];
}

abbrev sems_draft : SpaceView → Draft
sems_draft s = record (first_draft s) { sems = s.sems }

abbrev pages_draft : SpaceView → Draft
pages_draft s = record (sems_draft s) { absent = s.absent }

-- the position after some programs of a space
abbrev programs_at : HeaderView → List SpaceView → SpaceView → List (List Instr) → Position
programs_at m spaces s [] = AtAbsent m spaces (pages_draft s)
programs_at m spaces s (p ∷ ps) = after_program m spaces (record (pages_draft s) { programs = p ∷ ps })

programs_more : (m : HeaderView) (spaces : List SpaceView) (s : SpaceView) (done : List (List Instr)) (p : List Instr)
    → after_program m spaces (with_program (record (pages_draft s) { programs = done }) p) ≡ programs_at m spaces s (done ++ p ∷ [])
programs_more m spaces s [] p = refl
programs_more m spaces s (q ∷ qs) p = refl

programs_run : (versions : ℕ) (m : HeaderView) (spaces : List SpaceView) (s : SpaceView) → IsSpace s
    → Runs versions (AtAbsent m spaces (pages_draft s)) (flat_map program_lines s.programs) (after_spaces m (spaces ++ s ∷ []))
programs_run versions m spaces s h =
    whole s.programs refl (over (programs_at m spaces s) program_lines (flat_map program_lines) refl (λ p ps. refl) s.programs each)
  where
    whole : (ps : List (List Instr)) → s.programs ≡ ps
        → Runs versions (AtAbsent m spaces (pages_draft s)) (flat_map program_lines s.programs) (programs_at m spaces s ps)
        → Runs versions (AtAbsent m spaces (pages_draft s)) (flat_map program_lines s.programs) (after_spaces m (spaces ++ s ∷ []))
    whole [] e r = absurd (omega (arith, ap length e, h.some_program))
    whole (p ∷ ps) e r =
        full (length s.programs) _ (subst (λ (qs : List (List Instr)). Runs versions (AtAbsent m spaces (pages_draft s)) (flat_map program_lines s.programs)
        (after_program m spaces (record (pages_draft s) { programs = qs }))) (sym e) r)

    first : (done : List (List Instr)) (p : List Instr) → Among s.programs done p → (1 ≤ length p) × (length p ≤ MAX_INSTRUCTIONS)
        → Runs versions (programs_at m spaces s done) ((codes "program" ∷ decimal (length p) ∷ []) ∷ [])
        (AtInstr m spaces (record (pages_draft s) { programs = done }) (length p) [])
    first [] p at is = taken (codes "program") (length p ∷ []) refl refl (passes-within 1 MAX_INSTRUCTIONS (length p) is.0 is.1 (omega arith), tt) refl refl
    first (q ∷ qs) p at is =
        at_more _ (before at) (taken (codes "program") (length p ∷ []) refl refl
        (passes-within 1 MAX_INSTRUCTIONS (length p) is.0 is.1 (omega arith), tt) refl refl)

    each : (done : List (List Instr)) (p : List Instr) → Among s.programs done p
        → Runs versions (programs_at m spaces s done) (program_lines p) (programs_at m spaces s (done ++ p ∷ []))
    each done p at =
        let is : IsProgram p = here at IsProgram h.programs in
        one (first done p at (is.not_empty, is.not_too_long))
        (subst (Runs versions _ (map instr_line p)) (programs_more m spaces s done p)
        (program_run versions m spaces (record (pages_draft s) { programs = done }) p
        (record {
          mutexes = omega (arith, h.mutexes);
          semaphores = omega (arith, h.sems);
          cells = omega (arith, h.cells);
          programs = omega (arith, h.few_programs);
          instructions = omega (arith, is.not_too_long);
        }) is
        (here at (All (NamesDeclared s.mutexes (length s.sems) s.cells (length s.programs))) h.names)))

-- the patience of a space fits after those before it
abbrev FitsPatience : HeaderView → List SpaceView → SpaceView → Type 0
FitsPatience m spaces s =
    (m.version ≢ 3 → s.patience ≡ 1) × (m.version ≡ 3 → is_last_impatient m spaces ≡ true → s.patience ≢ 1)

-- it is in the first line of the space where the version is 3
patience : (own need : Bool) (k : ℕ) → (1 ≤ k) × (k ≤ MAX_PATIENCE) → (own ≡ false → k ≡ 1) → (own ≡ true → need ≡ true → k ≢ 1)
    → AllPass (if own then within (if need then 2 else 1) MAX_PATIENCE ∷ [] else []) (if own then k ∷ [] else [])
    × (spelled_all (if own then within (if need then 2 else 1) MAX_PATIENCE ∷ [] else []) (if own then k ∷ [] else []) ≡ (if own then decimal k ∷ [] else []))
    × ((if own then slice_index (if own then k ∷ [] else []) 0 else 1) ≡ k)
patience true true k range one other =
    let more : k ≢ 1 = other refl refl in ((passes-within 2 MAX_PATIENCE k (omega arith) range.1 (omega arith), tt), refl, refl)
patience true false k range one other = ((passes-within 1 MAX_PATIENCE k range.0 range.1 (omega arith), tt), refl, refl)
patience false need k range one other = (tt, refl, sym (one refl))

-- the numbers of that line
pub space_pass : (fs : List Field) (a b c d e : ℕ) (ns : List ℕ) → a ≤ MAX_PRIORITY → b ≤ MAX_MUTEXES → c ≤ MAX_SEMAPHORES → d ≤ MAX_CELLS → 1 ≤ e
    → e ≤ MAX_PROGRAMS → AllPass fs ns
    → AllPass (within 0 MAX_PRIORITY ∷ within 0 MAX_MUTEXES ∷ within 0 MAX_SEMAPHORES ∷ within 0 MAX_CELLS ∷ within 1 MAX_PROGRAMS ∷ fs)
    (a ∷ b ∷ c ∷ d ∷ e ∷ ns)
space_pass fs a b c d e ns ha hb hc hd low high rest =
    let pass_a = passes-within 0 MAX_PRIORITY a (omega arith) ha (omega arith) in
    let pass_b = passes-within 0 MAX_MUTEXES b (omega arith) hb (omega arith) in
    let pass_c = passes-within 0 MAX_SEMAPHORES c (omega arith) hc (omega arith) in
    let pass_d = passes-within 0 MAX_CELLS d (omega arith) hd (omega arith) in
    (pass_a, (pass_b, (pass_c, (pass_d, (passes-within 1 MAX_PROGRAMS e low high (omega arith), rest)))))

space_first : (versions : ℕ) (m : HeaderView) (spaces : List SpaceView) (s : SpaceView) → IsSpace s → FitsPatience m spaces s
    → Runs versions (AtSpace m spaces) (space_line m.version s ∷ []) (after_sem m spaces (first_draft s))
space_first versions m spaces s h fits =
    let own : Bool = m.version == 3 in
    let last = patience own (is_last_impatient m spaces) s.patience (h.patient, h.patience) (λ e. fits.0 (eqb-false m.version 3 e))
    (λ e. fits.1 (eqb-true m.version 3 e)) in
    subst (λ (ws : List (List ℕ)). Runs versions (AtSpace m spaces)
    ((codes "space" ∷ decimal s.priority ∷ decimal s.mutexes ∷ decimal (length s.sems) ∷ decimal s.cells ∷ decimal (length s.programs) ∷ ws) ∷ [])
    (after_sem m spaces (first_draft s))) last.1
    (taken (codes "space") (s.priority ∷ s.mutexes ∷ length s.sems ∷ s.cells ∷ length s.programs ∷ (if own then s.patience ∷ [] else [])) refl refl
    (space_pass _ s.priority s.mutexes (length s.sems) s.cells (length s.programs) _ h.priority h.mutexes h.sems h.cells h.some_program h.few_programs last.0)
    refl (ap (λ (k : ℕ). Ok (after_sem m spaces (record (first_draft s) { patience = k }))) last.2))

space_run : (versions : ℕ) (m : HeaderView) (spaces : List SpaceView) (s : SpaceView) → IsSpace s → FitsPatience m spaces s
    → Runs versions (AtSpace m spaces) (space_lines m.version s) (after_spaces m (spaces ++ s ∷ []))
space_run versions m spaces s h fits =
    one (space_first versions m spaces s h fits)
    (chain (full (length s.sems) _
    (over (λ (ns : List ℕ). after_sem m spaces (record (first_draft s) { sems = ns })) (λ (n : ℕ). sem_line n ∷ []) (map sem_line) refl
    (λ n ns. refl) s.sems sem))
    (chain (over (λ (ks : List ℕ). AtAbsent m spaces (record (sems_draft s) { absent = ks })) (λ (k : ℕ). absent_line k ∷ []) (map absent_line) refl
    (λ k ks. refl) s.absent page)
    (programs_run versions m spaces s h)))
  where
    sem : (done : List ℕ) (n : ℕ) → Among s.sems done n
        → Runs versions (after_sem m spaces (record (first_draft s) { sems = done })) (sem_line n ∷ [])
        (after_sem m spaces (record (first_draft s) { sems = done ++ n ∷ [] }))
    sem done n at =
        at_more _ (before at) (taken (codes "sem") (n ∷ []) refl refl
        (passes-within 0 MAX_START n (omega arith) (here at (λ (x : ℕ). x ≤ MAX_START) h.starts) (omega arith), tt) refl refl)

    page : (done : List ℕ) (k : ℕ) → Among s.absent done k
        → Runs versions (AtAbsent m spaces (record (sems_draft s) { absent = done })) (absent_line k ∷ [])
        (AtAbsent m spaces (record (sems_draft s) { absent = done ++ k ∷ [] }))
    page done k at =
        taken (codes "absent") (k ∷ []) refl refl (passes-within 0 LAST_PAGE k (omega arith) (here at (λ (x : ℕ). x ≤ LAST_PAGE) h.pages) (omega arith), tt)
        (behind_last (λ (a b : ℕ). a < b) (λ (x : ℕ). x ∷ []) s.absent done k 0 at (λ a b l. less_head a b [] [] l) h.absent_rise) refl

abbrev machine_in : WorkloadView → HeaderView
machine_in w = record { version = version_of w; processors = w.processors; fetch = w.fetch; slice = w.slice; count = length w.spaces }

-- the position after some turns
abbrev turns_at : WorkloadView → List ProcNo → Position
turns_at w [] = AtEvict (machine_in w) w.spaces w.evictions
turns_at w (t ∷ ts) = AtTurn (machine_in w) w.spaces w.evictions (t ∷ ts)

module _ (versions : ℕ) (w : WorkloadView) (h : IsWorkload w) where
  -- the line of the number of spaces, and those after the fetch line
  spaces_line : Runs versions (AtSpaces (version_of w) w.processors w.fetch w.slice) ((codes "spaces" ∷ decimal (length w.spaces) ∷ []) ∷ [])
      (AtSpace (machine_in w) [])
  spaces_line =
      taken (codes "spaces") (length w.spaces ∷ []) refl refl
      (passes-within 1 MAX_SPACES (length w.spaces) h.some_space h.few_spaces (omega arith), tt) refl refl

  behind_fetch : (first : Bool) → (version_of w == 1) ≡ first
      → Runs versions (if first then AtSpaces (version_of w) w.processors w.fetch 0 else AtSlice (version_of w) w.processors w.fetch)
      ((if first then [] else (codes "slice" ∷ decimal w.slice ∷ []) ∷ []) ++ (codes "spaces" ∷ decimal (length w.spaces) ∷ []) ∷ [])
      (AtSpace (machine_in w) [])
  behind_fetch true t =
      subst (λ (s : ℕ). Runs versions (AtSpaces (version_of w) w.processors w.fetch s) ((codes "spaces" ∷ decimal (length w.spaces) ∷ []) ∷ [])
      (AtSpace (machine_in w) []))
      (eqb-true w.slice 0 ((version_is w).first (eqb-true (version_of w) 1 t))) spaces_line
  behind_fetch false t =
      one (taken (codes "slice") (w.slice ∷ []) refl refl
      (passes-within (if version_of w == 3 then 0 else 1) MAX_SLICE w.slice (least (version_of w == 3) refl) h.slice (omega arith), tt) refl refl)
      spaces_line
    where
      least : (b : Bool) → (version_of w == 3) ≡ b → (if b then 0 else 1) ≤ w.slice
      least true e = omega arith
      least false e =
          let some : w.slice ≢ 0 = eqb-false w.slice 0 ((version_is w).second (eqb-false (version_of w) 1 t) (eqb-false (version_of w) 3 e)) in omega arith

  machine_run : version_of w ≤ versions → versions ≤ 3 → Runs versions AtVersion (machine_lines w) (AtSpace (machine_in w) [])
  machine_run few three =
      one (taken (codes "workload") (version_of w ∷ []) refl refl
      (passes-within 1 versions (version_of w) (version_is w).range.0 few (omega arith), tt) refl refl)
      (one (taken (codes "processors") (w.processors ∷ []) refl refl
      (passes-within 1 MAX_PROCESSORS w.processors h.some_processor h.few_processors (omega arith), tt) refl refl)
      (one (taken (codes "fetch") (w.fetch ∷ []) refl refl (passes-within 1 MAX_FETCH w.fetch h.some_fetch h.short_fetch (omega arith), tt) refl refl)
      (behind_fetch (version_of w == 1) refl)))

  spaces_run : Runs versions (AtSpace (machine_in w) []) (flat_map (space_lines (version_of w)) w.spaces) (AtEvict (machine_in w) w.spaces [])
  spaces_run =
      let some : 0 < length w.spaces = omega (arith, h.some_space) in
      more _ some (full (length w.spaces) _
      (over (λ (ss : List SpaceView). after_spaces (machine_in w) ss) (space_lines (version_of w)) (flat_map (space_lines (version_of w))) refl
      (λ s ss. refl) w.spaces each))
    where
      own : (done : List SpaceView) (s : SpaceView) → Among w.spaces done s → version_of w ≡ 3 → is_last_impatient (machine_in w) done ≡ true → s.patience ≢ 1
      own done s at v need one =
          let b = and_parts (leb (length w.spaces) (length done + 1)) (list_all (λ (t : SpaceView). eqb t.patience 1) done) need in
          let few : length w.spaces ≤ length done + 1 = leb-true (length w.spaces) (length done + 1) b.0 in
          let last : at.rest ≡ [] = nil_from_length at.rest (omega (arith, ap length at.is, length-append done (s ∷ at.rest))) in
          let all : All (λ (t : SpaceView). t.patience ≡ 1) (done ++ s ∷ []) =
          All-push (λ (t : SpaceView). t.patience ≡ 1) done s (true_all (λ (t : SpaceView). t.patience) 1 done b.1) one in
          let whole : list_all (λ (t : SpaceView). eqb t.patience 1) w.spaces ≡ true =
          ap (λ (xs : List SpaceView). list_all (λ (t : SpaceView). eqb t.patience 1) xs) (at.is ∙ ap (λ (xs : List SpaceView). done ++ s ∷ xs) last)
          ∙ all_true (λ (t : SpaceView). t.patience) 1 (done ++ s ∷ []) all in
          false≢true (sym ((version_is w).own v) ∙ whole)

      each : (done : List SpaceView) (s : SpaceView) → Among w.spaces done s
          → Runs versions (after_spaces (machine_in w) done) (space_lines (version_of w) s) (after_spaces (machine_in w) (done ++ s ∷ []))
      each done s at =
          at_more _ (before at) (space_run versions (machine_in w) done s (here at IsSpace h.spaces)
          ((λ n. here at (λ (t : SpaceView). t.patience ≡ 1) (true_all (λ (t : SpaceView). t.patience) 1 w.spaces ((version_is w).usual n))), own done s at))

  evictions_run : Runs versions (AtEvict (machine_in w) w.spaces []) (map evict_line w.evictions) (AtEvict (machine_in w) w.spaces w.evictions)
  evictions_run =
      over (λ (es : List Evict). AtEvict (machine_in w) w.spaces es) (λ (e : Evict). evict_line e ∷ []) (map evict_line) refl (λ e es. refl) w.evictions each
    where
      each : (done : List Evict) (e : Evict) → Among w.evictions done e
          → Runs versions (AtEvict (machine_in w) w.spaces done) (evict_line e ∷ []) (AtEvict (machine_in w) w.spaces (done ++ e ∷ []))
      each done e at =
          let is : IsEviction (length w.spaces) e = here at (IsEviction (length w.spaces)) h.evictions in
          taken (codes "evict") (evict_numbers e) refl (lt-leb MAX_EVICTIONS (length done) (omega (arith, before at, h.few_evictions))) (
            passes-within 1 MAX_EVENTS e.event is.first is.last (omega arith),
            (
              passes-declared (length w.spaces) e.space.0 is.space (omega (arith, h.few_spaces)),
              (passes-within 0 LAST_PAGE e.page (omega arith) is.page (omega arith), tt),
            ),
          )
          (behind_last IsBefore evict_numbers w.evictions done e e at before_evict (λ k l. h.evictions_rise k e l)) refl

  turns_run : Runs versions (AtEvict (machine_in w) w.spaces w.evictions) (map turn_line w.turns) (turns_at w w.turns)
  turns_run = over (turns_at w) (λ (t : ProcNo). turn_line t ∷ []) (map turn_line) refl (λ t ts. refl) w.turns each
    where
      pass : (done : List ProcNo) (t : ProcNo) → Among w.turns done t → AllPass (within 0 (w.processors - 1) ∷ []) (t.0 ∷ [])
      pass done t at =
          let below : t.0 < w.processors = here at (λ (p : ProcNo). p.0 < w.processors) h.turns in
          (passes-within 0 (w.processors - 1) t.0 (omega arith) (omega arith) (omega (arith, h.few_processors)), tt)

      each : (done : List ProcNo) (t : ProcNo) → Among w.turns done t → Runs versions (turns_at w done) (turn_line t ∷ []) (turns_at w (done ++ t ∷ []))
      each [] t at = taken (codes "turn") (t.0 ∷ []) refl refl (pass [] t at) refl refl
      each (u ∷ us) t at =
          taken (codes "turn") (t.0 ∷ []) refl (lt-leb MAX_TURNS (length (u ∷ us)) (omega (arith, before at, h.few_turns))) (pass (u ∷ us) t at) refl refl

  close_run : (ts : List ProcNo) → w.turns ≡ ts → Runs versions (turns_at w ts) ((codes "close" ∷ []) ∷ []) (Closed w)
  close_run [] e = taken (codes "close") [] refl refl tt refl (ap (λ (ts : List ProcNo). Ok (Closed (record w { turns = ts }))) (sym e))
  close_run (t ∷ ts) e = taken (codes "close") [] refl refl tt refl (ap (λ (ts : List ProcNo). Ok (Closed (record w { turns = ts }))) (sym e))

  pub complete : versions ≤ 3 → version_of w ≤ versions → run versions AtVersion (workload_lines w) ≡ Ok (Closed w)
  unfolding workload_lines
  complete three few =
      let all : Runs versions AtVersion (machine_lines w ++ (flat_map (space_lines (version_of w)) w.spaces ++ closing_lines w)) (Closed w) =
      chain {xs = machine_lines w} (machine_run few three) (chain spaces_run (chain evictions_run (chain turns_run (close_run w.turns refl)))) in
      all.is
