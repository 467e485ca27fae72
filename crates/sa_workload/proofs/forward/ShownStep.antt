-- A step shows one line more.
use Rattle.std.proofs.Common.{◌≡◌, ◌≢◌, ℕ, ◌≤◌, Bool, true, false, List, [], ◌∷◌, ◌++◌, length, map, codes, decimal, arith, refl, sym, ap, ◌∙◌, inl, inr, eqb, append_assoc, append-nil, if◌then◌else◌, eq-eqb, ne_eqb, eqb-true}
use Rattle.std.specs.List.{flat_map, list_all}
use Rattle.std.proofs.lemmas.Bool.{cond_both, false_from_ne_true}
use Rattle.std.proofs.lemmas.List.{map_push}
use Rattle.std.proofs.lemmas.List.Concat.{flat_map-append}
use Rattle.sa_base.specs.declared.number.ProcNo.{ProcNo}
use Rattle.sa_instr.specs.declared.instr.Instr.{Instr}
use Rattle.sa_spaces.specs.declared.workload.Evict.{Evict}
use Rattle.sa_spaces.specs.Space.{SpaceView}
use Rattle.sa_workload.specs.Text.{instr_line, program_lines, sem_line, absent_line, space_lines, evict_line, turn_line, slice_lines, version_of, workload_lines}
use Rattle.sa_workload.specs.Position.{HeaderView, Draft, Position, AtSlice, AtSpaces, AtSpace, AtSem, AtAbsent, AtProgram, AtInstr, AtEvict, IsReached, AreSpaces, CanSlice, version_line, processors_line, fetch_line, spaces_line, shown_machine, shown_spaces, draft_line, shown_draft, shown}
use Rattle.sa_workload.specs.Steps.{Steps, step_version, step_processors, step_fetch, step_slice, step_spaces, step_space, step_sem, step_absent, step_first_program, step_program, step_instr, step_evict, step_first_turn, step_turn, step_first_close, step_close, slice_line, program_line, close_line, workload, space_of_draft, IsFresh, with_sem, with_absent, with_program, after_fetch, after_sem, after_spaces, after_program, after_instr}
use Rattle.sa_workload.proofs.forward.Fronts.{all_true, true_all}

abbrev pub Lines : Type 0
Lines = List (List (List ℕ))

-- the version of a workload is that of its machine
pub version_of-workload : (m : HeaderView) (spaces : List SpaceView) (evictions : List Evict) (turns : List ProcNo)
    → CanSlice m.version m.slice → AreSpaces m spaces → length spaces ≡ m.count → version_of (workload m spaces evictions turns) ≡ m.version
version_of-workload m spaces evictions turns can are e = by_slice can
  where
    all : Bool
    all = list_all (λ (s : SpaceView). eqb s.patience 1) spaces

    patient : m.version ≢ 3 → all ≡ true
    patient n = all_true (λ (s : SpaceView). s.patience) 1 spaces (are.patient n)

    own : m.version ≡ 3 → all ≡ false
    own v = false_from_ne_true all (λ t. are.own v e (true_all (λ (s : SpaceView). s.patience) 1 spaces t))

    by_slice : CanSlice m.version m.slice → version_of (workload m spaces evictions turns) ≡ m.version
    by_slice (inl one) =
        ap (λ (b : Bool). if b then (if eqb m.slice 0 then 1 else 2) else 3) (patient (omega (arith, one.0)))
        ∙ ap (λ (b : Bool). if b then 1 else 2) (eq-eqb m.slice 0 one.1) ∙ sym one.0
    by_slice (inr (inl two)) =
        ap (λ (b : Bool). if b then (if eqb m.slice 0 then 1 else 2) else 3) (patient (omega (arith, two.0)))
        ∙ ap (λ (b : Bool). if b then 1 else 2) (ne_eqb m.slice 0 (omega (arith, two.1))) ∙ sym two.0
    by_slice (inr (inr three)) =
        ap (λ (b : Bool). if b then (if eqb m.slice 0 then 1 else 2) else 3) (own three.0) ∙ sym three.0

slice_shown : (v s : ℕ) → 2 ≤ v → slice_lines v s ≡ slice_line s ∷ []
slice_shown v s h = ap (λ (b : Bool). if b then [] else slice_line s ∷ []) (ne_eqb v 1 (omega arith))

fetch_shown : (v n f : ℕ) → shown (after_fetch v n f) ≡ version_line v ∷ processors_line n ∷ fetch_line f ∷ []
fetch_shown v n f =
    cond_both (eqb v 1) (AtSpaces v n f 0) (AtSlice v n f) (λ (q : Position). shown q ≡ version_line v ∷ processors_line n ∷ fetch_line f ∷ [])
    (λ e. ap (λ (b : Bool). version_line v ∷ processors_line n ∷ fetch_line f ∷ (if b then [] else slice_line 0 ∷ [])) e) (λ e. refl)

pub after_sem-shown : (m : HeaderView) (spaces : List SpaceView) (d : Draft) → shown (after_sem m spaces d) ≡ shown_spaces m spaces ++ shown_draft m.version d
after_sem-shown m spaces d =
    cond_both (eqb (length d.sems) d.sem_count) (AtAbsent m spaces d) (AtSem m spaces d)
    (λ (q : Position). shown q ≡ shown_spaces m spaces ++ shown_draft m.version d) (λ e. refl) (λ e. refl)

pub after_spaces-shown : (m : HeaderView) (spaces : List SpaceView) → shown (after_spaces m spaces) ≡ shown_spaces m spaces
after_spaces-shown m spaces =
    cond_both (eqb (length spaces) m.count) (AtEvict m spaces []) (AtSpace m spaces) (λ (q : Position). shown q ≡ shown_spaces m spaces)
    (λ e. append-nil (shown_spaces m spaces)) (λ e. refl)

-- a whole draft is a space
draft_whole : (version : ℕ) (d : Draft) → length d.sems ≡ d.sem_count → length d.programs ≡ d.program_count
    → space_lines version (space_of_draft d) ≡ shown_draft version d
draft_whole version d e f = λ i.
    (codes "space" ∷ decimal d.priority ∷ decimal d.mutexes ∷ decimal (e i) ∷ decimal d.cells ∷ decimal (f i)
    ∷ (if eqb version 3 then decimal d.patience ∷ [] else [])) ∷ (map sem_line d.sems ++ (map absent_line d.absent ++ flat_map program_lines d.programs))

spaces_push : (m : HeaderView) (spaces : List SpaceView) (s : SpaceView) → shown_spaces m (spaces ++ s ∷ []) ≡ shown_spaces m spaces ++ space_lines m.version s
spaces_push m spaces s =
    ap (λ (ls : Lines). shown_machine m ++ ls)
    (flat_map-append (space_lines m.version) spaces (s ∷ [])
    ∙ ap (λ (ls : Lines). flat_map (space_lines m.version) spaces ++ ls) (append-nil (space_lines m.version s)))
    ∙ sym (append_assoc (shown_machine m) (flat_map (space_lines m.version) spaces) (space_lines m.version s))

pub after_program-shown : (m : HeaderView) (spaces : List SpaceView) (d : Draft) → length d.sems ≡ d.sem_count
    → shown (after_program m spaces d) ≡ shown_spaces m spaces ++ shown_draft m.version d
after_program-shown m spaces d e =
    cond_both (eqb (length d.programs) d.program_count) (after_spaces m (spaces ++ space_of_draft d ∷ [])) (AtProgram m spaces d)
    (λ (q : Position). shown q ≡ shown_spaces m spaces ++ shown_draft m.version d)
    (λ t. after_spaces-shown m (spaces ++ space_of_draft d ∷ []) ∙ spaces_push m spaces (space_of_draft d)
    ∙ ap (λ (ls : Lines). shown_spaces m spaces ++ ls) (draft_whole m.version d e (eqb-true (length d.programs) d.program_count t))) (λ t. refl)

programs_push : (version : ℕ) (d : Draft) (p : List Instr) → shown_draft version (with_program d p) ≡ shown_draft version d ++ program_lines p
programs_push version d p =
    ap (λ (ls : Lines). draft_line version d ∷ (map sem_line d.sems ++ (map absent_line d.absent ++ ls)))
    (flat_map-append program_lines d.programs (p ∷ []) ∙ ap (λ (ls : Lines). flat_map program_lines d.programs ++ ls) (append-nil (program_lines p)))
    ∙ ap (λ (ls : Lines). draft_line version d ∷ (map sem_line d.sems ++ ls))
    (sym (append_assoc (map absent_line d.absent) (flat_map program_lines d.programs) (program_lines p)))
    ∙ ap (λ (ls : Lines). draft_line version d ∷ ls)
    (sym (append_assoc (map sem_line d.sems) (map absent_line d.absent ++ flat_map program_lines d.programs) (program_lines p)))

pub after_instr-shown : (m : HeaderView) (spaces : List SpaceView) (d : Draft) (len : ℕ) (instrs : List Instr) → length d.sems ≡ d.sem_count
    → shown (after_instr m spaces d len instrs) ≡ shown_spaces m spaces ++ (shown_draft m.version d ++ (program_line len ∷ map instr_line instrs))
after_instr-shown m spaces d len instrs e =
    cond_both (eqb (length instrs) len) (after_program m spaces (with_program d instrs)) (AtInstr m spaces d len instrs)
    (λ (q : Position). shown q ≡ shown_spaces m spaces ++ (shown_draft m.version d ++ (program_line len ∷ map instr_line instrs)))
    (λ t. after_program-shown m spaces (with_program d instrs) e
    ∙ ap (λ (ls : Lines). shown_spaces m spaces ++ ls)
    (programs_push m.version d instrs
    ∙ ap (λ (n : ℕ). shown_draft m.version d ++ (program_line n ∷ map instr_line instrs)) (eqb-true (length instrs) len t))) (λ t. refl)

-- a draft with no program yet shows its semaphores and its pages
draft_pages : (version : ℕ) (d : Draft) → d.programs ≡ [] → shown_draft version d ≡ draft_line version d ∷ (map sem_line d.sems ++ map absent_line d.absent)
draft_pages version d e =
    ap (λ (ps : List (List Instr)). draft_line version d ∷ (map sem_line d.sems ++ (map absent_line d.absent ++ flat_map program_lines ps))) e
    ∙ ap (λ (ls : Lines). draft_line version d ∷ (map sem_line d.sems ++ ls)) (append-nil (map absent_line d.absent))

draft_sems : (version : ℕ) (d : Draft) → d.absent ≡ [] → d.programs ≡ [] → shown_draft version d ≡ draft_line version d ∷ map sem_line d.sems
draft_sems version d e f =
    draft_pages version d f ∙ ap (λ (ks : List ℕ). draft_line version d ∷ (map sem_line d.sems ++ map absent_line ks)) e
    ∙ ap (λ (ls : Lines). draft_line version d ∷ ls) (append-nil (map sem_line d.sems))

draft_fresh : (version : ℕ) (d : Draft) → IsFresh d → shown_draft version d ≡ draft_line version d ∷ []
draft_fresh version d fresh = draft_sems version d fresh.1 fresh.2 ∙ ap (λ (ns : List ℕ). draft_line version d ∷ map sem_line ns) fresh.0

closing : (m : HeaderView) (spaces : List SpaceView) (evictions : List Evict) (turns : List ProcNo)
    → version_of (workload m spaces evictions turns) ≡ m.version → length spaces ≡ m.count
    → workload_lines (workload m spaces evictions turns) ≡ (shown_spaces m spaces ++ (map evict_line evictions ++ map turn_line turns)) ++ close_line ∷ []
unfolding workload_lines
closing m spaces evictions turns e f =
    (λ i. (version_line (e i) ∷ processors_line m.processors ∷ fetch_line m.fetch ∷ (slice_lines (e i) m.slice ++ spaces_line (f i) ∷ []))
    ++ (flat_map (space_lines (e i)) spaces ++ (map evict_line evictions ++ (map turn_line turns ++ close_line ∷ []))))
    ∙ sym (append_assoc (shown_machine m) (flat_map (space_lines m.version) spaces) (map evict_line evictions ++ (map turn_line turns ++ close_line ∷ [])))
    ∙ ap (λ (ls : Lines). shown_spaces m spaces ++ ls) (sym (append_assoc (map evict_line evictions) (map turn_line turns) (close_line ∷ [])))
    ∙ sym (append_assoc (shown_spaces m spaces) (map evict_line evictions ++ map turn_line turns) (close_line ∷ []))

-- a step shows its line after those before it
pub shown-step : (versions : ℕ) (p : Position) (line : List (List ℕ)) (q : Position) → Steps p line q → IsReached versions p → shown q ≡ shown p ++ line ∷ []
shown-step versions p line q (step_version v) h = refl
shown-step versions p line q (step_processors v n) h = refl
shown-step versions p line q (step_fetch v n f) h = fetch_shown v n f
shown-step versions p line q (step_slice v n f s) h =
    ap (λ (ls : Lines). version_line v ∷ processors_line n ∷ fetch_line f ∷ ls) (slice_shown v s h.0)
shown-step versions p line q (step_spaces v n f s c) h =
    append-nil (version_line v ∷ processors_line n ∷ fetch_line f ∷ (slice_lines v s ++ spaces_line c ∷ []))
shown-step versions p line q (step_space m spaces d fresh) h =
    after_sem-shown m spaces d ∙ ap (λ (ls : Lines). shown_spaces m spaces ++ ls) (draft_fresh m.version d fresh)
shown-step versions p line q (step_sem m spaces d n) h =
    after_sem-shown m spaces (with_sem d n)
    ∙ ap (λ (ls : Lines). shown_spaces m spaces ++ ls)
    (draft_sems m.version (with_sem d n) h.4 h.5 ∙ ap (λ (ls : Lines). draft_line m.version d ∷ ls) (map_push sem_line d.sems n)
    ∙ ap (λ (ls : Lines). ls ++ sem_line n ∷ []) (sym (draft_sems m.version d h.4 h.5)))
    ∙ sym (append_assoc (shown_spaces m spaces) (shown_draft m.version d) (sem_line n ∷ []))
shown-step versions p line q (step_absent m spaces d k) h =
    ap (λ (ls : Lines). shown_spaces m spaces ++ ls)
    (draft_pages m.version (with_absent d k) h.4
    ∙ ap (λ (ls : Lines). draft_line m.version d ∷ (map sem_line d.sems ++ ls)) (map_push absent_line d.absent k)
    ∙ ap (λ (ls : Lines). draft_line m.version d ∷ ls) (sym (append_assoc (map sem_line d.sems) (map absent_line d.absent) (absent_line k ∷ [])))
    ∙ ap (λ (ls : Lines). ls ++ absent_line k ∷ []) (sym (draft_pages m.version d h.4)))
    ∙ sym (append_assoc (shown_spaces m spaces) (shown_draft m.version d) (absent_line k ∷ []))
shown-step versions p line q (step_first_program m spaces d len) h =
    sym (append_assoc (shown_spaces m spaces) (shown_draft m.version d) (program_line len ∷ []))
shown-step versions p line q (step_program m spaces d len) h =
    sym (append_assoc (shown_spaces m spaces) (shown_draft m.version d) (program_line len ∷ []))
shown-step versions p line q (step_instr m spaces d len instrs i) h =
    after_instr-shown m spaces d len (instrs ++ i ∷ []) h.3
    ∙ ap (λ (ls : Lines). shown_spaces m spaces ++ (shown_draft m.version d ++ (program_line len ∷ ls))) (map_push instr_line instrs i)
    ∙ ap (λ (ls : Lines). shown_spaces m spaces ++ ls)
    (sym (append_assoc (shown_draft m.version d) (program_line len ∷ map instr_line instrs) (instr_line i ∷ [])))
    ∙ sym (append_assoc (shown_spaces m spaces) (shown_draft m.version d ++ (program_line len ∷ map instr_line instrs)) (instr_line i ∷ []))
shown-step versions p line q (step_evict m spaces evictions e) h =
    ap (λ (ls : Lines). shown_spaces m spaces ++ ls) (map_push evict_line evictions e)
    ∙ sym (append_assoc (shown_spaces m spaces) (map evict_line evictions) (evict_line e ∷ []))
shown-step versions p line q (step_first_turn m spaces evictions t) h =
    sym (append_assoc (shown_spaces m spaces) (map evict_line evictions) (turn_line t ∷ []))
shown-step versions p line q (step_turn m spaces evictions turns t) h =
    ap (λ (ls : Lines). shown_spaces m spaces ++ (map evict_line evictions ++ ls)) (map_push turn_line turns t)
    ∙ ap (λ (ls : Lines). shown_spaces m spaces ++ ls) (sym (append_assoc (map evict_line evictions) (map turn_line turns) (turn_line t ∷ [])))
    ∙ sym (append_assoc (shown_spaces m spaces) (map evict_line evictions ++ map turn_line turns) (turn_line t ∷ []))
shown-step versions p line q (step_first_close m spaces evictions) h =
    closing m spaces evictions [] (version_of-workload m spaces evictions [] h.0.slice h.1 h.2) h.2
    ∙ ap (λ (ls : Lines). (shown_spaces m spaces ++ ls) ++ close_line ∷ []) (append-nil (map evict_line evictions))
shown-step versions p line q (step_close m spaces evictions turns) h =
    closing m spaces evictions turns (version_of-workload m spaces evictions turns h.0.slice h.1 h.2) h.2
