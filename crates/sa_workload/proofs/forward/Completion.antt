-- The lines of each reached position begin a text: it goes on with what is missing, as short as can be.
use Rattle.std.proofs.Common.{◌≡◌, ℕ, zero, suc, ◌+◌, ◌*◌, ◌-◌, ◌<◌, ◌≤◌, ◌==◌, if◌then◌else◌, Bool, true, false, List, [], ◌∷◌, ◌++◌, length, None, Ok, codes, refl, sym, ap, subst, ◌∙◌, arith, append_assoc, append-nil}
use Rattle.std.specs.Option.{is_some}
use Rattle.std.proofs.lemmas.Bool.{cond_both}
use Rattle.std.proofs.lemmas.List.{length_push}
use Rattle.sa_base.specs.declared.limits.TheConstants.{MAX_PROCESSORS, MAX_SPACES}
use Rattle.sa_instr.specs.declared.limits.TheConstants.{MAX_FETCH, MAX_INSTRUCTIONS, MAX_PATIENCE, MAX_SLICE, MAX_START}
use Rattle.sa_instr.specs.declared.instr.Instr.{Instr}
use Rattle.sa_instr.specs.declared.instr.Instr.TheVariants.{Compute, End}
use Rattle.sa_instr.specs.Operation.{operation_of}
use Rattle.sa_spaces.specs.Space.{SpaceView}
use Rattle.sa_workload.specs.Text.{workload_lines}
use Rattle.sa_workload.specs.Bad.{Begins, within}
use Rattle.sa_workload.specs.Fields.{index_of, order_cause}
use Rattle.sa_workload.specs.Position.{HeaderView, Draft, Position, AtVersion, AtProcessors, AtFetch, AtSlice, AtSpaces, AtSpace, AtSem, AtAbsent, AtProgram, AtInstr, AtEvict, AtTurn, Closed, shown, IsReached}
use Rattle.sa_workload.specs.Steps.{expected, workload, space_of_draft, with_sem, with_program, after_fetch, after_sem, after_spaces, after_program, after_instr}
use Rattle.sa_workload.specs.Next.{fields_of, is_full, last_numbers, draft_from, is_last_impatient, step, next}
use Rattle.sa_workload.proofs.fields.FieldLemmas.{AllPass, passes-within}
use Rattle.sa_workload.proofs.forward.ShownStep.{shown-step}
use Rattle.sa_workload.proofs.forward.Sound.{GoesTo, took, sound}
use Rattle.sa_workload.proofs.forward.Complete.{take-line, space_pass}

-- lines that begin a text, begin it with fewer of them
pub begins_front : (versions : ℕ) (xs ys : List (List (List ℕ))) → Begins versions (xs ++ ys) → Begins versions xs
begins_front versions xs ys b = record { workload = b.workload; accepted = b.accepted; more = ys ++ b.more; text = b.text ∙ append_assoc xs ys b.more }

-- how many lines are missing at most, where each is as good as any
abbrev left_spaces : HeaderView → ℕ → ℕ
left_spaces m spaces = 3 * (m.count - spaces) + 1

abbrev left_programs : HeaderView → List SpaceView → Draft → ℕ → ℕ
left_programs m spaces d programs = 2 * (d.program_count - programs) + left_spaces m (length spaces + 1)

abbrev pub left : Position → ℕ
left AtVersion = 9
left (AtProcessors v) = 8
left (AtFetch v n) = 7
left (AtSlice v n f) = 6
left (AtSpaces v n f s) = 5
left (AtSpace m spaces) = left_spaces m (length spaces)
left (AtSem m spaces d) = d.sem_count - length d.sems + left_programs m spaces d (length d.programs)
left (AtAbsent m spaces d) = left_programs m spaces d (length d.programs)
left (AtProgram m spaces d) = left_programs m spaces d (length d.programs)
left (AtInstr m spaces d len instrs) = len - length instrs + left_programs m spaces d (length d.programs + 1)
left (Closed w) = 0
left _ = 1

left-after_sem : (m : HeaderView) (spaces : List SpaceView) (d : Draft)
    → left (after_sem m spaces d) ≤ d.sem_count - length d.sems + left_programs m spaces d (length d.programs)
left-after_sem m spaces d =
    cond_both (length d.sems == d.sem_count) (AtAbsent m spaces d) (AtSem m spaces d)
    (λ (q : Position). left q ≤ d.sem_count - length d.sems + left_programs m spaces d (length d.programs)) (λ _. omega arith) (λ _. omega arith)

left-after_instr : (m : HeaderView) (spaces : List SpaceView) (d : Draft) (len : ℕ) (instrs : List Instr)
    → left (after_instr m spaces d len instrs) ≤ len - length instrs + left_programs m spaces d (length d.programs + 1)
left-after_instr m spaces d len instrs =
    cond_both (length instrs == len) (after_program m spaces done) (AtInstr m spaces d len instrs) Few
    (λ _. cond_both (length done.programs == done.program_count) (after_spaces m more) (AtProgram m spaces done) Few
    (λ _. cond_both (length more == m.count) (AtEvict m more []) (AtSpace m more) Few (λ _. omega arith)
    (λ _. omega (arith, length_push spaces (space_of_draft done))))
    (λ _. omega (arith, length_push d.programs instrs))) (λ _. omega arith)
  where
    done : Draft
    done = with_program d instrs

    more : List SpaceView
    more = spaces ++ space_of_draft done ∷ []

    Few : Position → Type 0
    Few q = left q ≤ len - length instrs + left_programs m spaces d (length d.programs + 1)

-- a line that leads on, nearer to the end
pub record Nearer (versions : ℕ) (p : Position) : Type 0 where
  pub word : List ℕ
  pub others : List (List ℕ)
  pub to : Position
  pub leads : next versions p (word ∷ others) ≡ Ok to
  pub less : left to < left p

-- a line of right numbers leads nearer to the end
by_line : (versions : ℕ) (p : Position) (word ns : List ℕ) (q : Position) → is_some (index_of word (expected p)) ≡ true → is_full p word ≡ false
    → AllPass (fields_of versions p word) ns → order_cause (last_numbers p word) ns ≡ None → step p word ns ≡ Ok q → left q < left p → Nearer versions p
by_line versions p word ns q known room passes order to less =
    record { word = word; others = _; to = q; leads = take-line versions p word ns q known room passes order to; less = less }

-- one more instruction: `end` is the last one
more_instr : (versions : ℕ) (m : HeaderView) (spaces : List SpaceView) (d : Draft) (len : ℕ) (instrs : List Instr) → length instrs < len → (b : Bool)
    → (length instrs + 1 == len) ≡ b → Nearer versions (AtInstr m spaces d len instrs)
unfolding operation_of
more_instr versions m spaces d len instrs room true last =
    by_line versions (AtInstr m spaces d len instrs) (codes "end") [] (after_instr m spaces d len (instrs ++ End ∷ [])) refl refl tt refl (rw last)
    (omega (arith, left-after_instr m spaces d len (instrs ++ End ∷ []), length_push instrs End))
more_instr versions m spaces d len instrs room false more =
    by_line versions (AtInstr m spaces d len instrs) (codes "compute") [] (after_instr m spaces d len (instrs ++ Compute ∷ [])) refl refl tt refl (rw more)
    (omega (arith, left-after_instr m spaces d len (instrs ++ Compute ∷ []), length_push instrs Compute))

-- the patience of a new space: in version 3 one of its own
patience : (own need : Bool) → AllPass (if own then within (if need then 2 else 1) MAX_PATIENCE ∷ [] else []) (if own then 2 ∷ [] else [])
patience true true = (passes-within 2 MAX_PATIENCE 2 (omega arith) (omega arith) (omega arith), tt)
patience true false = (passes-within 1 MAX_PATIENCE 2 (omega arith) (omega arith) (omega arith), tt)
patience false need = tt

slice : (b : Bool) → (if b then 0 else 1) ≤ 1
slice true = omega arith
slice false = omega arith

module _ (versions : ℕ) (one : 1 ≤ versions) (three : versions ≤ 3) where
  -- each reached position but the last has such a line
  pub nearer : (p : Position) → 0 < left p → IsReached versions p → Nearer versions p
  nearer AtVersion l r =
      by_line versions AtVersion (codes "workload") (1 ∷ []) (AtProcessors 1) refl refl
      (passes-within 1 versions 1 (omega arith) one (omega arith), tt) refl refl (omega arith)
  nearer (AtProcessors v) l r =
      by_line versions (AtProcessors v) (codes "processors") (1 ∷ []) (AtFetch v 1) refl refl
      (passes-within 1 MAX_PROCESSORS 1 (omega arith) (omega arith) (omega arith), tt) refl refl (omega arith)
  nearer (AtFetch v n) l r =
      by_line versions (AtFetch v n) (codes "fetch") (1 ∷ []) (after_fetch v n 1) refl refl
      (passes-within 1 MAX_FETCH 1 (omega arith) (omega arith) (omega arith), tt) refl refl
      (cond_both (v == 1) (AtSpaces v n 1 0) (AtSlice v n 1) (λ (q : Position). left q < 7) (λ _. omega arith) (λ _. omega arith))
  nearer (AtSlice v n f) l r =
      by_line versions (AtSlice v n f) (codes "slice") (1 ∷ []) (AtSpaces v n f 1) refl refl
      (passes-within (if v == 3 then 0 else 1) MAX_SLICE 1 (slice (v == 3)) (omega arith) (omega arith), tt) refl refl (omega arith)
  nearer (AtSpaces v n f s) l r =
      by_line versions (AtSpaces v n f s) (codes "spaces") (1 ∷ []) (AtSpace _ []) refl refl
      (passes-within 1 MAX_SPACES 1 (omega arith) (omega arith) (omega arith), tt) refl refl (omega arith)
  nearer (AtSpace m spaces) l r =
      let ns : List ℕ = 0 ∷ 0 ∷ 0 ∷ 0 ∷ 1 ∷ (if m.version == 3 then 2 ∷ [] else []) in
      by_line versions (AtSpace m spaces) (codes "space") ns (after_sem m spaces (draft_from m ns)) refl refl
      (space_pass _ 0 0 0 0 1 _ (omega arith) (omega arith) (omega arith) (omega arith) (omega arith) (omega arith)
      (patience (m.version == 3) (is_last_impatient m spaces)))
      refl refl (omega (arith, left-after_sem m spaces (draft_from m ns), r.2))
  nearer (AtSem m spaces d) l r =
      by_line versions (AtSem m spaces d) (codes "sem") (0 ∷ []) (after_sem m spaces (with_sem d 0)) refl refl
      (passes-within 0 MAX_START 0 (omega arith) (omega arith) (omega arith), tt) refl refl
      (omega (arith, left-after_sem m spaces (with_sem d 0), length_push d.sems 0, r.3))
  nearer (AtAbsent m spaces d) l r =
      by_line versions (AtAbsent m spaces d) (codes "program") (1 ∷ []) (AtInstr m spaces d 1 []) refl refl
      (passes-within 1 MAX_INSTRUCTIONS 1 (omega arith) (omega arith) (omega arith), tt) refl refl
      (omega (arith, ap length r.4, r.2.program_count.0))
  nearer (AtProgram m spaces d) l r =
      by_line versions (AtProgram m spaces d) (codes "program") (1 ∷ []) (AtInstr m spaces d 1 []) refl refl
      (passes-within 1 MAX_INSTRUCTIONS 1 (omega arith) (omega arith) (omega arith), tt) refl refl
      (omega (arith, r.5))
  nearer (AtInstr m spaces d len instrs) l r = more_instr versions m spaces d len instrs r.5.room (length instrs + 1 == len) refl
  nearer (AtEvict m spaces es) l r =
      by_line versions (AtEvict m spaces es) (codes "close") [] (Closed (workload m spaces es [])) refl refl tt refl refl (omega arith)
  nearer (AtTurn m spaces es ts) l r =
      by_line versions (AtTurn m spaces es ts) (codes "close") [] (Closed (workload m spaces es ts)) refl refl tt refl refl (omega arith)
  nearer (Closed w) l r = absurd (omega arith)

  -- by how many lines are missing
  by_left : (n : ℕ) (p : Position) → left p ≤ n → IsReached versions p → Begins versions (shown p)
  by_left n (Closed w) l r = record { workload = w; accepted = record { workload = r.0; version = r.1 }; more = []; text = sym (append-nil (workload_lines w)) }
  by_left zero p l r = absurd (omega arith)
  by_left (suc n) p l r =
      let x : Nearer versions p = nearer p (omega arith) r in
      let goes : GoesTo versions p (x.word ∷ x.others) x.to = sound versions three p x.word x.others x.to r (took versions p x.word x.others x.to x.leads) in
      begins_front versions (shown p) ((x.word ∷ x.others) ∷ [])
      (subst (Begins versions) (shown-step versions p (x.word ∷ x.others) x.to goes.step r) (by_left n x.to (omega (arith, x.less)) goes.reached))

  -- the lines of each reached position begin a text
  pub completes : (p : Position) → IsReached versions p → Begins versions (shown p)
  completes p r = by_left (left p) p (omega arith) r
