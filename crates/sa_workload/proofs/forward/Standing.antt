-- Where a reader is after lines: what it keeps, and which words it expects.
use Rattle.std.proofs.Common.{◌≡◌, ◌⊎◌, ℕ, ◌≤◌, not, Bool, true, false, List, [], ◌∷◌, ◌++◌, Contains, Result, Ok, codes, refl, sym, ap, ◌∙◌, subst, inl, inr, arith, append_assoc}
use Rattle.std.specs.Option.{is_some}
use Rattle.std.specs.List.{list_all}
use Rattle.std.proofs.lemmas.Bool.{false≢true}
use Rattle.std.proofs.lemmas.List.Elements.{All-contains}
use Rattle.std.proofs.lemmas.List.Sums.{AllPass-from_list_all}
use Rattle.sa_lemmas.proofs.Results.{same-ok}
use Rattle.sa_instr.specs.declared.operation.Operation.{Operation}
use Rattle.sa_instr.specs.declared.operation.Operation.TheVariants as Operations
use Rattle.sa_instr.specs.Operation.{form_of}
use Rattle.sa_instr.specs.Parts.{parts_of}
use Rattle.sa_spaces.specs.Workload.{WorkloadView, IsWorkload}
use Rattle.sa_workload.specs.Text.{version_of, workload_lines}
use Rattle.sa_workload.specs.Bad.{IsUpTo, Begins, MayFollow, IsRightWord, instr_words, repeated_words, first_word, last_line}
use Rattle.sa_workload.specs.Fields.{and_then, index_of}
use Rattle.sa_workload.specs.Position.{Position, AtVersion, AtInstr, Closed, IsReached, shown}
use Rattle.sa_workload.specs.Steps.{Steps, expected, step_absent, step_instr, step_evict, step_first_turn, step_turn}
use Rattle.sa_workload.specs.Next.{next}
use Rattle.sa_workload.proofs.fields.FieldLemmas.{contained, and_then-ok, known_word}
use Rattle.sa_workload.proofs.forward.ShownStep.{shown-step}
use Rattle.sa_workload.proofs.forward.Completion.{completes}
use Rattle.sa_workload.proofs.forward.Says.{Heard, heard, heard-push, Says, says-next, last_line-push}
use Rattle.sa_workload.proofs.forward.Sound.{took, GoesTo, sound}
use Rattle.sa_workload.proofs.forward.Complete.{version_is, run, run-append, run-then, complete}

-- after a line with one of the repeated words the word is expected again
abbrev Repeats : Position → List ℕ → Type 0
Repeats q word = Contains repeated_words word → is_some (index_of word (expected q)) ≡ true

not_repeated : (q : Position) (word : List ℕ) → is_some (index_of word repeated_words) ≡ false → Repeats q word
not_repeated q word h c = absurd (false≢true (sym h ∙ known_word repeated_words word c))

instr_repeats : (q : Position) (o : Operation) → Repeats q (form_of o).word
instr_repeats q Operations.End = not_repeated q (codes "end") refl
instr_repeats q o = not_repeated q (form_of o).word refl

repeats : (p : Position) (line : List (List ℕ)) (q : Position) → Steps p line q → Repeats q (first_word line)
repeats p line q (step_absent m spaces d k) = λ c. refl
repeats p line q (step_instr m spaces d len instrs i) = instr_repeats q (parts_of i).operation
repeats p line q (step_evict m spaces es e) = λ c. refl
repeats p line q (step_first_turn m spaces es t) = λ c. refl
repeats p line q (step_turn m spaces es ts t) = λ c. refl
repeats p line q _ = not_repeated q (first_word line) refl

-- a reader of that many versions is here after the lines that the position shows
pub record IsAt (versions : ℕ) (p : Position) : Type 0 where
  pub run_is : run versions AtVersion (shown p) ≡ Ok p
  pub reached : IsReached versions p
  pub says : Says (heard (shown p)) p
  pub again : Repeats p (first_word (last_line (shown p)))

pub at_first : (versions : ℕ) → IsAt versions AtVersion
at_first versions = record { run_is = refl; reached = tt; says = (refl, refl, refl, refl); again = not_repeated AtVersion [] refl }

pub at_next : (versions : ℕ) → versions ≤ 3 → (p q : Position) (line : List (List ℕ)) → IsAt versions p → next versions p line ≡ Ok q
    → IsAt versions q × (shown q ≡ shown p ++ line ∷ [])
at_next versions three p q [] a h = absurd (cc h)
at_next versions three p q (word ∷ words) a h =
    let goes : GoesTo versions p (word ∷ words) q = sound versions three p word words q a.reached (took versions p word words q h) in
    let s : shown q ≡ shown p ++ (word ∷ words) ∷ [] = shown-step versions p (word ∷ words) q goes.step a.reached in (
      record {
        run_is = ap (run versions AtVersion) s
            ∙ run-then versions AtVersion p q (shown p) ((word ∷ words) ∷ []) a.run_is (ap (λ (r : Result Position ℕ). and_then r (λ x. run versions x [])) h);
        reached = goes.reached;
        says = subst (λ (h : Heard). Says h q) (sym (ap heard s ∙ heard-push (shown p) (word ∷ words)))
            (says-next versions (heard (shown p)) p (word ∷ words) q goes.step a.reached goes.reached a.says);
        again = subst (λ (l : List (List ℕ)). Repeats q (first_word l)) (sym (ap last_line s ∙ last_line-push (shown p) (word ∷ words)))
            (repeats p (word ∷ words) q goes.step);
      },
      s,
    )

-- the number of versions is in range
pub record Setting (versions : ℕ) : Type 0 where
  pub one : 1 ≤ versions
  pub few : versions ≤ 3

pub version_of-le : (w : WorkloadView) → version_of w ≤ 3
version_of-le w = (version_is w).range.1

pub any : Setting 3
any = record { one = omega arith; few = omega arith }

pub alone : Setting 1
alone = record { one = omega arith; few = omega arith }

-- the workloads of all versions are all workloads, and those of one version are those of version 1
pub of_any : (w : WorkloadView) → IsWorkload w → IsUpTo 3 w
of_any w ok = record { workload = ok; version = version_of-le w }

pub of_first : (w : WorkloadView) → IsWorkload w → version_of w ≡ 1 → IsUpTo 1 w
of_first w ok one = record { workload = ok; version = omega (arith, one) }

pub is_first : (w : WorkloadView) → version_of w ≤ 1 → version_of w ≡ 1
is_first w low = omega (arith, (version_is w).range.0)

-- a line with which some text goes on leads on
pub begins-next : (versions : ℕ) → Setting versions → (p : Position) (line : List (List ℕ)) → IsAt versions p → Begins versions (shown p ++ line ∷ [])
    → (q : Position) × (next versions p line ≡ Ok q)
begins-next versions s p line a b =
    let k = b.accepted in
    let whole : run versions AtVersion (shown p ++ (line ∷ b.more)) ≡ Ok (Closed b.workload) =
    ap (run versions AtVersion) (sym (b.text ∙ append_assoc (shown p) (line ∷ []) b.more)) ∙ complete versions b.workload k.workload s.few k.version in
    let behind : run versions p (line ∷ b.more) ≡ Ok (Closed b.workload) =
    ap (λ (r : Result Position ℕ). and_then r (λ q. run versions q (line ∷ b.more))) (sym a.run_is)
    ∙ sym (run-append versions AtVersion (shown p) (line ∷ b.more)) ∙ whole in
    let q = and_then-ok (next versions p line) (λ q. run versions q b.more) (Closed b.workload) behind in
    (q.0, q.1)

pub begins : (versions : ℕ) → Setting versions → (p : Position) → IsAt versions p → Begins versions (shown p)
begins versions s p a = completes versions s.one s.few p a.reached

-- the lines of a workload are read to their end alone
pub whole_lines : (versions : ℕ) → Setting versions → (p : Position) (w : WorkloadView) → IsAt versions p → IsUpTo versions w → workload_lines w ≡ shown p
    → p ≡ Closed w
whole_lines versions s p w a h e =
    same-ok p (Closed w) (sym a.run_is ∙ ap (run versions AtVersion) (sym e) ∙ complete versions w h.workload s.few h.version)

pub lines-injective : (v w : WorkloadView) → IsWorkload v → IsWorkload w → workload_lines v ≡ workload_lines w → v ≡ w
lines-injective v w a b e = same (same-ok (Closed v) (Closed w)
    (sym (complete 3 v a (omega arith) (version_of-le v)) ∙ ap (run 3 AtVersion) e ∙ complete 3 w b (omega arith) (version_of-le w)))
  where
    same : Closed v ≡ Closed w → v ≡ w
    same e = cc e

-- where an instruction is expected, all are
instrs_or_none : (p : Position) → (expected p ≡ instr_words) ⊎ (list_all (λ word. not (is_some (index_of word instr_words))) (expected p) ≡ true)
instrs_or_none (AtInstr m spaces d len instrs) = inl refl
instrs_or_none _ = inr refl

instrs_together : (p : Position) (word first : List ℕ) → is_some (index_of first (expected p)) ≡ true → is_some (index_of word instr_words) ≡ true
    → is_some (index_of first instr_words) ≡ true → is_some (index_of word (expected p)) ≡ true
instrs_together p word first known h t =
    elim (instrs_or_none p) [
      | inl all ↦ subst (λ (ks : List (List ℕ)). is_some (index_of word ks) ≡ true) (sym all) h
      | inr none ↦
          let test : List ℕ → Bool = λ word. not (is_some (index_of word instr_words)) in
          absurd (cc (sym (ap not t) ∙ All-contains (λ (k : List ℕ). test k ≡ true) (expected p) first (AllPass-from_list_all test (expected p) none)
          (contained (expected p) first known)))
    ]

-- the words that may begin a line are expected
follows : (versions : ℕ) → Setting versions → (p : Position) (word : List ℕ) → IsAt versions p → MayFollow versions (shown p) word
    → is_some (index_of word (expected p)) ≡ true
follows versions s p word a f =
    let n = begins-next versions s p (word ∷ f.others) a f.begins in (took versions p word f.others n.0 n.1).known

pub expected_words : (versions : ℕ) → Setting versions → (p : Position) (word : List ℕ) → IsAt versions p → IsRightWord versions (shown p) word
    → is_some (index_of word (expected p)) ≡ true
expected_words versions s p word a (inl f) = follows versions s p word a f
expected_words versions s p word a (inr (inl i)) =
    instrs_together p word i.1.0 (follows versions s p i.1.0 a i.1.2) (known_word instr_words word i.0) (known_word instr_words i.1.0 i.1.1)
expected_words versions s p word a (inr (inr r)) =
    subst (λ (w : List ℕ). is_some (index_of w (expected p)) ≡ true) r.1 (a.again (subst (Contains repeated_words) (sym r.1) r.0))
