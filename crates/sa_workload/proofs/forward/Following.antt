-- Each word that a reader expects may begin the next line.
use Rattle.std.proofs.Common.{◌≡◌, ℕ, ◌-◌, ◌<◌, true, false, List, [], ◌∷◌, None, Ok, codes, inl, inr, refl, ap, subst, ◌∙◌, arith}
use Rattle.std.specs.Option.{is_some, option_map}
use Rattle.std.specs.List.{AllByRecursion}
use Rattle.sa_base.specs.declared.limits.TheConstants.{MAX_EVENTS}
use Rattle.sa_instr.specs.declared.limits.TheConstants.{LAST_PAGE, MAX_INSTRUCTIONS}
use Rattle.sa_spaces.specs.declared.workload.Evict.{Evict}
use Rattle.sa_spaces.specs.Space.{SpaceView}
use Rattle.sa_lemmas.proofs.Booleans.{if_either}
use Rattle.sa_workload.specs.Bad.{is_ordered, numbers_before, Begins, MayFollow, IsRightWord, instr_words, first_word, last_line}
use Rattle.sa_workload.specs.Fields.{index_of, order_cause}
use Rattle.sa_workload.specs.Position.{HeaderView, Draft, Position, AtAbsent, AtInstr, AtEvict, AtTurn, Closed, shown}
use Rattle.sa_workload.specs.Steps.{expected, workload}
use Rattle.sa_workload.specs.Next.{fields_of, is_full, last_numbers, last_of, evict_numbers, step, next}
use Rattle.sa_workload.proofs.fields.FieldLemmas.{contained, spelled_all, AllPass, passes-within, passes-declared}
use Rattle.sa_workload.proofs.forward.Fronts.{last_is}
use Rattle.sa_workload.proofs.forward.Sound.{by_word, took}
use Rattle.sa_workload.proofs.forward.Says.{ordered-Decides}
use Rattle.sa_workload.proofs.forward.Complete.{take-line}
use Rattle.sa_workload.proofs.forward.Completion.{left, Nearer, nearer}
use Rattle.sa_workload.proofs.forward.Standing.{IsAt, Setting, at_next, begins}

-- where a line of the word has to come after one of these, the last line begins with the word
again : {X : Type 0} (lines : List (List (List ℕ))) (word : List ℕ) (count : ℕ) (f : X → List ℕ) (x : X) (xs : List X)
    → numbers_before (last_line lines) word count ≡ option_map f (last_of (x ∷ xs)) → first_word (last_line lines) ≡ word
again lines word count f x xs h =
    elim (if_either (is_ordered (last_line lines) word) _ None (numbers_before (last_line lines) word count) refl) [
      | inl is ↦ ((ordered-Decides (last_line lines) word).0 is.0).1
      | inr none ↦ absurd (cc (none.1 ∙ h ∙ ap (option_map f) (last_is (x ∷ xs) x (omega arith))))
    ]

some_left : (p : Position) (word : List ℕ) → is_some (index_of word (expected p)) ≡ true → 0 < left p
some_left (Closed w) word h = absurd (cc h)
some_left _ word h = omega arith

module _ (versions : ℕ) (s : Setting versions) where
  -- the word of a line that leads on may begin the next line
  leads_on : (p q : Position) (word : List ℕ) (others : List (List ℕ)) → IsAt versions p → next versions p (word ∷ others) ≡ Ok q
      → MayFollow versions (shown p) word
  leads_on p q word others a h =
      let n = at_next versions s.few p q (word ∷ others) a h in
      record { others = others; begins = subst (Begins versions) n.1 (begins versions s q n.0) }

  numbers_lead : (p q : Position) (word ns : List ℕ) → IsAt versions p → is_some (index_of word (expected p)) ≡ true → is_full p word ≡ false
      → AllPass (fields_of versions p word) ns → order_cause (last_numbers p word) ns ≡ None → step p word ns ≡ Ok q → MayFollow versions (shown p) word
  numbers_lead p q word ns a known room passes order to =
      leads_on p q word (spelled_all (fields_of versions p word) ns) a (take-line versions p word ns q known room passes order to)

  -- where words are expected, one of them may
  some_follows : (p : Position) (word : List ℕ) → IsAt versions p → is_some (index_of word (expected p)) ≡ true
      → (other : List ℕ) × (is_some (index_of other (expected p)) ≡ true) × MayFollow versions (shown p) other
  some_follows p word a known =
      let n : Nearer versions p = nearer versions s.one s.few p (some_left p word known) a.reached in
      (n.word, (took versions p n.word n.others n.to n.leads).known, leads_on p n.to n.word n.others a n.leads)

  -- a line of the word comes before, or the first one follows
  absent_right : (m : HeaderView) (spaces : List SpaceView) (d : Draft) (pages : List ℕ) → d.absent ≡ pages → IsAt versions (AtAbsent m spaces d)
      → IsRightWord versions (shown (AtAbsent m spaces d)) (codes "absent")
  absent_right m spaces d (k ∷ ks) e a =
      inr (inr (
        (0, omega arith, refl),
        again (shown (AtAbsent m spaces d)) (codes "absent") 1 (λ page. page ∷ []) k ks
            (a.says.1 ∙ ap (λ ns. option_map (λ page. page ∷ []) (last_of ns)) e),
      ))
  absent_right m spaces d [] e a =
      inl (numbers_lead (AtAbsent m spaces d) _ (codes "absent") (0 ∷ []) a refl refl
      (passes-within 0 LAST_PAGE 0 (omega arith) (omega arith) (omega arith), tt)
      (ap (λ ns. order_cause (option_map (λ page. page ∷ []) (last_of ns)) (0 ∷ [])) e) refl)

  evict_right : (m : HeaderView) (spaces : List SpaceView) (es : List Evict) → IsAt versions (AtEvict m spaces es)
      → IsRightWord versions (shown (AtEvict m spaces es)) (codes "evict")
  evict_right m spaces (e ∷ es) a = inr (inr ((1, omega arith, refl), again (shown (AtEvict m spaces (e ∷ es))) (codes "evict") 3 evict_numbers e es a.says.3))
  evict_right m spaces [] a =
      inl (numbers_lead (AtEvict m spaces []) _ (codes "evict") (1 ∷ 0 ∷ 0 ∷ []) a refl refl (
        passes-within 1 MAX_EVENTS 1 (omega arith) (omega arith) (omega arith),
        (
          passes-declared m.count 0 (omega (arith, a.reached.0.count.0)) (omega (arith, a.reached.0.count.1)),
          (passes-within 0 LAST_PAGE 0 (omega arith) (omega arith) (omega arith), tt),
        ),
      ) refl refl)

  among : (p : Position) (word : List ℕ) → AllByRecursion (IsRightWord versions (shown p)) (expected p) → is_some (index_of word (expected p)) ≡ true
      → IsRightWord versions (shown p) word
  among p word = by_word (expected p) word (IsRightWord versions (shown p))

  -- each word that is expected is right
  pub expects : (p : Position) (word : List ℕ) → IsAt versions p → is_some (index_of word (expected p)) ≡ true → IsRightWord versions (shown p) word
  expects (AtAbsent m spaces d) word a h = among (AtAbsent m spaces d) word (
    absent_right m spaces d d.absent refl a,
    (
      inl (numbers_lead (AtAbsent m spaces d) _ (codes "program") (1 ∷ []) a refl refl
          (passes-within 1 MAX_INSTRUCTIONS 1 (omega arith) (omega arith) (omega arith), tt) refl refl),
      tt,
    ),
  ) h
  expects (AtInstr m spaces d len instrs) word a h =
      let f = some_follows (AtInstr m spaces d len instrs) word a h in inr (inl (contained instr_words word h, (f.0, contained instr_words f.0 f.1, f.2)))
  expects (AtEvict m spaces es) word a h = among (AtEvict m spaces es) word (
    evict_right m spaces es a,
    (
      inl (numbers_lead (AtEvict m spaces es) _ (codes "turn") (0 ∷ []) a refl refl
          (passes-within 0 (m.processors - 1) 0 (omega arith) (omega arith) (omega (arith, a.reached.0.processors.1)), tt) refl refl),
      (inl (leads_on (AtEvict m spaces es) (Closed (workload m spaces es [])) (codes "close") [] a refl), tt),
    ),
  ) h
  expects (AtTurn m spaces es ts) word a h = among (AtTurn m spaces es ts) word (
    inr (inr ((2, omega arith, refl), a.says.2)),
    (inl (leads_on (AtTurn m spaces es ts) (Closed (workload m spaces es ts)) (codes "close") [] a refl), tt),
  ) h
  expects (Closed w) word a h = absurd (cc h)
  expects p word a h =
      let f = some_follows p word a h in
      let first : List ℕ = first_word (expected p) in
      among p word (inl (by_word (expected p) f.0 (λ v. MayFollow versions (shown p) v → MayFollow versions (shown p) first) ((λ m. m), tt) f.1 f.2), tt) h
