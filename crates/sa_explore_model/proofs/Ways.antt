-- The ways to states: each is the way to the state before it and one turn more, and they rise.
use Rattle.std.proofs.Common.{◌≡◌, ℕ, zero, suc, ◌+◌, ◌<◌, ◌≤◌, ◌⊎◌, inl, inr, Option, Some, None, List, [], ◌∷◌, ◌++◌, length, slice_get, refl, sym, ap, subst, ◌∙◌, arith, length-append}
use Rattle.std.proofs.lemmas.Bool.{cases_lt}
use Rattle.sa_lemmas.proofs.ListUpdates.{slice_get-append_left}
use Rattle.sa_lemmas.proofs.ListReads.{read-at}
use Rattle.sa_base.specs.declared.number.ProcNo.{ProcNo}
use Rattle.sa_explore_model.specs.declared.answer.State.{State}
use Rattle.sa_explore_model.specs.Order.{ComesFirst}
use Rattle.sa_explore_model.specs.Search.{way_on, way_by, way_to, AreLinked, IsBefore}
use Rattle.sa_explore_model.proofs.Orders.{Precedes, precedes-more, precedes-last, precedes-first, first-refl, same-proc}

-- a link is followed alike
way-on : (f g : ℕ → List ProcNo) (o : Option State) → ((s : State) → o ≡ Some s → f s.before ≡ g s.before) → way_on f o ≡ way_on g o
way-on f g None same = refl
way-on f g (Some s) same = ap (λ (ps : List ProcNo). ps ++ s.proc ∷ []) (same s refl)

-- more links than a state's number are not followed
way-enough : (states : List State) → AreLinked states → (n m k : ℕ) → k ≤ n → k ≤ m → way_by n states k ≡ way_by m states k
way-enough states linked zero zero zero a b = refl
way-enough states linked zero (suc m) zero a b = refl
way-enough states linked (suc n) zero zero a b = refl
way-enough states linked (suc n) (suc m) zero a b = refl
way-enough states linked zero m (suc k) a b = absurd (omega arith)
way-enough states linked (suc n) zero (suc k) a b = absurd (omega arith)
way-enough states linked (suc n) (suc m) (suc k) a b =
    way-on (λ i. way_by n states i) (λ i. way_by m states i) (slice_get states (suc k))
    (λ s is. let below : s.before < suc k = linked (suc k) s (omega arith) is in
    way-enough states linked n m s.before (omega arith) (omega arith))

-- one turn more
pub way-linked : (states : List State) (k : ℕ) (s : State) → AreLinked states → 0 < k → slice_get states k ≡ Some s
    → way_to states k ≡ way_to states s.before ++ s.proc ∷ []
way-linked states zero s linked some is = absurd (omega arith)
way-linked states (suc k) s linked some is =
    let below : s.before < suc k = linked (suc k) s some is in
    ap (way_on (λ j. way_by k states j)) is
    ∙ ap (λ (ps : List ProcNo). ps ++ s.proc ∷ []) (way-enough states linked k s.before s.before (omega arith) (omega arith))

-- states that come after do not change it
push-by : (states more : List State) → AreLinked states → (n k : ℕ) → k < length states → way_by n (states ++ more) k ≡ way_by n states k
push-by states more linked zero k within = refl
push-by states more linked (suc n) zero within = refl
push-by states more linked (suc n) (suc k) within =
    ap (way_on (λ j. way_by n (states ++ more) j)) (slice_get-append_left states more (suc k) within)
    ∙ way-on (λ i. way_by n (states ++ more) i) (λ i. way_by n states i) (slice_get states (suc k))
    (λ s is. let below : s.before < suc k = linked (suc k) s (omega arith) is in push-by states more linked n s.before (omega arith))

pub way-push : (states more : List State) (k : ℕ) → AreLinked states → k < length states → way_to (states ++ more) k ≡ way_to states k
way-push states more k linked within = push-by states more linked k k within

-- THEY RISE. The links of states rise.
abbrev pub DoRise : List State → Type 0
DoRise states = (j k : ℕ) (s t : State) → 0 < j → j < k → slice_get states j ≡ Some s → slice_get states k ≡ Some t
    → IsBefore s.before s.proc.0 t.before t.proc.0

module _ (states : List State) (linked : AreLinked states) (rise : DoRise states) where
  rise-to : (j k : ℕ) (t : State) → j < k → k < length states → slice_get states k ≡ Some t
      → ((i : ℕ) → i < t.before → Precedes (way_to states i) (way_to states t.before)) → Precedes (way_to states j) (way_to states k)
  rise-to zero k t less within at lower =
      inl (subst (λ (ps : List ProcNo). 0 < length ps) (sym (way-linked states k t linked (omega arith) at))
      (let size = length-append (way_to states t.before) (t.proc ∷ []) in omega arith))
  rise-to (suc i) k t less within at lower =
      let s = read-at states (suc i) (omega arith) in
      subst (λ (ps : List ProcNo). Precedes ps (way_to states k)) (sym (way-linked states (suc i) s.0 linked (omega arith) s.1))
      (subst (λ (ps : List ProcNo). Precedes (way_to states s.0.before ++ s.0.proc ∷ []) ps) (sym (way-linked states k t linked (omega arith) at))
      (elim (rise (suc i) k s.0 t (omega arith) less s.1 at) [
        | inl below ↦ precedes-more (way_to states s.0.before) (way_to states t.before) s.0.proc t.proc (lower s.0.before below)
        | inr one ↦ subst (λ (b : ℕ). Precedes (way_to states s.0.before ++ s.0.proc ∷ []) (way_to states b ++ t.proc ∷ [])) one.0
            (precedes-last (way_to states s.0.before) s.0.proc t.proc one.1)
      ]))

  rise-by : (n j k : ℕ) → k ≤ n → j < k → k < length states → Precedes (way_to states j) (way_to states k)
  rise-by zero j k few less within = absurd (omega arith)
  rise-by (suc n) j k few less within =
      let t = read-at states k within in
      let below : t.0.before < k = linked k t.0 (omega arith) t.1 in
      rise-to j k t.0 less within t.1 (λ i lower. rise-by n i t.0.before (omega arith) lower (omega arith))

  pub ways-rise : (j k : ℕ) → j < k → k < length states → Precedes (way_to states j) (way_to states k)
  ways-rise j k less within = rise-by k j k (omega arith) less within

  -- a lower state, or the same one
  pub ways-first : (j k : ℕ) → j ≤ k → k < length states → ComesFirst (way_to states j) (way_to states k)
  ways-first j k no_more within = go (cases_lt j k)
    where
      go : (j < k) ⊎ (k ≤ j) → ComesFirst (way_to states j) (way_to states k)
      go (inl less) = precedes-first (way_to states j) (way_to states k) (ways-rise j k less within)
      go (inr more) = let same : j ≡ k = omega arith in
          subst (λ (i : ℕ). ComesFirst (way_to states j) (way_to states i)) same (first-refl (way_to states j))

  -- turns of processors from two states
  pub turns-first : (j k : ℕ) (p q : ProcNo) → k < length states → IsBefore j p.0 k (q.0 + 1)
      → ComesFirst (way_to states j ++ p ∷ []) (way_to states k ++ q ∷ [])
  turns-first j k p q within before =
      elim before [
        | inl lower ↦ precedes-first _ _ (precedes-more (way_to states j) (way_to states k) p q (ways-rise j k lower within))
        | inr one ↦ subst (λ (i : ℕ). ComesFirst (way_to states j ++ p ∷ []) (way_to states i ++ q ∷ [])) one.0 (last one.1 (cases_lt p.0 q.0))
      ]
    where
      last : p.0 < q.0 + 1 → (p.0 < q.0) ⊎ (q.0 ≤ p.0) → ComesFirst (way_to states j ++ p ∷ []) (way_to states j ++ q ∷ [])
      last few (inl less) = precedes-first _ _ (precedes-last (way_to states j) p q less)
      last few (inr more) = let same : p.0 ≡ q.0 = omega arith in subst (λ (r : ProcNo). ComesFirst (way_to states j ++ p ∷ []) (way_to states j ++ r ∷ [])) (same-proc p q same)
          (first-refl (way_to states j ++ p ∷ []))
