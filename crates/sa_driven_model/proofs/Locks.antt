-- The locks of all contexts together, where one context changes or is taken over by another.
use Rattle.std.proofs.Common.{◌≡◌, ◌≢◌, ℕ, ◌+◌, ◌≤◌, List, [], ◌∷◌, ◌⊎◌, Option, None, refl, ap, ◌∙◌, subst, inl, inr, arith}
use Rattle.std.specs.Prelude.{sum_by}
use Rattle.std.proofs.lemmas.Bool.{cases_eq}
use Rattle.std.proofs.lemmas.List.Sums.{sum_by-cons}
use Rattle.sa_abstract.specs.Calls.{Contexts}
use Rattle.sa_lemmas.specs.Function.{put}
use Rattle.sa_lemmas.proofs.FunctionUpdates.{put-same, put-other}
use Rattle.sa_driven_model.specs.declared.context.DrivenContext.{DrivenContext}
use Rattle.sa_driven_model.specs.Stands.{locks_of, IsOther, AreOthers, AreFewLocks}

-- of these activations together
abbrev sum_of : Contexts DrivenContext → List ℕ → ℕ
sum_of cs acts = sum_by (λ a. locks_of (cs a)) acts

sum-cons : (cs : Contexts DrivenContext) (a : ℕ) (acts : List ℕ) → sum_of cs (a ∷ acts) ≡ locks_of (cs a) + sum_of cs acts
sum-cons cs a acts = sum_by-cons (λ b. locks_of (cs b)) a acts

pub few_more : (n m : ℕ) (cs : Contexts DrivenContext) → AreFewLocks n cs → n ≤ m → AreFewLocks m cs
few_more n m cs few more acts apart = omega (arith, few acts apart)

module _ (cs : Contexts DrivenContext) (a : ℕ) (new : Option DrivenContext) where
  -- others have what they had
  sum-other : (acts : List ℕ) → IsOther a acts → sum_of (put cs a new) acts ≡ sum_of cs acts
  sum-other [] apart = refl
  sum-other (b ∷ bs) apart =
      let same : locks_of (put cs a new b) ≡ locks_of (cs b) = ap locks_of (put-other cs a b new apart.0) in
      omega (arith, same, sum-other bs apart.1, sum-cons (put cs a new) b bs, sum-cons cs b bs)

  -- one context has so many more
  sum-more : (more : ℕ) → locks_of new ≤ locks_of (cs a) + more → (acts : List ℕ) → AreOthers acts → sum_of (put cs a new) acts ≤ sum_of cs acts + more
  sum-more more grows [] apart = let none : sum_of (put cs a new) [] ≡ 0 = refl in omega arith
  sum-more more grows (b ∷ bs) apart = elim (cases_eq b a) [
    | inl e ↦
        let here : locks_of (put cs a new b) ≡ locks_of new = ap (λ x. locks_of (put cs a new x)) e ∙ ap locks_of (put-same cs a new) in
        let was : locks_of (cs b) ≡ locks_of (cs a) = ap (λ x. locks_of (cs x)) e in
        let rest = sum-other bs (subst (λ x. IsOther x bs) e apart.0) in
        omega (arith, here, was, rest, grows, sum-cons (put cs a new) b bs, sum-cons cs b bs)
    | inr ne ↦
        let same : locks_of (put cs a new b) ≡ locks_of (cs b) = ap locks_of (put-other cs a b new ne) in
        omega (arith, same, sum-more more grows bs apart.1, sum-cons (put cs a new) b bs, sum-cons cs b bs)
  ]

  -- one of these activations is this one, or none is
  sum-less : locks_of new ≡ 0 → (acts : List ℕ) → AreOthers acts → IsOther a acts ⊎ (sum_of (put cs a new) acts + locks_of (cs a) ≡ sum_of cs acts)
  sum-less none [] apart = inl tt
  sum-less none (b ∷ bs) apart = elim (cases_eq b a) [
    | inl e ↦
        let here : locks_of (put cs a new b) ≡ 0 = ap (λ x. locks_of (put cs a new x)) e ∙ ap locks_of (put-same cs a new) ∙ none in
        let was : locks_of (cs b) ≡ locks_of (cs a) = ap (λ x. locks_of (cs x)) e in
        let rest = sum-other bs (subst (λ x. IsOther x bs) e apart.0) in
        inr (omega (arith, here, was, rest, sum-cons (put cs a new) b bs, sum-cons cs b bs))
    | inr ne ↦
        let same : locks_of (put cs a new b) ≡ locks_of (cs b) = ap locks_of (put-other cs a b new ne) in
        elim (sum-less none bs apart.1) [
          | inl o ↦ inl (ne, o)
          | inr e ↦ inr (omega (arith, same, e, sum-cons (put cs a new) b bs, sum-cons cs b bs))
        ]
  ]

-- ONE CONTEXT has so many more
pub few-put : (n more : ℕ) (cs : Contexts DrivenContext) (a : ℕ) (new : Option DrivenContext) → AreFewLocks n cs → locks_of new ≤ locks_of (cs a) + more
    → AreFewLocks (n + more) (put cs a new)
few-put n more cs a new few grows acts apart = omega (arith, sum-more cs a new more grows acts apart, few acts apart)

-- ONE CONTEXT gets those of another
pub few-joined : (n : ℕ) (cs : Contexts DrivenContext) (a b : ℕ) (new : Option DrivenContext) → AreFewLocks n cs → b ≢ a
    → locks_of new ≤ locks_of (cs a) + locks_of (cs b) → AreFewLocks n (put (put cs a new) b None)
few-joined n cs a b new few ne grows acts apart =
    let one : Contexts DrivenContext = put cs a new in
    let same : locks_of (one b) ≡ locks_of (cs b) = ap locks_of (put-other cs a b new ne) in
    elim (sum-less one b None refl acts apart) [
      | inl other ↦
          let with_b = b ∷ acts in
          let all = few with_b (other, apart) in
          let grown = sum-more cs a new (locks_of (cs b)) grows acts apart in
          omega (arith, all, grown, sum-other one b None acts other, sum-cons cs b acts)
      | inr less ↦ omega (arith, less, same, sum-more cs a new (locks_of (cs b)) grows acts apart, few acts apart)
    ]
