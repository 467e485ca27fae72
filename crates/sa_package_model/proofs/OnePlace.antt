-- What is at rest or in one hand stays so where it moves.
use Rattle.std.proofs.Common.{◌≡◌, ◌≢◌, ℕ, ◌+◌, ◌≤◌, inl, inr, sym, ap, ◌∙◌, subst, arith}
use Rattle.std.proofs.lemmas.Bool.{cases_eq, cases_lt}
use Rattle.sa_lemmas.specs.Function.{put}
use Rattle.sa_lemmas.proofs.FunctionUpdates.{put-same, put-other}
use Rattle.sa_package_model.specs.Hands.{AreInOnePlace}

-- between one hand and rest
module _ (rest after : ℕ → ℕ) (hands others : ℕ → ℕ → ℕ) (a : ℕ) (h : AreInOnePlace rest hands)
    (sums : (t : ℕ) → after t + others a t ≡ rest t + hands a t) (same : (b t : ℕ) → b ≢ a → others b t ≡ hands b t) where
  none_here : (b t : ℕ) → b ≢ a → 1 ≤ hands b t → hands a t ≡ 0
  none_here b t ne some = elim (cases_lt (hands a t) 1) [ inl less ↦ omega arith | inr more ↦ absurd (ne (h.apart b a t some more)) ]

  once_other : (b t : ℕ) → b ≢ a → after t + others b t ≤ 1
  once_other b t ne = elim (cases_lt (hands b t) 1) [
    | inl less ↦ omega (arith, sums t, h.once a t, same b t ne)
    | inr more ↦ omega (arith, sums t, none_here b t ne more, h.once b t, same b t ne)
  ]

  not_both : (b t : ℕ) → b ≢ a → 1 ≤ others b t → 1 ≤ others a t → ⊥
  not_both b t ne there here =
      let some : 1 ≤ hands b t = omega (arith, same b t ne) in
      let none = none_here b t ne some in absurd (omega (arith, sums t, none, h.once b t))

  pub moves : AreInOnePlace after others
  moves = record {
    once = λ b t. elim (cases_eq b a) [
      | inl e ↦ subst (λ x. after t + others x t ≤ 1) (sym e) (omega (arith, sums t, h.once a t))
      | inr ne ↦ once_other b t ne
    ];
    apart = λ b c t there here. elim (cases_eq b a) [
      | inl e ↦ elim (cases_eq c a) [
        | inl f ↦ e ∙ sym f
        | inr nf ↦ absurd (not_both c t nf here (subst (λ x. 1 ≤ others x t) e there))
      ]
      | inr ne ↦ elim (cases_eq c a) [
        | inl f ↦ absurd (not_both b t ne there (subst (λ x. 1 ≤ others x t) f here))
        | inr nf ↦ h.apart b c t (omega (arith, same b t ne)) (omega (arith, same c t nf))
      ]
    ];
    somewhere = λ t none. elim (cases_lt (others a t) 1) [
      | inl less ↦
          let found = h.somewhere t (omega (arith, sums t)) in
          let ne : found.0 ≢ a = λ e. let here : 1 ≤ hands a t = subst (λ x. 1 ≤ hands x t) e found.1 in absurd (omega (arith, sums t)) in
          (found.0, omega (arith, same found.0 t ne, found.1))
      | inr more ↦ (a, more)
    ];
  }

-- from one hand into another
pub joins : (rest after : ℕ → ℕ) (hands others : ℕ → ℕ → ℕ) (a b : ℕ) → AreInOnePlace rest hands → b ≢ a
    → ((t : ℕ) → after t + others a t ≡ rest t + hands a t + hands b t) → ((t : ℕ) → others b t ≡ 0)
    → ((c t : ℕ) → c ≢ a → c ≢ b → others c t ≡ hands c t) → AreInOnePlace after others
joins rest after hands others a b h ne sums none same =
    let empty : ℕ → ℕ = λ t. 0 in
    let between : ℕ → ℕ → ℕ = put hands b empty in
    let at_b : (t : ℕ) → between b t ≡ 0 = λ t. ap (λ (f : ℕ → ℕ). f t) (put-same hands b empty) in
    let apart : (c t : ℕ) → c ≢ b → between c t ≡ hands c t = λ c t other. ap (λ (f : ℕ → ℕ). f t) (put-other hands b c empty other) in
    let first = moves rest (λ t. rest t + hands b t) hands between b h (λ t. omega (arith, at_b t)) apart in
    moves (λ t. rest t + hands b t) after between others a first
    (λ t. omega (arith, sums t, apart a t (λ e. ne (sym e))))
    (λ c t other. elim (cases_eq c b) [
      | inl e ↦ subst (λ x. others x t ≡ between x t) (sym e) (none t ∙ sym (at_b t))
      | inr nb ↦ same c t other nb ∙ sym (apart c t nb)
    ])
