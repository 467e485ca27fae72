-- There are shares.
use Rattle.std.proofs.Common.{◌≡◌, ℕ, zero, suc, ◌+◌, ◌≤◌, subst, arith, ◌⊎◌, inl, inr, List, length, replicate, Option, Some, None, add-one, ◌∙◌, length-set, set}
use Rattle.std.proofs.lemmas.Bool.{cases_lt, cases_order}
use Rattle.std.proofs.lemmas.List.{length-replicate}
use Rattle.std.proofs.lemmas.List.Folds.{sum_by-replicate}
use Rattle.sa_share.specs.declared.Claim.{Claim}
use Rattle.sa_share.specs.Share.{priority_at, want_at, share_at, rank_of, IsFirst, IsShare}
use Rattle.sa_share.specs.Turn.{IsBefore, GoesFirst}
use Rattle.sa_share.proofs.ShareLemmas.{want_at-past, IsShare-none, IsShare-all, IsShare-more}
use Rattle.sa_share.proofs.TurnLemmas.{IsNextSoFar, next-passes, next-chosen, next-kept}

-- it is known which of two spaces is served first
IsBefore-cases : (first : ℕ) (claims : List Claim) (shares : List ℕ) (s t : ℕ) → IsBefore first claims shares s t ⊎ (IsBefore first claims shares s t → ⊥)
IsBefore-cases first claims shares s t = elim (cases_order (priority_at claims s) (priority_at claims t)) [
  | inr (inr higher) ↦ inl (inl higher)
  | inr (inl lower) ↦ inr (λ before. grind arith)
  | inl same ↦ elim (cases_order (share_at shares s) (share_at shares t)) [
    | inr (inl less) ↦ inl (inr (same, inl less))
    | inr (inr more) ↦ inr (λ before. grind arith)
    | inl level ↦ elim (cases_lt (rank_of first claims s) (rank_of first claims t)) [
      | inl earlier ↦ inl (inr (same, inr (level, earlier)))
      | inr later ↦ inr (λ before. grind arith)
    ]
  ]
]

GoesFirst-cases : (first : ℕ) (claims : List Claim) (shares : List ℕ) (s : ℕ) (chosen : Option ℕ)
    → GoesFirst first claims shares s chosen ⊎ (GoesFirst first claims shares s chosen → ⊥)
GoesFirst-cases first claims shares s None = inl tt
GoesFirst-cases first claims shares s (Some t) = IsBefore-cases first claims shares s t

-- there is a next space, or every want is met
next-exists : (first : ℕ) (claims : List Claim) (shares : List ℕ) → IsFirst first claims → (k : ℕ) → k ≤ length claims
    → (next : Option ℕ) × IsNextSoFar k first claims shares next
next-exists first claims shares is_first zero within = (None, λ s below. absurd (omega arith))
next-exists first claims shares is_first (suc k) within =
    let so_far = next-exists first claims shares is_first k (omega arith) in
    let more : (next : Option ℕ) × IsNextSoFar (k + 1) first claims shares next = elim (cases_lt (share_at shares k) (want_at claims k)) [
      | inl wants_more ↦ elim (GoesFirst-cases first claims shares k so_far.0) [
        | inl goes ↦ (Some k, next-chosen k first claims shares so_far.0 wants_more goes so_far.1)
        | inr not ↦ (so_far.0, next-kept k first claims shares so_far.0 (omega arith) (omega arith) not so_far.1)
      ]
      | inr sated ↦ (so_far.0, next-passes k first claims shares so_far.0 sated so_far.1)
    ] in
    subst (λ n. (next : Option ℕ) × IsNextSoFar n first claims shares next) (add-one k) more

-- shares of these claims, one for each
abbrev IsSharing : ℕ → ℕ → List Claim → Type 0
IsSharing processors first claims = (shares : List ℕ) × (length shares ≡ length claims) × IsShare processors first claims shares

-- one processor more can be given, or every want is met
sharing-more : (processors first : ℕ) (claims : List Claim) (old : IsSharing processors first claims) (next : Option ℕ)
    → IsNextSoFar (length claims) first claims old.0 next → IsSharing (processors + 1) first claims
sharing-more processors first claims old None none = (old.0, old.1, IsShare-all processors (processors + 1) first claims old.0 (omega arith) old.2 met) where
  met : (s : ℕ) → want_at claims s ≤ share_at old.0 s
  met s = elim (cases_lt s (length claims)) [ inl below ↦ none s below | inr past ↦ let e = want_at-past claims s past in omega arith ]
sharing-more processors first claims old (Some s) next = (
  set old.0 s (share_at old.0 s + 1),
  length-set old.0 s (share_at old.0 s + 1) ∙ old.1,
  IsShare-more processors first claims old.0 s (omega arith) old.2 next,
)

-- there are shares, one for each claim
pub sharing-exists : (processors first : ℕ) (claims : List Claim) → IsFirst first claims → IsSharing processors first claims
sharing-exists zero first claims is_first = (
  replicate (length claims) 0,
  length-replicate (length claims) 0,
  IsShare-none first claims (replicate (length claims) 0) (sum_by-replicate (λ (n : ℕ). n) (length claims) 0 ∙ omega arith),
)
sharing-exists (suc processors) first claims is_first =
    let old = sharing-exists processors first claims is_first in
    let next = next-exists first claims old.0 is_first (length claims) (omega arith) in
    subst (λ n. IsSharing n first claims) (add-one processors) (sharing-more processors first claims old next.0 next.1)
