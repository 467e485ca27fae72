-- The turns of spaces.
use Rattle.std.proofs.Common.{◌≡◌, ◌≢◌, ℕ, ◌+◌, ◌-◌, ◌%◌, ◌<◌, ◌≤◌, sym, subst, ◌∙◌, arith, ◌⊎◌, inl, inr, List, length, Option, Some, None, below_more}
use Rattle.std.specs.Prelude.{MatchOption}
use Rattle.std.proofs.lemmas.Bool.{cases_eq, cases_lt}
use Rattle.std.proofs.Math.Nat.{mod-eq_of_lt, mod-eq-sub-mod}
use Rattle.sa_share.specs.declared.Claim.{Claim}
use Rattle.sa_share.specs.Share.{want_at, share_at, rank_of, WantsMore}
use Rattle.sa_share.specs.Turn.{IsBefore, GoesFirst, IsNext}

-- counted round from the first, a number from there on comes before one below it
rank-cases : (first n s : ℕ) → first < n → s < n → ((s < first) × ((s + n - first) % n ≡ s + n - first)) ⊎ ((first ≤ s) × ((s + n - first) % n ≡ s - first))
rank-cases first n s first_in s_in = elim (cases_lt s first) [
  | inl below ↦ inl (below, mod-eq_of_lt {n = s + n - first} {m = n} (omega arith))
  | inr above ↦
      let e : (s + n - first) % n ≡ (s + n - first - n) % n = mod-eq-sub-mod {n = s + n - first} {m = n} (omega arith) in
      let f : (s + n - first - n) % n ≡ s + n - first - n = mod-eq_of_lt {n = s + n - first - n} {m = n} (omega arith) in
      inr (above, omega arith)
]

-- two spaces have different ranks
pub rank_of-same : (first : ℕ) (claims : List Claim) (s t : ℕ) → first < length claims → s < length claims → t < length claims
    → rank_of first claims s ≡ rank_of first claims t → s ≡ t
rank_of-same first claims s t first_in s_in t_in same = elim (rank-cases first (length claims) s first_in s_in) [
  | inl low ↦ elim (rank-cases first (length claims) t first_in t_in) [ inl low_t ↦ omega arith | inr high_t ↦ omega arith ]
  | inr high ↦ elim (rank-cases first (length claims) t first_in t_in) [ inl low_t ↦ omega arith | inr high_t ↦ omega arith ]
]

IsBefore-trans : (first : ℕ) (claims : List Claim) (shares : List ℕ) (s t u : ℕ) → IsBefore first claims shares s t → IsBefore first claims shares t u
    → IsBefore first claims shares s u
IsBefore-trans first claims shares s t u st tu = grind arith

IsBefore-total : (first : ℕ) (claims : List Claim) (shares : List ℕ) (s t : ℕ) → first < length claims → s < length claims → t < length claims → s ≢ t
    → (IsBefore first claims shares s t → ⊥) → IsBefore first claims shares t s
IsBefore-total first claims shares s t first_in s_in t_in apart not =
    let different : rank_of first claims s ≢ rank_of first claims t = λ same. apart (rank_of-same first claims s t first_in s_in t_in same) in
    grind arith

-- of the spaces below k, this one is next, or none wants more
abbrev pub IsNextSoFar : ℕ → ℕ → List Claim → List ℕ → Option ℕ → Type 0
IsNextSoFar k first claims shares next = MatchOption next ((s : ℕ) → s < k → want_at claims s ≤ share_at shares s) (IsNext k first claims shares)

-- the space k is sated, and the choice stays
pub next-passes : (k first : ℕ) (claims : List Claim) (shares : List ℕ) (next : Option ℕ) → want_at claims k ≤ share_at shares k
    → IsNextSoFar k first claims shares next → IsNextSoFar (k + 1) first claims shares next
next-passes k first claims shares None sated so_far = below_more _ _ so_far sated
next-passes k first claims shares (Some s) sated so_far = record {
  within = omega arith;
  wants = so_far.wants;
  before = λ t below apart more. elim (cases_eq t k) [
    | inl same ↦ (let e : want_at claims t ≤ share_at shares t = subst (λ u. want_at claims u ≤ share_at shares u) (sym same) sated in absurd (omega arith))
    | inr other ↦ so_far.before t (omega arith) apart more
  ];
}

-- nothing was chosen so far, and the space k wants more
pub next-begins : (k first : ℕ) (claims : List Claim) (shares : List ℕ) → WantsMore claims shares k → IsNextSoFar k first claims shares None
    → IsNextSoFar (k + 1) first claims shares (Some k)
next-begins k first claims shares more so_far = record {
  within = omega arith;
  wants = more;
  before = λ t below apart wants. let e = so_far t (omega arith) in absurd (omega arith);
}

-- the space k goes before the one chosen so far
pub next-changes : (k first : ℕ) (claims : List Claim) (shares : List ℕ) (s : ℕ) → WantsMore claims shares k → IsBefore first claims shares k s
    → IsNextSoFar k first claims shares (Some s) → IsNextSoFar (k + 1) first claims shares (Some k)
next-changes k first claims shares s more earlier so_far = record {
  within = omega arith;
  wants = more;
  before = λ t below apart wants. elim (cases_eq t s) [
    | inl same ↦ subst (λ u. IsBefore first claims shares k u) (sym same) earlier
    | inr other ↦ IsBefore-trans first claims shares k s t earlier (so_far.before t (omega arith) other wants)
  ];
}

-- the space k does not go before the one chosen so far
pub next-stays : (k first : ℕ) (claims : List Claim) (shares : List ℕ) (s : ℕ) → first < length claims → k < length claims
    → (IsBefore first claims shares k s → ⊥) → IsNextSoFar k first claims shares (Some s) → IsNextSoFar (k + 1) first claims shares (Some s)
next-stays k first claims shares s first_in k_in not so_far = record {
  within = omega arith;
  wants = so_far.wants;
  before = λ t below apart wants. elim (cases_eq t k) [
    | inl same ↦
        subst (λ u. IsBefore first claims shares s u) (sym same)
        (IsBefore-total first claims shares k s first_in k_in (omega arith) (λ e. apart (same ∙ e)) not)
    | inr other ↦ so_far.before t (omega arith) apart wants
  ];
}

-- the space k wants more: it is chosen where it goes first
pub next-chosen : (k first : ℕ) (claims : List Claim) (shares : List ℕ) (next : Option ℕ) → WantsMore claims shares k → GoesFirst first claims shares k next
    → IsNextSoFar k first claims shares next → IsNextSoFar (k + 1) first claims shares (Some k)
next-chosen k first claims shares None more goes so_far = next-begins k first claims shares more so_far
next-chosen k first claims shares (Some s) more goes so_far = next-changes k first claims shares s more goes so_far

-- the choice stays where the space k does not go first
pub next-kept : (k first : ℕ) (claims : List Claim) (shares : List ℕ) (next : Option ℕ) → first < length claims → k < length claims
    → (GoesFirst first claims shares k next → ⊥) → IsNextSoFar k first claims shares next → IsNextSoFar (k + 1) first claims shares next
next-kept k first claims shares None first_in k_in not so_far = absurd (not tt)
next-kept k first claims shares (Some s) first_in k_in not so_far = next-stays k first claims shares s first_in k_in not so_far
