-- Giving the processors one after another gives the shares.
use Rattle.std.proofs.Common.{◌≡◌, ℕ, zero, suc, ◌+◌, ◌≤◌, ◌&&◌, true, false, ltb, refl, sym, subst, ◌∙◌, arith, inl, inr, List, length, replicate, Option, Some, None, add-one, length-set}
use Rattle.std.proofs.lemmas.Bool.{cases_lt, lt-ltb, ltb-true, cond_both, and_parts, and_cases, both_ways}
use Rattle.std.proofs.lemmas.Bool.Decides.{nat_tests}
use Rattle.std.proofs.lemmas.List.Folds.{sum_by-replicate}
use Rattle.sa_base.specs.declared.limits.TheConstants.{MAX_SPACES}
use Rattle.sa_share.specs.declared.Claim.{Claim}
use Rattle.sa_share.specs.Share.{want_at, share_at, IsFirst, IsShare}
use Rattle.sa_share.specs.Turn.{IsBefore, GoesFirst}
use Rattle.sa_share.specs.Rounds.{is_before, goes_first, next_below, with_one_more, shares_of}
use Rattle.sa_share.proofs.ShareLemmas.{want_at-past, IsShare-none, IsShare-all, IsShare-more, shares_unique}
use Rattle.sa_share.proofs.TurnLemmas.{IsNextSoFar, next-passes, next-chosen, next-kept}

-- the test decides which of two spaces is served first
is_before-true : (first : ℕ) (claims : List Claim) (shares : List ℕ) (s t : ℕ) → is_before first claims shares s t ≡ true → IsBefore first claims shares s t
is_before-true first claims shares s t e = grind (arith, nat_tests)

is_before-false : (first : ℕ) (claims : List Claim) (shares : List ℕ) (s t : ℕ) → is_before first claims shares s t ≡ false → IsBefore first claims shares s t
    → ⊥
is_before-false first claims shares s t e before = grind (arith, nat_tests)

goes_first-true : (first : ℕ) (claims : List Claim) (shares : List ℕ) (s : ℕ) (chosen : Option ℕ) → goes_first first claims shares s chosen ≡ true
    → GoesFirst first claims shares s chosen
goes_first-true first claims shares s None e = tt
goes_first-true first claims shares s (Some t) e = is_before-true first claims shares s t e

goes_first-false : (first : ℕ) (claims : List Claim) (shares : List ℕ) (s : ℕ) (chosen : Option ℕ) → goes_first first claims shares s chosen ≡ false
    → GoesFirst first claims shares s chosen → ⊥
goes_first-false first claims shares s None e goes = cc
goes_first-false first claims shares s (Some t) e goes = is_before-false first claims shares s t e goes

-- the choice so far is the next space
next_below-next : (n first : ℕ) (claims : List Claim) (shares : List ℕ) → IsFirst first claims → n ≤ length claims
    → IsNextSoFar n first claims shares (next_below n first claims shares)
next_below-next zero first claims shares is_first within = λ s below. absurd (omega arith)
next_below-next (suc n) first claims shares is_first within =
    let chosen = next_below n first claims shares in
    let so_far = next_below-next n first claims shares is_first (omega arith) in
    let Next : Option ℕ → Type 0 = λ next. IsNextSoFar (n + 1) first claims shares next in
    let wants = ltb (share_at shares n) (want_at claims n) in
    let goes = goes_first first claims shares n chosen in
    subst (λ k. IsNextSoFar k first claims shares (next_below (suc n) first claims shares)) (add-one n)
    (cond_both (wants && goes) (Some n) chosen Next
    (λ both. let parts = and_parts wants goes both in
    next-chosen n first claims shares chosen (ltb-true (share_at shares n) (want_at claims n) parts.0)
    (goes_first-true first claims shares n chosen parts.1) so_far)
    (λ not_both. elim (cases_lt (share_at shares n) (want_at claims n)) [
      | inr sated ↦ next-passes n first claims shares chosen sated so_far
      | inl more ↦ elim (and_cases wants goes not_both) [
        | inl not_more ↦ absurd (both_ways wants not_more (lt-ltb (share_at shares n) (want_at claims n) more))
        | inr not ↦ next-kept n first claims shares chosen (omega arith) (omega arith) (goes_first-false first claims shares n chosen not) so_far
      ]
    ]))

-- what giving one more processor keeps
record AreShares (processors first : ℕ) (claims : List Claim) (shares : List ℕ) : Type 0 where
  given : IsShare processors first claims shares
  places : length shares ≡ MAX_SPACES

with_one_more-shares : (processors first : ℕ) (claims : List Claim) (shares : List ℕ) (next : Option ℕ) → length claims ≤ MAX_SPACES
    → AreShares processors first claims shares → IsNextSoFar (length claims) first claims shares next
    → AreShares (processors + 1) first claims (with_one_more shares next)
with_one_more-shares processors first claims shares None fits old none = record {
  given = IsShare-all processors (processors + 1) first claims shares (omega arith) old.given met;
  places = old.places;
} where
  met : (s : ℕ) → want_at claims s ≤ share_at shares s
  met s = elim (cases_lt s (length claims)) [ inl below ↦ none s below | inr past ↦ let e = want_at-past claims s past in omega arith ]
with_one_more-shares processors first claims shares (Some s) fits old next = record {
  given = IsShare-more processors first claims shares s (omega (arith, old.places)) old.given next;
  places = length-set shares s (share_at shares s + 1) ∙ old.places;
}

shares_of-shares : (processors first : ℕ) (claims : List Claim) → length claims ≤ MAX_SPACES → IsFirst first claims
    → AreShares processors first claims (shares_of processors first claims)
shares_of-shares zero first claims fits is_first = record {
  given = IsShare-none first claims (replicate MAX_SPACES 0) (sum_by-replicate (λ (n : ℕ). n) MAX_SPACES 0);
  places = refl;
}
shares_of-shares (suc processors) first claims fits is_first =
    let shares = shares_of processors first claims in
    subst (λ n. AreShares n first claims (shares_of (suc processors) first claims)) (add-one processors)
    (with_one_more-shares processors first claims shares (next_below (length claims) first claims shares) fits
    (shares_of-shares processors first claims fits is_first)
    (next_below-next (length claims) first claims shares is_first (omega arith)))

pub shares_of-share : (processors first : ℕ) (claims : List Claim) → length claims ≤ MAX_SPACES → IsFirst first claims
    → IsShare processors first claims (shares_of processors first claims)
shares_of-share processors first claims fits is_first = (shares_of-shares processors first claims fits is_first).given

pub length-shares_of : (processors first : ℕ) (claims : List Claim) → length claims ≤ MAX_SPACES → IsFirst first claims
    → length (shares_of processors first claims) ≡ MAX_SPACES
length-shares_of processors first claims fits is_first = (shares_of-shares processors first claims fits is_first).places

-- shares in 16 places are those
pub shares_of-unique : (processors first : ℕ) (claims : List Claim) (shares : List ℕ) → length claims ≤ MAX_SPACES → IsFirst first claims
    → IsShare processors first claims shares → length shares ≡ MAX_SPACES → shares ≡ shares_of processors first claims
shares_of-unique processors first claims shares fits is_first given places =
    let own = shares_of-shares processors first claims fits is_first in
    shares_unique processors first claims shares (shares_of processors first claims) given own.given (places ∙ sym own.places)
