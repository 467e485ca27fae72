-- What follows from shares for those who use the policy.
use Rattle.std.proofs.Common.{◌≡◌, ℕ, ◌+◌, ◌-◌, ◌%◌, ◌≤◌, ap, arith, inl, inr, List, sum, ◌∙◌}
use Rattle.std.proofs.lemmas.Bool.{cases_lt}
use Rattle.sa_share.specs.declared.Claim.{Claim}
use Rattle.sa_share.specs.Share.{total_want, rank_of, IsShare}
use Rattle.sa_share.specs.Fair.{IsSpent, IsLowered}
use Rattle.sa_share.proofs.ShareLemmas.{IsLe, wants, get_or-wants, sum-wants, sum-le, sum-same}

-- every processor is given, or every want is met
pub spent : (processors first : ℕ) (claims : List Claim) (shares : List ℕ) → IsShare processors first claims shares → IsSpent processors claims shares
spent processors first claims shares of_shares = elim (cases_lt processors (total_want claims)) [
  | inl short ↦ let e = of_shares.total in inl (omega arith)
  | inr ample ↦
      let same : sum shares ≡ sum (wants claims) = (let e = of_shares.total in omega (arith, sum-wants claims)) in
      let le : IsLe shares (wants claims) = λ s. (let e = of_shares.within s in let f = get_or-wants claims s in omega arith) in
      inr (λ s. sum-same shares (wants claims) le same s ∙ get_or-wants claims s)
]

-- claims that fall, but not below their shares, change no share
pub stays : (processors first : ℕ) (claims lower : List Claim) (shares : List ℕ) → IsShare processors first claims shares → IsLowered claims lower shares
    → IsShare processors first lower shares
stays processors first claims lower shares of_shares fell = record {
  within = fell.covered;
  total = omega (arith, of_shares.total, sum-wants claims, sum-wants lower, fewer, enough);
  higher = λ s t below some.
      let p = fell.priority s in let q = fell.priority t in
      let e = of_shares.higher s t (omega arith) some in
      let f = fell.fallen t in let g = fell.covered t in omega arith;
  level = λ s t same less.
      let p = fell.priority s in let q = fell.priority t in
      let f = fell.fallen s in of_shares.level s t (omega arith) (omega arith);
  earlier = λ s t same less behind.
      let p = fell.priority s in let q = fell.priority t in
      let f = fell.fallen s in
      let e = of_shares.earlier s t (omega arith) (omega arith) behind in
      let rank_s = rank-lowered s in let rank_t = rank-lowered t in omega arith;
} where
  fewer : sum (wants lower) ≤ sum (wants claims)
  fewer = sum-le (wants lower) (wants claims) (λ s. let e = fell.fallen s in let f = get_or-wants claims s in let g = get_or-wants lower s in omega arith)

  enough : sum shares ≤ sum (wants lower)
  enough = sum-le shares (wants lower) (λ s. let e = fell.covered s in let g = get_or-wants lower s in omega arith)

  rank-lowered : (s : ℕ) → rank_of first lower s ≡ rank_of first claims s
  rank-lowered s = ap (λ n. (s + n - first) % n) fell.spaces
