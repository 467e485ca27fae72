-- Giving the processors in rounds gives the shares.
use Rattle.std.proofs.Common.{◌≡◌, ◌≢◌, ℕ, ◌+◌, ◌<◌, ◌≤◌, sym, subst, ap, ◌∙◌, arith, inl, inr, List, [], length, set, sum, Option, get_or-set_same, get_or-set_other, below_more}
use Rattle.std.specs.Prelude.{MatchOption}
use Rattle.std.proofs.lemmas.Bool.{cases_eq, cases_lt}
use Rattle.std.proofs.lemmas.List.Sums.{sum_by-set}
use Rattle.sa_share.specs.declared.Claim.{Claim}
use Rattle.sa_share.specs.Share.{priority_at, want_at, share_at, rank_of, IsShare, WantsMore}
use Rattle.sa_share.specs.Turn.{IsNext}
use Rattle.sa_share.specs.Serving.{AreMet, IsLevel, IsHighest}
use Rattle.sa_share.proofs.ShareLemmas.{IsLe, sum-le, sum-same, wants, get_or-wants, sum-wants, WantsMore-within, IsShare-more}
use Rattle.sa_share.proofs.TurnLemmas.{rank_of-same}

-- whole wants that the processors suffice for are the shares
pub whole-share : (processors first : ℕ) (claims : List Claim) (shares : List ℕ) → AreMet claims shares → sum shares ≤ processors
    → IsShare processors first claims shares
whole-share processors first claims shares met few =
    let same : (s : ℕ) → share_at shares s ≡ share_at (wants claims) s = λ s. met s ∙ sym (get_or-wants claims s) in
    let above = sum-le shares (wants claims) (λ s. let e = same s in omega arith) in
    let below = sum-le (wants claims) shares (λ s. let e = same s in omega arith) in
    record {
      within = λ s. let e = met s in omega arith;
      total = omega (arith, sum-wants claims);
      higher = λ s t lower some. met t;
      level = λ s t same less. let e = met s in absurd (omega arith);
      earlier = λ s t same less behind. let e = met s in absurd (omega arith);
    }

-- a round in which the spaces of rank below k have had their turn: those of the priority that wanted more have one more
-- than at its start, and all others have what they had
pub record IsServing (priority k first : ℕ) (claims : List Claim) (start now : List ℕ) : Type 0 where
  pub due : (s : ℕ) → s < length claims → rank_of first claims s < k → priority_at claims s ≡ priority → WantsMore claims start s
      → share_at now s ≡ share_at start s + 1
  pub later : (s : ℕ) → k ≤ rank_of first claims s → share_at now s ≡ share_at start s
  pub apart : (s : ℕ) → priority_at claims s ≢ priority → share_at now s ≡ share_at start s
  pub sated : (s : ℕ) → want_at claims s ≤ share_at start s → share_at now s ≡ share_at start s

-- who wants more has wanted more at the start
wanted : (priority k first : ℕ) (claims : List Claim) (start now : List ℕ) (s : ℕ) → IsServing priority k first claims start now
    → WantsMore claims now s → WantsMore claims start s
wanted priority k first claims start now s serving more = elim (cases_lt (share_at start s) (want_at claims s)) [
  | inl was ↦ was
  | inr met ↦ let e = serving.sated s met in absurd (omega arith)
]

-- the space of rank k is next, where it is of the priority and wants more
serving-next : (priority k first : ℕ) (claims : List Claim) (start now : List ℕ) (s : ℕ) → first < length claims → s < length claims
    → rank_of first claims s ≡ k → priority_at claims s ≡ priority → WantsMore claims now s
    → IsLevel claims start → IsHighest claims start priority → IsServing priority k first claims start now
    → IsNext (length claims) first claims now s
serving-next priority k first claims start now s first_in s_in here own more level highest serving = record {
  within = s_in;
  wants = more;
  before = λ t below other wants.
      let was = wanted priority k first claims start now t serving wants in
      let most = highest.most t was in
      elim (cases_eq (priority_at claims t) priority) [
        | inr lower ↦ inl (omega arith)
        | inl same ↦
            let even = level s t (own ∙ sym same) (wanted priority k first claims start now s serving more) was in
            let mine = serving.later s (omega arith) in
            elim (cases_lt (rank_of first claims t) k) [
              | inl early ↦ let e = serving.due t below early same was in inr (own ∙ sym same, inl (omega arith))
              | inr late ↦
                  let e = serving.later t late in
                  let ne : rank_of first claims t ≢ rank_of first claims s = λ same. other (rank_of-same first claims t s first_in below s_in same) in
                  inr (own ∙ sym same, inr (omega arith, omega arith))
            ]
      ];
}

-- it gets one more
pub served : (priority k first : ℕ) (claims : List Claim) (start now : List ℕ) (s : ℕ) → s < length now → first < length claims → s < length claims
    → rank_of first claims s ≡ k → priority_at claims s ≡ priority → WantsMore claims now s → IsServing priority k first claims start now
    → IsServing priority (k + 1) first claims start (set now s (share_at now s + 1))
served priority k first claims start now s room first_in s_in here own more serving = record {
  due = λ t below early same wants. elim (cases_eq t s) [
    | inl e ↦ subst (λ u. share_at new u ≡ share_at start u + 1) (sym e) (let mine = serving.later s (omega arith) in omega (arith, mine_new))
    | inr other ↦
        let ne : rank_of first claims t ≢ rank_of first claims s = λ same. other (rank_of-same first claims t s first_in below s_in same) in
        stays t other ∙ serving.due t below (omega arith) same wants
  ];
  later = λ t late. elim (cases_eq t s) [
    | inl e ↦ let same = ap (λ u. rank_of first claims u) e in absurd (omega arith)
    | inr other ↦ stays t other ∙ serving.later t (omega arith)
  ];
  apart = λ t lower. elim (cases_eq t s) [
    | inl e ↦ absurd (lower (ap (λ u. priority_at claims u) e ∙ own))
    | inr other ↦ stays t other ∙ serving.apart t lower
  ];
  sated = λ t met. elim (cases_eq t s) [
    | inl e ↦
        let at_s : want_at claims s ≤ share_at start s = subst (λ u. want_at claims u ≤ share_at start u) e met in
        let mine = serving.later s (omega arith) in absurd (omega arith)
    | inr other ↦ stays t other ∙ serving.sated t met
  ];
} where
  new : List ℕ
  new = set now s (share_at now s + 1)

  mine_new : share_at new s ≡ share_at now s + 1
  mine_new = get_or-set_same now s (share_at now s + 1) 0 room

  stays : (t : ℕ) → t ≢ s → share_at new t ≡ share_at now t
  stays t other = get_or-set_other now s t (share_at now s + 1) 0 other

-- the space of rank k is not of the priority, or has what it wants
pub passed : (priority k first : ℕ) (claims : List Claim) (start now : List ℕ) (s : ℕ) → first < length claims → s < length claims
    → rank_of first claims s ≡ k → (priority_at claims s ≡ priority → want_at claims s ≤ share_at now s) → IsServing priority k first claims start now
    → IsServing priority (k + 1) first claims start now
passed priority k first claims start now s first_in s_in here met serving = record {
  due = λ t below early same wants. elim (cases_lt (rank_of first claims t) k) [
    | inl before ↦ serving.due t below before same wants
    | inr late ↦
        let e : t ≡ s = rank_of-same first claims t s first_in below s_in (omega arith) in
        let full : want_at claims t ≤ share_at now t =
        subst (λ u. priority_at claims u ≡ priority → want_at claims u ≤ share_at now u) (sym e) met same in
        let kept = serving.later t late in absurd (omega arith)
  ];
  later = λ t late. serving.later t (omega arith);
  apart = serving.apart;
  sated = serving.sated;
}

-- after the whole round, spaces of one priority that want more have equal shares again
rank_of-below : (first : ℕ) (claims : List Claim) (s : ℕ) → s < length claims → rank_of first claims s < length claims
rank_of-below first claims s s_in = omega arith

pub round-level : (priority k first : ℕ) (claims : List Claim) (start now : List ℕ) → length claims ≤ k → IsLevel claims start
    → IsServing priority k first claims start now → IsLevel claims now
round-level priority k first claims start now all level serving s t same more_s more_t =
    let was_s = wanted priority k first claims start now s serving more_s in
    let was_t = wanted priority k first claims start now t serving more_t in
    let s_in = WantsMore-within claims start s was_s in
    let t_in = WantsMore-within claims start t was_t in
    let rank_s = rank_of-below first claims s s_in in
    let rank_t = rank_of-below first claims t t_in in
    let even = level s t same was_s was_t in
    elim (cases_eq (priority_at claims s) priority) [
      | inl own ↦
          let e = serving.due s s_in (omega arith) own was_s in
          let f = serving.due t t_in (omega arith) (sym same ∙ own) was_t in
          omega arith
      | inr other ↦
          let e = serving.apart s other in
          let f = serving.apart t (λ own. other (same ∙ own)) in
          omega arith
    ]

-- and some processor was given
pub round-some : (priority k first : ℕ) (claims : List Claim) (start now : List ℕ) → length claims ≤ k → IsHighest claims start priority
    → IsServing priority k first claims start now → sum start < sum now
round-some priority k first claims start now all highest serving =
    let s = highest.some.0 in
    let rank = rank_of-below first claims s highest.some.1 in
    let more = serving.due s highest.some.1 (omega arith) highest.some.2 highest.some.3 in
    let le = sum-le start now never_less in
    let ne : sum start ≢ sum now = λ same. (let e = sum-same start now never_less same s in omega arith) in
    omega arith
  where
    never_less : IsLe start now
    never_less t = elim (cases_lt (share_at start t) (want_at claims t)) [
      | inr met ↦ let e = serving.sated t met in omega arith
      | inl more ↦ elim (cases_eq (priority_at claims t) priority) [
        | inr other ↦ let e = serving.apart t other in omega arith
        | inl same ↦
            let t_in = WantsMore-within claims start t more in
            let rank = rank_of-below first claims t t_in in
            let e = serving.due t t_in (omega arith) same more in omega arith
      ]
    ]

-- one processor more, for the space of rank k
pub given-one : (priority k first : ℕ) (claims : List Claim) (start now : List ℕ) (s : ℕ) → length claims ≤ length now → first < length claims
    → s < length claims → rank_of first claims s ≡ k → priority_at claims s ≡ priority → WantsMore claims now s
    → IsLevel claims start → IsHighest claims start priority → IsServing priority k first claims start now → IsShare (sum now) first claims now
    → let new = set now s (share_at now s + 1) in
    (sum new ≡ sum now + 1) × IsShare (sum new) first claims new
given-one priority k first claims start now s room first_in s_in here own more level highest serving shares =
    let next = serving-next priority k first claims start now s first_in s_in here own more level highest serving in
    let added = sum_by-set (λ (n : ℕ). n) now s (share_at now s + 1) 0 (omega arith) in
    let one : sum (set now s (share_at now s + 1)) ≡ sum now + 1 = omega arith in (
      one,
      subst (λ n. IsShare n first claims (set now s (share_at now s + 1))) (sym one)
          (IsShare-more (sum now) first claims now s room shares next),
    )

-- of the spaces below k, this is the highest priority of those that want more, or none of them does
pub record IsHighestBelow (k : ℕ) (claims : List Claim) (shares : List ℕ) (priority : ℕ) : Type 0 where
  pub some : (s : ℕ) × (s < k) × (priority_at claims s ≡ priority) × WantsMore claims shares s
  pub most : (s : ℕ) → s < k → WantsMore claims shares s → priority_at claims s ≤ priority

abbrev pub IsHighestSoFar : ℕ → List Claim → List ℕ → Option ℕ → Type 0
IsHighestSoFar k claims shares highest = MatchOption highest ((s : ℕ) → s < k → want_at claims s ≤ share_at shares s) (IsHighestBelow k claims shares)

-- nothing was given yet
pub level-none : (claims : List Claim) (shares : List ℕ) → sum shares ≡ 0 → IsLevel claims shares
level-none claims shares empty s t same more_s more_t = sym (none s) ∙ none t where
  none : (s : ℕ) → 0 ≡ share_at shares s
  none s = sum-same [] shares (λ t. omega arith) (sym empty) s

-- the space k gets its whole want, and those before it have theirs
pub record AreMetBelow (k : ℕ) (claims : List Claim) (wants : List ℕ) : Type 0 where
  pub met : (s : ℕ) → s < k → share_at wants s ≡ want_at claims s
  pub none : (s : ℕ) → k ≤ s → share_at wants s ≡ 0

pub met-more : (k : ℕ) (claims : List Claim) (wants : List ℕ) → k < length wants → AreMetBelow k claims wants
    → let new = set wants k (want_at claims k) in
    (sum new ≡ sum wants + want_at claims k) × AreMetBelow (k + 1) claims new
met-more k claims wants room below =
    let want = want_at claims k in
    let added = sum_by-set (λ (n : ℕ). n) wants k want 0 room in
    let was = below.none k (omega arith) in (
      omega arith,
      record {
        met = below_more _ _ (λ s before. let ne : s ≢ k = omega arith in get_or-set_other wants k s want 0 ne ∙ below.met s before)
            (get_or-set_same wants k want 0 room);
        none = λ s after. let ne : s ≢ k = omega arith in get_or-set_other wants k s want 0 ne ∙ below.none s (omega arith);
      },
    )
