-- Where a thread's place is changed, it is somewhere, once.
use Rattle.std.proofs.Common.{◌≡◌, ◌≢◌, ℕ, ◌+◌, ◌≤◌, ◌<◌, Bool, true, false, List, length, Some, refl, sym, ap, subst, inl, inr, arith}
use Rattle.std.proofs.lemmas.Bool.{cases_eq, cases_lt}
use Rattle.std.proofs.lemmas.List.{get_or_past}
use Rattle.sa_base.specs.declared.number.ThreadNo.{ThreadNo}
use Rattle.sa_sync.specs.Sync.{waits_of}
use Rattle.sa_fast.specs.declared.shared.Shared.{Shared}
use Rattle.sa_fast.specs.declared.threads.Block.{Block}
use Rattle.sa_fast.specs.declared.threads.KeptPlace.{KeptPlace}
use Rattle.sa_fast.specs.declared.threads.KeptPlace.TheVariants.{Ready, Running, Carried, Blocked}
use Rattle.sa_fast.specs.Threads.{unmade, is_done}
use Rattle.sa_fast.specs.Rest.{one_where, is_ready, is_unmade, is_carried, place_at, done_at, unmade_at, AgreesBy, not_carried}
use Rattle.sa_package_model.specs.Rules.{placed}
use Rattle.sa_package_model.proofs.PlaceFacts.{place_here, place_there, if_not}
use Rattle.sa_driven_model.specs.Stands.{ready_at, AgreesAt, handed_at, IsSomewhere}

-- the same of a thread at a place
abbrev AgreesWith : Shared → ℕ → KeptPlace → Type 0
AgreesWith x t p = AgreesBy (one_where (is_ready p)) (waits_of x.sync t) (done_at x.sync t) (unmade_at x.state.lists t) p

abbrev SumsWith : Shared → ℕ → KeptPlace → ℕ → Type 0
SumsWith x t p n = one_where (is_ready p) + n + waits_of x.sync t + done_at x.sync t + unmade_at x.state.lists t ≡ if_not (is_carried p)

-- neither in a queue, nor done, nor still to be made
abbrev pub IsFree : Shared → ℕ → Type 0
IsFree x t = waits_of x.sync t + done_at x.sync t + unmade_at x.state.lists t ≡ 0

-- a place that such a thread can have, and whether it can be made ready there
pub record IsLive (p : KeptPlace) (handed : ℕ) : Type 0 where
  pub done : is_done p ≡ false
  pub made : is_unmade p ≡ false
  pub sums : one_where (is_ready p) + handed ≡ if_not (is_carried p)

pub ready_live : IsLive Ready 0
ready_live = record { done = refl; made = refl; sums = refl }

pub running_live : IsLive Running 0
running_live = record { done = refl; made = refl; sums = refl }

pub blocked_live : IsLive Blocked 0
blocked_live = record { done = refl; made = refl; sums = refl }

pub carried_live : IsLive Carried 1
carried_live = record { done = refl; made = refl; sums = refl }

-- A THREAD is elsewhere
module _ (x : Shared) (handed after : List Bool) (n : ThreadNo) (p : KeptPlace) (inside : n.0 < length x.threads) (free : IsFree x n.0)
    (live : IsLive p (handed_at after n.0)) (others : (u : ℕ) → u ≢ n.0 → handed_at after u ≡ handed_at handed u) where
  pub agree_moved : ((u : ℕ) → AgreesAt x u) → (u : ℕ) → AgreesAt (placed x (Some n) p) u
  agree_moved all u = elim (cases_eq u n.0) [
    | inl e ↦
        let ends : one_where (is_done p) ≡ 0 = ap one_where live.done in
        let new : one_where (is_unmade p) ≡ 0 = ap one_where live.made in
        subst (AgreesAt (placed x (Some n) p)) (sym e) (subst (AgreesWith x n.0) (sym (place_here x n p inside))
        (record { ready = refl; waiting = omega (arith, free); ends = omega (arith, free, ends); new = omega (arith, free, new) }))
    | inr ne ↦ subst (AgreesWith x u) (sym (place_there x n p inside u ne)) (all u)
  ]

  pub sums_moved : ((u : ℕ) → IsSomewhere x handed u) → (u : ℕ) → IsSomewhere (placed x (Some n) p) after u
  sums_moved all u = elim (cases_eq u n.0) [
    | inl e ↦
        subst (IsSomewhere (placed x (Some n) p) after) (sym e) (subst (λ q. SumsWith x n.0 q (handed_at after n.0)) (sym (place_here x n p inside))
        (omega (arith, free, live.sums)))
    | inr ne ↦ subst (λ q. SumsWith x u q (handed_at after u)) (sym (place_there x n p inside u ne))
        (let same = others u ne in let was = all u in omega (arith, same, was))
  ]

-- WHAT FOLLOWS FOR A THREAD from its place
module _ (x : Shared) (handed : List Bool) (t : ℕ) (sums : IsSomewhere x handed t) where
  not_small : not_carried x t ≤ 1
  not_small = elim (is_carried (place_at x t)) as (λ b. if_not b ≤ 1) [ true ↦ omega arith | false ↦ omega arith ]

  pub at_most : handed_at handed t + waits_of x.sync t + done_at x.sync t + unmade_at x.state.lists t ≤ 1
  at_most = let small = not_small in omega (arith, sums, small)

  pub ready_free : is_ready (place_at x t) ≡ true → IsFree x t × (handed_at handed t ≡ 0)
  ready_free is = let one : ready_at x t ≡ 1 = ap one_where is in let small = not_small in (omega (arith, sums, one, small), omega (arith, sums, one, small))

  pub handed_free : handed_at handed t ≡ 1 → IsFree x t × (not_carried x t ≡ 1)
  handed_free one = let small = not_small in (omega (arith, sums, one, small), omega (arith, sums, one, small))

  pub carried_free : not_carried x t ≡ 0 → IsFree x t × (handed_at handed t ≡ 0) × (ready_at x t ≡ 0)
  carried_free none = (omega (arith, sums, none), omega (arith, sums, none), omega (arith, sums, none))

-- a thread of which a block is kept elsewhere than at the beginning is one of them
pub place_inside : (x : Shared) (t : ℕ) → is_unmade (place_at x t) ≡ false → t < length x.threads
place_inside x t made = elim (cases_lt t (length x.threads)) [
  | inl inside ↦ inside
  | inr past ↦ absurd (let at : is_unmade (place_at x t) ≡ true = ap (λ (b : Block). is_unmade b.place) (get_or_past x.threads t unmade past) in cc)
]
