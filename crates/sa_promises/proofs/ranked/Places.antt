-- On each processor at most one thread runs, and it is one of the space that owns it; so where no pair is found, none is there.
use Rattle.std.proofs.Common.{◌≡◌, ℕ, zero, suc, ◌<◌, ◌≤◌, ◌⊎◌, inl, inr, refl, sym, ◌∙◌, ap, subst, arith, Some, None, List, ◌∷◌, true, false}
use Rattle.std.specs.Prelude.{Option, ◌&&◌, is_none, is_some, nat_lt, get_or, slice_set}
use Rattle.std.proofs.lemmas.Bool.{cases_eq, cases_lt, eq-eqb}
use Rattle.std.proofs.lemmas.Bool.Decides.{nat_tests}
use Rattle.std.proofs.lemmas.List.{get_or-set_other}
use Rattle.std.proofs.lemmas.Option.{same_Some}
use Rattle.sa_lemmas.proofs.Searches.{any_at}
use Rattle.sa_base.specs.declared.number.SpaceNo.{SpaceNo}
use Rattle.sa_base.specs.declared.number.ProcNo.{ProcNo}
use Rattle.sa_base.specs.declared.number.ThreadNo.{ThreadNo}
use Rattle.sa_base.specs.declared.record.Record.{Record}
use Rattle.sa_base.specs.declared.record.Record.TheVariants.{Ins, Run, Stop, Block, Unblock, Cont, Back, Ready, Move}
use Rattle.sa_spaces.specs.Workload.{WorkloadView}
use Rattle.sa_assign.specs.Aims.{least_below}
use Rattle.sa_assign.proofs.ChoiceLemmas.{least_below-none}
use Rattle.sa_laws.specs.declared.place.Place.{Place}
use Rattle.sa_laws.specs.declared.place.Place.TheVariants as place
use Rattle.sa_laws.specs.State.{State, SpaceState, Thread, space_at, thread_in, thread_at, put_thread, placed, placed_if, owner_at, with_owner, runner_on, no_threads}
use Rattle.sa_laws.specs.Machine.{changed}
use Rattle.sa_laws.specs.Readings.{Readings, line_of}
use Rattle.sa_laws.specs.Step.{Needs}
use Rattle.sa_ranks.specs.Pairs.{rank_in, rank_if, is_ready, outranks, is_outranked, outranked_on, outranked_by, is_pair_on, has_pair}
use Rattle.sa_laws.proofs.Searches.{passed-from}
use Rattle.sa_user_laws.proofs.Runners.{runner-is}
use Rattle.sa_promises.proofs.ranked.Fading.{nobody, Fades, record-fades}

pub record IsPlaced (w : WorkloadView) (a : State) : Type 0 where
  pub owned : (s : SpaceNo) (t : ThreadNo) (p : ProcNo) → (thread_at a s t).place ≡ place.Running p → (owner_at a p ≡ Some s) × (p.0 < w.processors)
  pub one : (s : SpaceNo) (t v : ThreadNo) (p : ProcNo) → (thread_at a s t).place ≡ place.Running p → (thread_at a s v).place ≡ place.Running p → t.0 ≡ v.0

-- records that make nothing run
pub faded : (w : WorkloadView) (a b : State) → ((q : ProcNo) → owner_at b q ≡ owner_at a q) → ((z : SpaceNo) → Fades z a b) → IsPlaced w a → IsPlaced w b
faded w a b owners fades is = record {
  owned = λ s t p runs. let o = is.owned s t p (fades s t.0 (place.Running p) refl runs).0 in (owners p ∙ o.0, o.1);
  one = λ s t v p first second. is.one s t v p (fades s t.0 (place.Running p) refl first).0 (fades s v.0 (place.Running p) refl second).0;
}

-- one that is put in another place
in-threads : (xs : List Thread) (i j : ℕ) (new : Thread) (X : Place) → (get_or (slice_set xs i new) j nobody).place ≡ X
    → ((j ≡ i) × (new.place ≡ X)) ⊎ ((get_or xs j nobody).place ≡ X)
in-threads (x ∷ xs) zero zero new X is = inl (refl, is)
in-threads (x ∷ xs) (suc i) (suc j) new X is = elim (in-threads xs i j new X is) [ inl new' ↦ inl (ap suc new'.0, new'.1) | inr old ↦ inr old ]
in-threads _ _ _ new X is = inr is

in-spaces : (xs : List SpaceState) (k : ℕ) (x : SpaceState) (z j : ℕ) (X : Place) → (get_or (get_or (slice_set xs k x) z no_threads).threads j nobody).place ≡ X
    → ((z ≡ k) × ((get_or x.threads j nobody).place ≡ X)) ⊎ ((get_or (get_or xs z no_threads).threads j nobody).place ≡ X)
in-spaces (y ∷ xs) zero x zero j X is = inl (refl, is)
in-spaces (y ∷ xs) (suc k) x (suc z) j X is = elim (in-spaces xs k x z j X is) [ inl new ↦ inl (ap suc new.0, new.1) | inr old ↦ inr old ]
in-spaces _ _ x _ j X is = inr is

put-cases : (a : State) (u : SpaceNo) (t : ThreadNo) (put : Place) (z : SpaceNo) (v : ThreadNo) (X : Place) → (thread_at (placed a u t put) z v).place ≡ X
    → ((z.0 ≡ u.0) × (v.0 ≡ t.0) × (put ≡ X)) ⊎ ((thread_at a z v).place ≡ X)
put-cases a u t put z v X is = elim (in-spaces a.spaces u.0 (put_thread put (space_at a u) t) z.0 v.0 X is) [
  | inl here ↦ elim (in-threads (space_at a u).threads t.0 v.0 (record (thread_in (space_at a u) t) { place = put }) X here.1) [
    | inl new ↦ inl (here.0, new.0, new.1)
    | inr old ↦ inr (ap (λ n. (get_or (get_or a.spaces n no_threads).threads v.0 nobody).place) here.0 ∙ old)
  ]
  | inr old ↦ inr old
]

same-proc : (p q : ProcNo) → place.Running p ≡ place.Running q → p ≡ q
same-proc p q e = cc

runs-put : (w : WorkloadView) (a : State) (u : SpaceNo) (t : ThreadNo) (p : ProcNo) → IsPlaced w a → owner_at a p ≡ Some u → p.0 < w.processors
    → runner_on a p ≡ None → IsPlaced w (placed a u t (place.Running p))
runs-put w a u t p is owner within none = record {
  owned = λ z v q runs. elim (put-cases a u t (place.Running p) z v (place.Running q) runs) [
    | inl new ↦ let at = same-proc p q new.2 in (
      ap (owner_at a) (sym at) ∙ owner ∙ ap (λ n. Some (record { 0 = n })) (sym new.0),
      subst (λ (k : ProcNo). k.0 < w.processors) at within,
    )
    | inr old ↦ is.owned z v q old
  ];
  one = λ z v x q first second. elim (put-cases a u t (place.Running p) z v (place.Running q) first) [
    | inl new ↦ elim (put-cases a u t (place.Running p) z x (place.Running q) second) [
      | inl other ↦ new.1 ∙ sym other.1
      | inr old ↦ absurd (passed-from p 0 a.spaces none z.0 x.0 (old ∙ sym new.2))
    ]
    | inr old ↦ elim (put-cases a u t (place.Running p) z x (place.Running q) second) [
      | inl new ↦ absurd (passed-from p 0 a.spaces none z.0 v.0 (old ∙ sym new.2))
      | inr other ↦ is.one z v x q old other
    ]
  ];
}

readies-put : (w : WorkloadView) (a : State) (u : SpaceNo) (t : ThreadNo) → IsPlaced w a → IsPlaced w (placed a u t place.Ready)
readies-put w a u t is = record {
  owned = λ z v q runs. is.owned z v q (old z v q runs);
  one = λ z v x q first second. is.one z v x q (old z v q first) (old z x q second);
}
  where
    old : (z : SpaceNo) (v : ThreadNo) (q : ProcNo) → (thread_at (placed a u t place.Ready) z v).place ≡ place.Running q
        → (thread_at a z v).place ≡ place.Running q
    old z v q runs = elim (put-cases a u t place.Ready z v (place.Running q) runs) [
      | inl new ↦ absurd (let clash = new.2 in cc)
      | inr at ↦ at
    ]

moves : (w : WorkloadView) (a : State) (p : ProcNo) (new : Option SpaceNo) → IsPlaced w a → runner_on a p ≡ None → IsPlaced w (with_owner a p new)
moves w a p new is none = record {
  owned = λ z v q runs. elim (cases_eq q.0 p.0) [
    | inl at ↦ absurd (passed-from p 0 a.spaces none z.0 v.0 (runs ∙ ap (λ n. place.Running (record { 0 = n })) at))
    | inr apart ↦ let o = is.owned z v q runs in (get_or-set_other a.owners p.0 q.0 new None apart ∙ o.0, o.1)
  ];
  one = is.one;
}

owner-put : (a : State) (s : SpaceNo) (t : Option ThreadNo) (put : Place) (q : ProcNo) → owner_at (placed_if a s t put) q ≡ owner_at a q
owner-put a s None put q = refl
owner-put a s (Some t) put q = refl

pub places-step : (w : WorkloadView) (p : ProcNo) (r : Readings) (x : Record) → p.0 < w.processors → Needs w p r x → IsPlaced w r.state
    → IsPlaced w (changed w p r.state x)
places-step w p r (Run u t) within needs is = runs-put w r.state u t p is needs.0 within needs.1
places-step w p r (Cont u None) within needs is = is
places-step w p r (Cont u (Some t)) within needs is = runs-put w r.state u t p is needs.0 within needs.1
places-step w p r (Ready u t) within needs is = readies-put w r.state u t is
places-step w p r (Move old new) within needs is = moves w r.state p new is needs.1
places-step w p r (Ins u t i) within needs is =
    faded w r.state (changed w p r.state (Ins u t i)) (λ q. refl) (λ z. record-fades w p r.state z (Ins u t i) tt) is
places-step w p r (Stop u t b) within needs is =
    faded w r.state (changed w p r.state (Stop u t b)) (owner-put r.state u t place.Carried) (λ z. record-fades w p r.state z (Stop u t b) tt) is
places-step w p r (Block u t b io) within needs is =
    faded w r.state (changed w p r.state (Block u t b io)) (owner-put r.state u t place.Blocked) (λ z. record-fades w p r.state z (Block u t b io) tt) is
places-step w p r (Unblock u t b) within needs is =
    faded w r.state (changed w p r.state (Unblock u t b)) (owner-put r.state u t place.Carried) (λ z. record-fades w p r.state z (Unblock u t b) tt) is
places-step w p r (Back u t) within needs is =
    faded w r.state (changed w p r.state (Back u t)) (owner-put r.state u t place.Carried) (λ z. record-fades w p r.state z (Back u t) tt) is
places-step w p r x within needs is = is

-- no pair: no ready thread outranks one that runs on a processor whose line is low
abbrev pub NoPair : Readings → SpaceNo → Type 0
NoPair r s =
    (t u : ThreadNo) (p : ProcNo) → (thread_at r.state s t).place ≡ place.Ready → (thread_at r.state s u).place ≡ place.Running p → line_of r p ≡ None
    → rank_in (space_at r.state s) t ≤ rank_in (space_at r.state s) u

pub no-pair : (w : WorkloadView) (r : Readings) (s : SpaceNo) → IsPlaced w r.state → has_pair w r s ≡ false → NoPair r s
no-pair w r s is none t u p ready runs low = elim (cases_lt (rank_in (space_at r.state s) u) (rank_in (space_at r.state s) t)) [
  | inl less ↦ absurd (
      let x = space_at r.state s in
      let rank = rank_in x u in
      let runner : runner_on r.state p ≡ Some (record { space = s; thread = u }) =
      runner-is r.state p s (Some u)
      (λ z v at.
      let own = is.owned z v p at in
      let here : z ≡ s = same_Some z s (sym own.0 ∙ (is.owned s u p runs).0) in
      (here, ap (λ n. Some (record { 0 = n })) (is.one s u v p runs (subst (λ (k : SpaceNo). (thread_at r.state k v).place ≡ place.Running p) here at))))
      (λ v same. subst (λ (k : ThreadNo). (thread_at r.state s k).place ≡ place.Running p) (same_Some u v same) runs) in
      let above : nat_lt rank (thread_in x t).program ≡ true = lt-true rank (thread_in x t).program less in
      let passes : outranks rank (thread_in x t) ≡ true = ap (λ (k : Place). is_ready k && nat_lt rank (thread_in x t).program) ready ∙ above in
      let any : is_outranked x rank ≡ true = any_at nobody (outranks rank) x.threads t.0 refl passes in
      let pair : outranked_on r s p ≡ Some rank =
      ap (outranked_by r s p) runner ∙ ap (λ b. rank_if (b && is_none (line_of r p) && is_outranked x rank) rank) (eq-eqb s.0 s.0 refl)
      ∙ ap (λ (l : Option ℕ). rank_if (is_none l && is_outranked x rank) rank) low ∙ ap (λ b. rank_if b rank) any in
      let found : is_pair_on r s p.0 ≡ true = ap (λ (o : Option ℕ). is_some o) pair in
      nothing (least_below w.processors (is_pair_on r s)) refl found
      )
  | inr other ↦ omega arith
]
  where
    lt-true : (a b : ℕ) → a < b → nat_lt a b ≡ true
    lt-true a b less = grind (arith, nat_tests)

    nothing : (o : Option ℕ) → least_below w.processors (is_pair_on r s) ≡ o → is_pair_on r s p.0 ≡ true → ⊥
    nothing (Some i) at pair = let clash = sym none ∙ ap (λ (k : Option ℕ). is_some k) at in cc
    nothing None gone pair = let off = least_below-none w.processors (is_pair_on r s) gone p.0 (is.owned s u p runs).1 in cc
