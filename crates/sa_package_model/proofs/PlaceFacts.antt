-- Where a thread's place is changed, it agrees with where the thread is.
use Rattle.std.proofs.Common.{◌≡◌, ◌≢◌, ℕ, ◌+◌, ◌≤◌, ◌<◌, Bool, true, false, cond, length, Option, Some, None, refl, sym, ap, ◌∙◌, subst, inl, inr, arith}
use Rattle.std.proofs.lemmas.Bool.{cases_eq, cases_lt}
use Rattle.std.proofs.lemmas.List.{get_or-set_same, get_or-set_other}
use Rattle.sa_base.specs.declared.number.ThreadNo.{ThreadNo}
use Rattle.sa_abstract.specs.Setting.{Setting}
use Rattle.sa_abstract.specs.Calls.{Contexts}
use Rattle.sa_links.specs.Lists.{count_in_all}
use Rattle.sa_sync.specs.Sync.{waits_of}
use Rattle.sa_fast.specs.declared.shared.Shared.{Shared}
use Rattle.sa_fast.specs.declared.threads.Block.{Block}
use Rattle.sa_fast.specs.declared.threads.KeptPlace.{KeptPlace}
use Rattle.sa_fast.specs.declared.threads.KeptPlace.TheVariants.{Running, Blocked, Carried}
use Rattle.sa_fast.specs.Threads.{unmade, block_at, moved_to, is_done}
use Rattle.sa_fast.specs.Rest.{one_if, one_of, one_where, done_at, unmade_at, threads_at_rest, is_ready, is_unmade, is_carried, place_at, AgreesBy, AgreesAt, not_carried}
use Rattle.sa_fast.proofs.WorkSteps.{one_same, one_other}
use Rattle.sa_package_model.specs.declared.context.Context.{Context}
use Rattle.sa_package_model.specs.declared.package.Package.{Package}
use Rattle.sa_package_model.specs.Context.{carried_by}
use Rattle.sa_package_model.specs.Rules.{placed}
use Rattle.sa_package_model.specs.Hands.{threads_of, carried_of}
use Rattle.sa_package_model.specs.Stands.{IsStanding}
use Rattle.sa_package_model.proofs.Views.{carried_less}
use Rattle.sa_package_model.proofs.Holding.{thread_once, own_rest, own_below}

abbrev pub if_not : Bool → ℕ
if_not b = cond b 0 1

if_not_small : (b : Bool) → if_not b ≤ 1
if_not_small true = omega arith
if_not_small false = omega arith

pub carried_small : (x : Shared) (u : ℕ) → not_carried x u ≤ 1
carried_small x u = if_not_small (is_carried (place_at x u))

-- a place that a thread in a hand can have
pub record IsHandPlace (p : KeptPlace) : Type 0 where
  pub ready : is_ready p ≡ false
  pub done : is_done p ≡ false
  pub made : is_unmade p ≡ false

-- one thread is elsewhere
module _ (x : Shared) (n : ThreadNo) (p : KeptPlace) (inside : n.0 < length x.threads) where
  pub place_here : place_at (placed x (Some n) p) n.0 ≡ p
  place_here = ap (λ (b : Block). b.place) (get_or-set_same x.threads n.0 (moved_to (block_at x.threads n.0) p) unmade inside)

  pub place_there : (u : ℕ) → u ≢ n.0 → place_at (placed x (Some n) p) u ≡ place_at x u
  place_there u ne = ap (λ (b : Block). b.place) (get_or-set_other x.threads n.0 u (moved_to (block_at x.threads n.0) p) unmade ne)

  -- all agree, where the counts of this thread agree with its new place, and the others agree already
  pub agree_one : AgreesBy (count_in_all n.0 x.state.lists.lists) (waits_of x.sync n.0) (done_at x.sync n.0) (unmade_at x.state.lists n.0) p
      → ((u : ℕ) → u ≢ n.0 → AgreesAt x u) → (u : ℕ) → AgreesAt (placed x (Some n) p) u
  agree_one here others u = elim (cases_eq u n.0) [
    | inl e ↦ subst (λ k. AgreesAt (placed x (Some n) p) k) (sym e)
        (subst (λ q. AgreesBy (count_in_all n.0 x.state.lists.lists) (waits_of x.sync n.0) (done_at x.sync n.0) (unmade_at x.state.lists n.0) q)
        (sym place_here) here)
    | inr ne ↦ subst (λ q. AgreesBy (count_in_all u x.state.lists.lists) (waits_of x.sync u) (done_at x.sync u) (unmade_at x.state.lists u) q)
        (sym (place_there u ne)) (others u ne)
  ]

  pub carried_here : not_carried (placed x (Some n) p) n.0 ≡ if_not (is_carried p)
  carried_here = ap (λ q. if_not (is_carried q)) place_here

  pub carried_there : (u : ℕ) → u ≢ n.0 → not_carried (placed x (Some n) p) u ≡ not_carried x u
  carried_there u ne = ap (λ q. if_not (is_carried q)) (place_there u ne)

-- what a changed place needs to know of its thread
pub record IsPlaceable (x : Shared) (n : Option ThreadNo) (before : ℕ) : Type 0 where
  pub inside : (m : ThreadNo) → n ≡ Some m → m.0 < length x.threads
  pub carried : (m : ThreadNo) → n ≡ Some m → not_carried x m.0 ≡ before

-- a thread in a hand goes to another place there
pub agree_in_hand : (x : Shared) (n : Option ThreadNo) (before : ℕ) (p : KeptPlace) → IsHandPlace p → IsPlaceable x n before
    → ((m : ThreadNo) → n ≡ Some m → threads_at_rest x m.0 ≡ 0) → ((u : ℕ) → AgreesAt x u) → (u : ℕ) → AgreesAt (placed x n p) u
agree_in_hand x None before p hand can rest all u = all u
agree_in_hand x (Some n) before p hand can rest all u =
    let none = rest n refl in
    let ready : one_where (is_ready p) ≡ 0 = ap one_where hand.ready in
    let done : one_where (is_done p) ≡ 0 = ap one_where hand.done in
    let made : one_where (is_unmade p) ≡ 0 = ap one_where hand.made in
    agree_one x n p (can.inside n refl) (record { ready = omega arith; waiting = omega arith; ends = omega arith; new = omega arith }) (λ v ne. all v) u

-- a carried thread is put down; one that is not carried is picked up; others stay what they are
pub put_down : (x : Shared) (n : Option ThreadNo) (p : KeptPlace) → is_carried p ≡ false → IsPlaceable x n 0 → (u : ℕ)
    → not_carried (placed x n p) u ≡ not_carried x u + one_of n u
put_down x None p free can u = omega arith
put_down x (Some n) p free can u = elim (cases_eq u n.0) [
  | inl e ↦
      let now : not_carried (placed x (Some n) p) n.0 ≡ 1 = carried_here x n p (can.inside n refl) ∙ ap if_not free in
      subst (λ k. not_carried (placed x (Some n) p) k ≡ not_carried x k + one_if n.0 k) (sym e) (omega (arith, now, can.carried n refl, one_same n.0 n.0 refl))
  | inr ne ↦ omega (arith, carried_there x n p (can.inside n refl) u ne, one_other n.0 u (λ f. ne (sym f)))
]

pub picked_up : (x : Shared) (n : Option ThreadNo) (p : KeptPlace) → is_carried p ≡ true → IsPlaceable x n 1 → (u : ℕ)
    → not_carried (placed x n p) u + one_of n u ≡ not_carried x u
picked_up x None p held can u = omega arith
picked_up x (Some n) p held can u = elim (cases_eq u n.0) [
  | inl e ↦
      let now : not_carried (placed x (Some n) p) n.0 ≡ 0 = carried_here x n p (can.inside n refl) ∙ ap if_not held in
      subst (λ k. not_carried (placed x (Some n) p) k + one_if n.0 k ≡ not_carried x k) (sym e) (omega (arith, now, can.carried n refl, one_same n.0 n.0 refl))
  | inr ne ↦ omega (arith, carried_there x n p (can.inside n refl) u ne, one_other n.0 u (λ f. ne (sym f)))
]

pub put_still : (x : Shared) (n : Option ThreadNo) (p : KeptPlace) → IsPlaceable x n (if_not (is_carried p)) → (u : ℕ)
    → not_carried (placed x n p) u ≡ not_carried x u
put_still x None p can u = refl
put_still x (Some n) p can u = elim (cases_eq u n.0) [
  | inl e ↦ subst (λ k. not_carried (placed x (Some n) p) k ≡ not_carried x k) (sym e) (carried_here x n p (can.inside n refl) ∙ sym (can.carried n refl))
  | inr ne ↦ carried_there x n p (can.inside n refl) u ne
]

module _ (s : Setting) (e : ℕ) (u : Package) (cs : Contexts Context) (h : IsStanding s e u cs) where
  -- who carries a thread has it in hand
  pub carried_hand : (x : Option Context) (t : ℕ) → carried_of x t ≤ threads_of u.shared.works x t
  carried_hand None t = omega arith
  carried_hand (Some d) t = let less = carried_less d.state d.sections t in omega arith

  -- a thread that is not carried at rest
  pub rest_not_carried : (t : ℕ) → 1 ≤ threads_at_rest u.shared t → not_carried u.shared t ≡ 1
  rest_not_carried t rest = elim (cases_lt (not_carried u.shared t) 1) [
    | inl less ↦
        let found = h.carries.somewhere t (omega arith) in
        let hand = carried_hand (cs found.0) t in
        absurd (let once = h.threads.once found.0 t in let some = found.1 in omega arith)
    | inr more ↦ let small = carried_small u.shared t in omega arith
  ]

  module _ (a : ℕ) (c : Context) (is : cs a ≡ Some c) where
    pub own_carried : (t : ℕ) → 1 ≤ one_of (carried_by c.state) t → not_carried u.shared t ≡ 0
    own_carried t some =
        let once : not_carried u.shared t + carried_of (Some c) t ≤ 1 =
        subst (λ x. not_carried u.shared t + carried_of x t ≤ 1) is (h.carries.once a t) in omega arith

    -- a thread that the context has beside the one that it carries
    pub own_beside : (t : ℕ) → 1 + one_of (carried_by c.state) t ≤ threads_of u.shared.works (Some c) t → not_carried u.shared t ≡ 1
    own_beside t some = elim (cases_lt (not_carried u.shared t) 1) [
      | inl less ↦
          let found = h.carries.somewhere t (omega arith) in
          let hand = carried_hand (cs found.0) t in
          let mine : 1 ≤ threads_of u.shared.works (cs a) t = subst (λ x. 1 ≤ threads_of u.shared.works x t) (sym is) (omega arith) in
          let same : found.0 ≡ a = h.threads.apart found.0 a t (let there = found.1 in omega arith) mine in
          let carried : 1 ≤ carried_of (Some c) t = subst (λ x. 1 ≤ carried_of x t) (ap cs same ∙ is) found.1 in
          absurd (let once = thread_once s e u cs h a c is t in omega arith)
      | inr more ↦ let small = carried_small u.shared t in omega arith
    ]

    -- what it has of a thread is enough to change the thread's place
    pub own_hand : (n : Option ThreadNo) → carried_by c.state ≡ n → (m : ThreadNo) → n ≡ Some m
        → (1 ≤ one_of (carried_by c.state) m.0) × (1 ≤ threads_of u.shared.works (Some c) m.0)
    own_hand n carries m at =
        let one : one_of (carried_by c.state) m.0 ≡ 1 = ap (λ o. one_of o m.0) (carries ∙ at) ∙ one_same m.0 m.0 refl in
        let hand = carried_hand (Some c) m.0 in (omega arith, omega arith)

    pub own_placeable : (n : Option ThreadNo) → carried_by c.state ≡ n → IsPlaceable u.shared n 0
    own_placeable n carries = record {
      inside = λ m at. let below = own_below s e u cs h a c is m.0 (own_hand n carries m at).1 in let all = h.parts.blocks in omega arith;
      carried = λ m at. own_carried m.0 (own_hand n carries m at).0;
    }

    pub own_at_rest : (n : Option ThreadNo) → carried_by c.state ≡ n → (m : ThreadNo) → n ≡ Some m → threads_at_rest u.shared m.0 ≡ 0
    own_at_rest n carries m at = own_rest s e u cs h a c is m.0 (own_hand n carries m at).1

    pub beside_placeable : (n : Option ThreadNo) → ((x : ℕ) → one_of n x + one_of (carried_by c.state) x ≤ threads_of u.shared.works (Some c) x)
        → IsPlaceable u.shared n 1
    beside_placeable n has = record {
      inside = λ m at.
          let one : one_of n m.0 ≡ 1 = ap (λ o. one_of o m.0) at ∙ one_same m.0 m.0 refl in
          let below = own_below s e u cs h a c is m.0 (let has_it = has m.0 in omega arith) in let all = h.parts.blocks in omega arith;
      carried = λ m at. let one : one_of n m.0 ≡ 1 = ap (λ o. one_of o m.0) at ∙ one_same m.0 m.0 refl in own_beside m.0 (let has_it = has m.0 in omega arith);
    }

    pub beside_at_rest : (n : Option ThreadNo) → ((x : ℕ) → one_of n x + one_of (carried_by c.state) x ≤ threads_of u.shared.works (Some c) x)
        → (m : ThreadNo) → n ≡ Some m → threads_at_rest u.shared m.0 ≡ 0
    beside_at_rest n has m at =
        let one : one_of n m.0 ≡ 1 = ap (λ o. one_of o m.0) at ∙ one_same m.0 m.0 refl in own_rest s e u cs h a c is m.0 (let has_it = has m.0 in omega arith)

-- the places at which a thread in a hand is
pub running_hand : IsHandPlace Running
running_hand = record { ready = refl; done = refl; made = refl }

pub blocked_hand : IsHandPlace Blocked
blocked_hand = record { ready = refl; done = refl; made = refl }

pub carried_hand_place : IsHandPlace Carried
carried_hand_place = record { ready = refl; done = refl; made = refl }
