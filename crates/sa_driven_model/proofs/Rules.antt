-- What each other reply does leaves all standing.
use Rattle.std.proofs.Common.{◌≡◌, ◌≢◌, ℕ, ◌+◌, ◌≤◌, ◌<◌, Bool, true, false, List, length, Option, Some, None, is_none, refl, sym, ap, ◌∙◌, subst, arith}
use Rattle.std.proofs.lemmas.Option.{same_Some}
use Rattle.std.proofs.lemmas.List.{length-set}
use Rattle.sa_base.specs.declared.number.ThreadNo.{ThreadNo}
use Rattle.sa_base.specs.declared.limits.TheConstants.{MAX_THREADS}
use Rattle.sa_abstract.specs.Setting.{Setting}
use Rattle.sa_abstract.specs.Calls.{Contexts}
use Rattle.sa_fast.specs.declared.shared.Shared.{Shared}
use Rattle.sa_fast.specs.declared.threads.KeptPlace.{KeptPlace}
use Rattle.sa_fast.specs.declared.threads.KeptPlace.TheVariants.{Ready, Running, Blocked, Carried}
use Rattle.sa_fast.specs.Threads.{is_done}
use Rattle.sa_fast.specs.Rest.{one_of, one_where, is_ready, is_waiting, is_unmade, is_carried, place_at, not_carried}
use Rattle.sa_fast.proofs.WorkSteps.{one_same, one_other}
use Rattle.sa_package_model.proofs.PlaceFacts.{IsPlaceable, if_not, picked_up, put_down, put_still}
use Rattle.sa_package_model.proofs.Parts.{parts_placed}
use Rattle.sa_driven_model.specs.declared.context.DrivenContext.{DrivenContext}
use Rattle.sa_driven_model.specs.declared.space.DrivenSpace.{DrivenSpace}
use Rattle.sa_driven_model.specs.Threads.{has, with_some, without_some, without_thread, both_sets}
use Rattle.sa_driven_model.specs.Reply.{is_held, can_cont}
use Rattle.sa_driven_model.specs.Step.{moved, handed_over, picked_up as picks_up, took_over}
use Rattle.sa_driven_model.specs.Stands.{handed_at, carried_of, IsStanding}
use Rattle.sa_driven_model.proofs.Sets.{has_below, with-same, with-other, without-same, without-other, length-with_some, length-without_some, length-both}
use Rattle.sa_driven_model.proofs.Places.{IsFree, IsLive, ready_live, running_live, blocked_live, carried_live, agree_moved, sums_moved, ready_free, handed_free, carried_free, place_inside}
use Rattle.sa_driven_model.proofs.Changing.{IsValue, IsChange, IsJoin, same_value}

-- others are in a set as before
with_some-others : (s : List Bool) (n : Option ThreadNo) (v : ℕ) → one_of n v ≡ 0 → handed_at (with_some s n) v ≡ handed_at s v
with_some-others s None v none = refl
with_some-others s (Some m) v none = with-other s m.0 v (λ e. let one = one_same m.0 v (sym e) in absurd (omega (arith, one, none)))

without_some-others : (s : List Bool) (n : Option ThreadNo) (v : ℕ) → one_of n v ≡ 0 → handed_at (without_some s n) v ≡ handed_at s v
without_some-others s None v none = refl
without_some-others s (Some m) v none = without-other s m.0 v (λ e. let one = one_same m.0 v (sym e) in absurd (omega (arith, one, none)))

-- a ready thread, and one that was stopped or unblocked, is no other
pub ready_made : (p : KeptPlace) → is_ready p ≡ true → (is_unmade p ≡ false) × (if_not (is_carried p) ≡ 1)
ready_made Ready is = (refl, refl)
ready_made _ is = absurd cc

pub held_made : (p : KeptPlace) → is_held p ≡ true → (is_unmade p ≡ false) × (if_not (is_carried p) ≡ 1)
held_made Carried is = (refl, refl)
held_made _ is = absurd cc

carried_made : (p : KeptPlace) → if_not (is_carried p) ≡ 0 → is_unmade p ≡ false
carried_made Running is = refl
carried_made Blocked is = refl
carried_made _ is = absurd (omega (arith, is))

pub no_thread : (t : Option ThreadNo) → is_none t ≡ true → t ≡ None
no_thread None is = refl
no_thread (Some t) is = absurd cc

module _ (s : Setting) (e : ℕ) (u : DrivenSpace) (cs : Contexts DrivenContext) (h : IsStanding s e u cs) where
  abbrev x : Shared
  x = u.base.shared

  -- what has to be known of a thread that is put elsewhere
  pub record CanMove (n : Option ThreadNo) (p : KeptPlace) (after : List Bool) (before : ℕ) : Type 0 where
    pub inside : (m : ThreadNo) → n ≡ Some m → m.0 < length x.threads
    pub free : (m : ThreadNo) → n ≡ Some m → IsFree x m.0
    pub live : (m : ThreadNo) → n ≡ Some m → IsLive p (handed_at after m.0)
    pub carried : (m : ThreadNo) → n ≡ Some m → not_carried x m.0 ≡ before
    pub others : (v : ℕ) → one_of n v ≡ 0 → handed_at after v ≡ handed_at u.handed v
    pub all : length after ≡ MAX_THREADS

  -- THE VALUE, where a thread is elsewhere, if there is one
  pub moved_value : (n : Option ThreadNo) (p : KeptPlace) (after : List Bool) (before : ℕ) → CanMove n p after before
      → IsValue s e (record (moved u n p) { handed = after })
  moved_value None p after before can = record {
    made = record { setting = h.made.setting; space = h.made.space; def = h.made.def; processors = h.made.processors; fetch = h.made.fetch };
    parts = parts_placed u.base.def u.base.processors e x None p h.parts;
    unused = record { lists = h.unused.lists; works = h.unused.works };
    places = h.places;
    somewhere = λ t. let same = can.others t refl in let was = h.somewhere t in omega (arith, same, was);
    handed = can.all;
  }
  moved_value (Some m) p after before can =
      let inside = can.inside m refl in let free = can.free m refl in let live = can.live m refl in
      let others : (v : ℕ) → v ≢ m.0 → handed_at after v ≡ handed_at u.handed v = λ v ne. can.others v (one_other m.0 v (λ f. ne (sym f))) in
      record {
        made = record { setting = h.made.setting; space = h.made.space; def = h.made.def; processors = h.made.processors; fetch = h.made.fetch };
        parts = parts_placed u.base.def u.base.processors e x (Some m) p h.parts;
        unused = record { lists = h.unused.lists; works = h.unused.works };
        places = agree_moved x u.handed after m p inside free live others h.places;
        somewhere = sums_moved x u.handed after m p inside free live others h.somewhere;
        handed = can.all;
      }

  placeable : (n : Option ThreadNo) (p : KeptPlace) (after : List Bool) (before : ℕ) → CanMove n p after before → IsPlaceable x n before
  placeable n p after before can = record { inside = can.inside; carried = can.carried }

  -- WHO CAN BE MOVED. A thread that a context carries
  module _ (a : ℕ) (c : DrivenContext) (is : cs a ≡ Some c) where
    own_carried : (m : ThreadNo) → c.thread ≡ Some m → not_carried x m.0 ≡ 0
    own_carried m at =
        let once : not_carried x m.0 + carried_of (Some c) m.0 ≤ 1 =
        subst (λ d. not_carried x m.0 + carried_of d m.0 ≤ 1) is (h.carries.once a m.0) in
        let one : one_of c.thread m.0 ≡ 1 = ap (λ o. one_of o m.0) at ∙ one_same m.0 m.0 refl in
        omega (arith, once, one)

    pub own_inside : (m : ThreadNo) → c.thread ≡ Some m → m.0 < length x.threads
    own_inside m at = place_inside x m.0 (carried_made (place_at x m.0) (own_carried m at))

    own_free : (m : ThreadNo) → c.thread ≡ Some m → IsFree x m.0
    own_free m at = (carried_free x u.handed m.0 (h.somewhere m.0) (own_carried m at)).0

    own_unhanded : (m : ThreadNo) → c.thread ≡ Some m → handed_at u.handed m.0 ≡ 0
    own_unhanded m at = (carried_free x u.handed m.0 (h.somewhere m.0) (own_carried m at)).1

    -- is put down, and can be made ready
    pub down_can : CanMove c.thread Carried (with_some u.handed c.thread) 0
    down_can = record {
      inside = own_inside;
      free = own_free;
      live = λ m at.
          let inside : m.0 < length u.handed = let b = own_inside m at in omega (arith, b, h.parts.blocks, h.handed) in
          let now : handed_at (with_some u.handed c.thread) m.0 ≡ 1 = ap (λ n. handed_at (with_some u.handed n) m.0) at ∙ with-same u.handed m.0 inside in
          subst (IsLive Carried) (sym now) carried_live;
      carried = own_carried;
      others = λ v none. with_some-others u.handed c.thread v none;
      all = length-with_some u.handed c.thread ∙ h.handed;
    }

    -- blocks
    block_can : CanMove c.thread Blocked u.handed 0
    block_can = record {
      inside = own_inside;
      free = own_free;
      live = λ m at. subst (IsLive Blocked) (sym (own_unhanded m at)) blocked_live;
      carried = own_carried;
      others = λ v none. refl;
      all = h.handed;
    }

    -- THE FAULT of an effect on the ready lists
    pub fault_change : IsChange s e u (moved u c.thread Blocked) (Some c) c 0
    fault_change = record {
      value = moved_value c.thread Blocked u.handed 0 block_can;
      carries = λ t. let still = put_still x c.thread Blocked (placeable c.thread Blocked u.handed 0 block_can) t in omega (arith, still);
      locks = omega arith;
      hand = h.hands a c is;
    }

    -- NOTHING of the value, and so many locks more
    pub still_change : (new : DrivenContext) (more : ℕ) → new.thread ≡ c.thread → new.hand ≡ c.hand → new.locks ≤ c.locks + more → IsChange s e u u (Some c) new more
    still_change new more thread hand locks = record {
      value = same_value s e u cs h;
      carries = λ t. ap (λ n. not_carried x t + one_of n t) thread;
      locks = locks;
      hand = ap length hand ∙ h.hands a c is;
    }

    -- RUN
    run_can : (t : ThreadNo) → is_ready (place_at x t.0) ≡ true → CanMove (Some t) Running u.handed 1
    run_can t ready =
        let free = ready_free x u.handed t.0 (h.somewhere t.0) ready in
        let made = ready_made (place_at x t.0) ready in
        record {
          inside = λ m at. subst (λ (n : ThreadNo). n.0 < length x.threads) (same_Some t m at) (place_inside x t.0 made.0);
          free = λ m at. subst (λ (n : ThreadNo). IsFree x n.0) (same_Some t m at) free.0;
          live = λ m at. subst (λ (n : ThreadNo). IsLive Running (handed_at u.handed n.0)) (same_Some t m at) (subst (IsLive Running) (sym free.1) running_live);
          carried = λ m at. subst (λ (n : ThreadNo). not_carried x n.0 ≡ 1) (same_Some t m at) made.1;
          others = λ v none. refl;
          all = h.handed;
        }

    pub run_change : (t : ThreadNo) (new : DrivenContext) → c.thread ≡ None → is_ready (place_at x t.0) ≡ true
        → new.thread ≡ Some t → new.hand ≡ c.hand → new.locks ≡ c.locks → IsChange s e u (moved u (Some t) Running) (Some c) new 0
    run_change t new none ready thread hand locks = let can = run_can t ready in record {
      value = moved_value (Some t) Running u.handed 1 can;
      carries = λ v.
          let up = picked_up x (Some t) Running refl (placeable (Some t) Running u.handed 1 can) v in
          let now : one_of new.thread v ≡ one_of (Some t) v = ap (λ n. one_of n v) thread in
          let was : one_of c.thread v ≡ 0 = ap (λ n. one_of n v) none in
          omega (arith, up, now, was);
      locks = omega (arith, locks);
      hand = ap length hand ∙ h.hands a c is;
    }

    -- READY
    handed_one : (b : Bool) → b ≡ true → one_where b ≡ 1
    handed_one b is = ap one_where is

    ready_can : (t : ThreadNo) → has u.handed t.0 ≡ true → CanMove (Some t) Ready (without_some u.handed (Some t)) 1
    ready_can t handed =
        let one = handed_one (has u.handed t.0) handed in
        let free = handed_free x u.handed t.0 (h.somewhere t.0) one in
        let below : t.0 < length u.handed = has_below u.handed t.0 (omega (arith, one)) in
        let none : handed_at (without_some u.handed (Some t)) t.0 ≡ 0 = without-same u.handed t.0 below in
        record {
          inside = λ m at. subst (λ (n : ThreadNo). n.0 < length x.threads) (same_Some t m at) (omega (arith, below, h.handed, h.parts.blocks));
          free = λ m at. subst (λ (n : ThreadNo). IsFree x n.0) (same_Some t m at) free.0;
          live = λ m at. subst (λ (n : ThreadNo). IsLive Ready (handed_at (without_some u.handed (Some t)) n.0)) (same_Some t m at)
              (subst (IsLive Ready) (sym none) ready_live);
          carried = λ m at. subst (λ (n : ThreadNo). not_carried x n.0 ≡ 1) (same_Some t m at) free.1;
          others = λ v none. without_some-others u.handed (Some t) v none;
          all = length-without_some u.handed (Some t) ∙ h.handed;
        }

    pub ready_change : (t : ThreadNo) (new : DrivenContext) → has u.handed t.0 ≡ true → new.thread ≡ c.thread → new.hand ≡ without_thread c.hand t.0
        → new.locks ≡ c.locks → IsChange s e u (picks_up u (Some t) Ready) (Some c) new 0
    ready_change t new handed thread hand locks = let can = ready_can t handed in record {
      value = moved_value (Some t) Ready (without_some u.handed (Some t)) 1 can;
      carries = λ v.
          let still = put_still x (Some t) Ready (placeable (Some t) Ready (without_some u.handed (Some t)) 1 can) v in
          let same : one_of new.thread v ≡ one_of c.thread v = ap (λ n. one_of n v) thread in
          omega (arith, still, same);
      locks = omega (arith, locks);
      hand = ap length hand ∙ length-set c.hand t.0 false ∙ h.hands a c is;
    }

    -- CONT
    cont_can : (t : Option ThreadNo) → can_cont u t ≡ true → CanMove t Running (without_some u.handed t) 1
    cont_can None can = record {
      inside = λ m at. absurd cc;
      free = λ m at. absurd cc;
      live = λ m at. absurd cc;
      carried = λ m at. absurd cc;
      others = λ v none. refl;
      all = h.handed;
    }
    cont_can (Some t) can =
        let made = held_made (place_at x t.0) can in
        let inside = place_inside x t.0 made.0 in
        let free = held_free t can in
        let none : handed_at (without_some u.handed (Some t)) t.0 ≡ 0 = without-same u.handed t.0 (omega (arith, inside, h.handed, h.parts.blocks)) in
        record {
          inside = λ m at. subst (λ (n : ThreadNo). n.0 < length x.threads) (same_Some t m at) inside;
          free = λ m at. subst (λ (n : ThreadNo). IsFree x n.0) (same_Some t m at) free;
          live = λ m at. subst (λ (n : ThreadNo). IsLive Running (handed_at (without_some u.handed (Some t)) n.0)) (same_Some t m at)
              (subst (IsLive Running) (sym none) running_live);
          carried = λ m at. subst (λ (n : ThreadNo). not_carried x n.0 ≡ 1) (same_Some t m at) made.1;
          others = λ v none. without_some-others u.handed (Some t) v none;
          all = length-without_some u.handed (Some t) ∙ h.handed;
        } where
          held_free : (t : ThreadNo) → is_held (place_at x t.0) ≡ true → IsFree x t.0
          held_free t can =
              let agrees = h.places t.0 in
              let flat = held_flat (place_at x t.0) can in
              omega (arith, agrees.waiting, agrees.ends, agrees.new, flat.0, flat.1, flat.2) where
                held_flat : (p : KeptPlace) → is_held p ≡ true
                    → (one_where (is_waiting p) ≡ 0)
                    × (one_where (is_done p) ≡ 0)
                    × (one_where (is_unmade p) ≡ 0)
                held_flat Carried is = (refl, refl, refl)
                held_flat _ is = absurd cc

    pub cont_change : (t : Option ThreadNo) (new : DrivenContext) → c.thread ≡ None → can_cont u t ≡ true → new.thread ≡ t → new.hand ≡ c.hand
        → new.locks ≡ c.locks → IsChange s e u (picks_up u t Running) (Some c) new 0
    cont_change t new none held thread hand locks = let can = cont_can t held in record {
      value = moved_value t Running (without_some u.handed t) 1 can;
      carries = λ v.
          let up = picked_up x t Running refl (placeable t Running (without_some u.handed t) 1 can) v in
          let now : one_of new.thread v ≡ one_of t v = ap (λ n. one_of n v) thread in
          let was : one_of c.thread v ≡ 0 = ap (λ n. one_of n v) none in
          omega (arith, up, now, was);
      locks = omega (arith, locks);
      hand = ap length hand ∙ h.hands a c is;
    }

    -- BACK
    pub back_change : (new : DrivenContext) → new.thread ≡ None → new.hand ≡ with_some c.hand c.thread → new.locks ≡ c.locks
        → IsChange s e u (handed_over u c.thread) (Some c) new 0
    back_change new thread hand locks = let can = down_can in record {
      value = moved_value c.thread Carried (with_some u.handed c.thread) 0 can;
      carries = λ v.
          let down = put_down x c.thread Carried refl (placeable c.thread Carried (with_some u.handed c.thread) 0 can) v in
          let now : one_of new.thread v ≡ 0 = ap (λ n. one_of n v) thread in
          omega (arith, down, now);
      locks = omega (arith, locks);
      hand = ap length hand ∙ length-with_some c.hand c.thread ∙ h.hands a c is;
    }

  -- A NOTICE: one context is taken over by another
  pub over_join : (a b : ℕ) (c d : DrivenContext) → cs a ≡ Some c → cs b ≡ Some d → IsJoin s e u (handed_over u d.thread) c d (took_over c d)
  over_join a b c d is_a is_b = let can = down_can b d is_b in record {
    value = moved_value d.thread Carried (with_some u.handed d.thread) 0 can;
    carries = λ v. let down = put_down x d.thread Carried refl (placeable d.thread Carried (with_some u.handed d.thread) 0 can) v in omega (arith, down);
    locks = omega arith;
    hand = length-with_some (both_sets c.hand d.hand) d.thread ∙ length-both c.hand d.hand (h.hands a c is_a ∙ sym (h.hands b d is_b)) ∙ h.hands a c is_a;
  }
