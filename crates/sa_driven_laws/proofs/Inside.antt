-- Whether a life is in: at the end of an event that settles it, of one after which its thread goes on, and of one that says that
-- it is idle, the test of any user level says what the context says.
use Rattle.std.proofs.Common.{◌≡◌, ◌≢◌, ℕ, zero, suc, Bool, true, false, not, ◌||◌, ◌&&◌, List, [], ◌∷◌, ◌++◌, filter, length, Contains, Some, is_none, refl, sym, ap, ◌∙◌, arith}
use Rattle.std.specs.Prelude.{if◌then◌else◌, nat_lt, nat_le, min}
use Rattle.std.specs.List.{list_any}
use Rattle.std.proofs.lemmas.Bool.Decides.{nat_tests}
use Rattle.std.proofs.Math.Bool.{or-false, or-true, or_assoc}
use Rattle.std.proofs.lemmas.Bool.{eq-eqb, eqb-true, lt-ltb, ne_eqb}
use Rattle.sa_base.specs.declared.limits.TheConstants.{BULK_RETURN}
use Rattle.sa_base.specs.declared.context.Seen.{Seen}
use Rattle.sa_base.specs.declared.number.ActNo.{ActNo}
use Rattle.sa_base.specs.declared.number.ThreadNo.{ThreadNo}
use Rattle.sa_lemmas.proofs.Searches.{any-contained}
use Rattle.sa_spaces.specs.Workload.{WorkloadView}
use Rattle.sa_fast.specs.Hints.{usable as usable_by}
use Rattle.sa_fast.specs.Threads.{load_of as loaded}
use Rattle.sa_abstract.specs.Calls.{Contexts}
use Rattle.sa_abstract.specs.Setting.{Setting}
use Rattle.sa_driven_model.specs.declared.context.DrivenContext.{DrivenContext}
use Rattle.sa_driven_model.specs.declared.space.DrivenSpace.{DrivenSpace}
use Rattle.sa_driven_model.specs.Threads.{has, share_one}
use Rattle.sa_driven_model.specs.Context.{has_hand, is_bound, hints}
use Rattle.sa_driven_model.specs.Stands.{IsStanding}
use Rattle.sa_laws.specs.Any.{is_handed, has_heard_hand, is_tied, is_hint_due, is_inside_any, begins_local, says_idle}
use Rattle.sa_laws.specs.Event.{Event}
use Rattle.sa_laws.specs.Life.{Life, Lock, some_lock, same_thread}
use Rattle.sa_laws.specs.Readings.{Readings, life_of, demand_of, taken_of, load_of, carried_by}
use Rattle.sa_laws.specs.State.{space_at}
use Rattle.sa_fast_laws.specs.Stage.{stage_of, is_gone}
use Rattle.sa_driven_laws.specs.Life.{is_number, in_hand, is_own, HasLife}
use Rattle.sa_driven_laws.specs.DrivenFits.{Holds}
use Rattle.sa_driven_laws.proofs.Changed.{life-here}
use Rattle.sa_driven_laws.proofs.Handed.{any-found, handed-is}

-- HANDS
pub hand-append : (xs ys : List ThreadNo) (n : ℕ) → in_hand (xs ++ ys) n ≡ (in_hand xs n || in_hand ys n)
hand-append [] ys n = refl
hand-append (x ∷ xs) ys n = ap (λ b. is_number n x || b) (hand-append xs ys n) ∙ sym (or_assoc (is_number n x) (in_hand xs n) (in_hand ys n))

filter-is : (t v : ThreadNo) (vs : List ThreadNo) (b : Bool) → same_thread v t ≡ b
    → filter (λ w. not (same_thread w t)) (v ∷ vs) ≡ (if b then filter (λ w. not (same_thread w t)) vs else v ∷ filter (λ w. not (same_thread w t)) vs)
filter-is t v vs true e = ap (λ c. if not c then v ∷ filter (λ w. not (same_thread w t)) vs else filter (λ w. not (same_thread w t)) vs) e
filter-is t v vs false e = ap (λ c. if not c then v ∷ filter (λ w. not (same_thread w t)) vs else filter (λ w. not (same_thread w t)) vs) e

pub hand-without : (t : ThreadNo) (hand : List ThreadNo) → in_hand (filter (λ v. not (same_thread v t)) hand) t.0 ≡ false
hand-without t [] = refl
hand-without t (v ∷ vs) = elim (same_thread v t) as (λ b. same_thread v t ≡ b → in_hand (filter (λ w. not (same_thread w t)) (v ∷ vs)) t.0 ≡ false) [
  | true ↦ λ e. ap (λ ws. in_hand ws t.0) (filter-is t v vs true e) ∙ hand-without t vs
  | false ↦ λ e. ap (λ ws. in_hand ws t.0) (filter-is t v vs false e) ∙ ap (λ b. b || in_hand (filter (λ w. not (same_thread w t)) vs) t.0) e ∙ hand-without t vs
] refl

pub hand-others : (t : ThreadNo) (hand : List ThreadNo) (n : ℕ) → n ≢ t.0 → in_hand (filter (λ v. not (same_thread v t)) hand) n ≡ in_hand hand n
hand-others t [] n ne = refl
hand-others t (v ∷ vs) n ne = elim (same_thread v t) as (λ b. same_thread v t ≡ b
    → in_hand (filter (λ w. not (same_thread w t)) (v ∷ vs)) n ≡ in_hand (v ∷ vs) n) [
      | true ↦ λ e.
          let is : v.0 ≡ t.0 = eqb-true v.0 t.0 e in
          ap (λ ws. in_hand ws n) (filter-is t v vs true e) ∙ hand-others t vs n ne
          ∙ sym (ap (λ b. b || in_hand vs n) (ne_eqb v.0 n (λ same. ne (sym same ∙ is))))
      | false ↦ λ e. ap (λ ws. in_hand ws n) (filter-is t v vs false e) ∙ ap (λ b. is_number n v || b) (hand-others t vs n ne)
    ] refl

pub hand-has : (hand : List ThreadNo) (t : ThreadNo) → Contains hand t → in_hand hand t.0 ≡ true
hand-has hand t has = any-contained (is_number t.0) t hand has (eq-eqb t.0 t.0 refl)

hand-found : (hand : List ThreadNo) (n : ℕ) → in_hand hand n ≡ true → (t : ThreadNo) × Contains hand t × (t.0 ≡ n)
hand-found hand n is = let found = any-found (is_number n) hand is in (found.0, found.1, eqb-true found.0.0 n found.2)

-- SETS that share a thread
pub share-has : (s r : List Bool) (n : ℕ) → has s n ≡ true → has r n ≡ true → share_one s r ≡ true
share-has [] r n one two = absurd cc
share-has (a ∷ s) [] n one two = absurd cc
share-has (a ∷ s) (b ∷ r) zero one two = ap (λ x. (x && b) || share_one s r) one ∙ ap (λ x. x || share_one s r) two
share-has (a ∷ s) (b ∷ r) (suc n) one two = ap (λ x. (a && b) || x) (share-has s r n one two) ∙ or-true (a && b)

and-both : (a b : Bool) → (a && b) ≡ true → (a ≡ true) × (b ≡ true)
and-both true true e = (refl, refl)
and-both true false e = absurd cc
and-both false b e = absurd cc

pub share-found : (s r : List Bool) → share_one s r ≡ true → (n : ℕ) × (has s n ≡ true) × (has r n ≡ true)
share-found [] r is = absurd cc
share-found (a ∷ s) [] is = absurd cc
share-found (a ∷ s) (b ∷ r) is = elim (a && b) as (λ c. (a && b) ≡ c → (n : ℕ) × (has (a ∷ s) n ≡ true) × (has (b ∷ r) n ≡ true)) [
  | true ↦ λ at. (zero, (and-both a b at).0, (and-both a b at).1)
  | false ↦ λ at. let rest = share-found s r (sym (ap (λ c. c || share_one s r) at) ∙ is) in (suc rest.0, rest.1, rest.2)
] refl

-- two tests that hold together are one
pub same-tests : (a b : Bool) → (a ≡ true → b ≡ true) → (b ≡ true → a ≡ true) → a ≡ b
same-tests true b one two = sym (one refl)
same-tests false true one two = two refl
same-tests false false one two = refl

-- LOCKS
pub locks-some : (locks : List Lock) (n : ℕ) → length locks ≡ n → some_lock locks ≡ nat_lt 0 n
locks-some [] n e = ap (nat_lt 0) e
locks-some (x ∷ xs) n e = sym (lt-ltb 0 n (omega (arith, e)))

-- how many processors a space can use
same-min : (n m : ℕ) → min n m ≡ usable_by n m
same-min n m = grind (arith, nat_tests)

-- THE TEST, at a moment at which all holds
module _ (set : Setting) (e : ℕ) (u : DrivenSpace) (cs : Contexts DrivenContext) (h : IsStanding set e u cs) (r : Readings)
    (k : Holds set.space r u.base.shared cs) (a : ActNo) (c : DrivenContext) (is : cs a.0 ≡ Some c) (life : Life) (there : life_of r a ≡ Some life) where
  l : HasLife set.space u.base.shared (space_at r.state set.space) (stage_of r set.space a life) c life
  l = life-here set.space r u.base.shared cs k a c life is there

  module _ (stays : is_gone (stage_of r set.space a life) ≡ false) where
    hand-is : (n : ℕ) → in_hand life.hand n ≡ has c.hand n
    hand-is n = l.hand n ∙ ap (λ b. has c.hand n || (b && is_own c.thread n)) stays ∙ or-false (has c.hand n)

    pub hand-heard : has_heard_hand r life ≡ has_hand u c
    hand-heard = ap (λ s. list_any (is_handed r s) life.hand) l.space ∙ same-tests (list_any (is_handed r set.space) life.hand) (share_one c.hand u.handed)
        (λ yes.
        let found = any-found (is_handed r set.space) life.hand yes in
        share-has c.hand u.handed found.0.0 (sym (hand-is found.0.0) ∙ hand-has life.hand found.0 found.1)
        (handed-is set e u cs h set.space r k found.0 ∙ found.2))
        (λ yes.
        let found = share-found c.hand u.handed yes in
        let t = hand-found life.hand found.0 (hand-is found.0 ∙ found.1) in
        any-contained (is_handed r set.space) t.0 life.hand t.1
        (sym (handed-is set e u cs h set.space r k t.0) ∙ ap (has u.handed) t.2 ∙ found.2))

    pub tied-is : is_tied life ≡ is_bound c
    tied-is = ap (λ b. b || life.cont) (locks-some life.locks c.locks l.locks) ∙ ap (λ b. nat_lt 0 c.locks || b) l.cont

    -- what the context sees of its space
    module _ (w : WorkloadView) (seen : Seen) (processors : u.base.processors ≡ w.processors) (demand : seen.demand ≡ demand_of r set.space)
        (taken : seen.taken ≡ length (taken_of r set.space)) (carries : carried_by r life ≡ c.thread) where
      pub hint-is : is_hint_due w r life ≡ hints u seen c
      hint-is =
          ap (λ s. nat_lt (demand_of r s) (min w.processors (load_of r s)) || (is_none (carried_by r life) && nat_le BULK_RETURN (length (taken_of r s)))) l.space
          ∙ ap (λ d. nat_lt d (min w.processors (load_of r set.space)) || (is_none (carried_by r life) && nat_le BULK_RETURN (length (taken_of r set.space)))) (sym demand)
          ∙ ap (λ n. nat_lt seen.demand (min n (load_of r set.space)) || (is_none (carried_by r life) && nat_le BULK_RETURN (length (taken_of r set.space)))) (sym processors)
          ∙ ap (λ n. nat_lt seen.demand (min u.base.processors n) || (is_none (carried_by r life) && nat_le BULK_RETURN (length (taken_of r set.space)))) k.load
          ∙ ap (λ o. nat_lt seen.demand (min u.base.processors (loaded u.base.shared.threads)) || (is_none o && nat_le BULK_RETURN (length (taken_of r set.space)))) carries
          ∙ ap (λ n. nat_lt seen.demand (min u.base.processors (loaded u.base.shared.threads)) || (is_none c.thread && nat_le BULK_RETURN n)) (sym taken)
          ∙ ap (λ n. nat_lt seen.demand n || (is_none c.thread && nat_le BULK_RETURN seen.taken)) (same-min u.base.processors (loaded u.base.shared.threads))

      pub inside-settled : (before : Readings) (ev : Event) → is_inside_any w before ev r true life ≡ (has_hand u c || is_bound c || hints u seen c)
      inside-settled before ev =
          ap (λ b. b || is_tied life || is_hint_due w r life) hand-heard ∙ ap (λ b. has_hand u c || b || is_hint_due w r life) tied-is
          ∙ ap (λ b. has_hand u c || is_bound c || b) hint-is

    pub inside-goes : (w : WorkloadView) (before : Readings) (ev : Event) → begins_local w r ev.records ≡ false → says_idle before ev.records ≡ false
        → is_inside_any w before ev r false life ≡ (has_hand u c || is_bound c)
    inside-goes w before ev local idle =
        ap (λ b. if b then life.inside else (has_heard_hand r life || (not (says_idle before ev.records) && is_tied life))) local
        ∙ ap (λ b. has_heard_hand r life || (not b && is_tied life)) idle ∙ ap (λ b. b || is_tied life) hand-heard
        ∙ ap (λ b. has_hand u c || b) tied-is

    pub inside-idle : (w : WorkloadView) (before : Readings) (ev : Event) → begins_local w r ev.records ≡ false → says_idle before ev.records ≡ true
        → is_inside_any w before ev r false life ≡ has_hand u c
    inside-idle w before ev local idle =
        ap (λ b. if b then life.inside else (has_heard_hand r life || (not (says_idle before ev.records) && is_tied life))) local
        ∙ ap (λ b. has_heard_hand r life || (not b && is_tied life)) idle ∙ or-false (has_heard_hand r life) ∙ hand-heard
