-- The list that the package seeks from its own one on, round, is the first open one of the history.
use Rattle.std.proofs.Common.{◌≡◌, ℕ, ◌+◌, ◌-◌, ◌≤◌, ◌<◌, ◌%◌, Bool, true, false, cond, List, [], length, Some, None, refl, sym, ap, ◌∙◌, subst, inl, inr, arith}
use Rattle.std.specs.Prelude.{nat_lt, not, ◌&&◌}
use Rattle.std.proofs.Math.Nat.{mod-eq_of_lt, add-mod_right}
use Rattle.std.proofs.lemmas.Bool.{cases_lt, lt-ltb, le-ltb}
use Rattle.std.proofs.lemmas.List.{get_or_past}
use Rattle.sa_base.specs.declared.number.ProcNo.{ProcNo}
use Rattle.sa_base.specs.declared.number.SpaceNo.{SpaceNo}
use Rattle.sa_spaces.specs.Workload.{WorkloadView}
use Rattle.sa_lists.proofs.Rounds.{sought-first, sought-none}
use Rattle.sa_lists.specs.ReadyView.{processor, list_of, is_locked, steps_round, is_open, sought}
use Rattle.sa_abstract.specs.Calls.{Contexts}
use Rattle.sa_abstract.specs.Setting.{Setting}
use Rattle.sa_package_model.specs.Stands.{IsStanding}
use Rattle.sa_package_model.specs.declared.context.Context.{Context}
use Rattle.sa_package_model.specs.declared.package.Package.{Package}
use Rattle.sa_laws.specs.Locks.{list_round, IsFirstOpen}
use Rattle.sa_laws.specs.Readings.{Readings, NoneIsOpen}
use Rattle.sa_fast_laws.specs.FastFits.{Holds}
use Rattle.sa_fast_laws.proofs.lists.LockedLists.{AreReadyAlike, opens, opens-not, none-opens}

round_below : (n p k : ℕ) → p + k < n → (p + k) % n ≡ p + k
round_below n p k less = mod-eq_of_lt less

round_past : (n p k : ℕ) → n ≤ p + k → p < n → k < n → (p + k) % n ≡ p + k - n
round_past n p k past in_p in_k =
    ap (λ m. m % n) (let m = p + k - n in let sum : p + k ≡ m + n = omega arith in sum) ∙ add-mod_right (p + k - n) n ∙ mod-eq_of_lt (omega arith)

-- that many steps round lead there, and back
there : (n p q : ℕ) → p < n → q < n → (steps_round n p q < n) × ((p + steps_round n p q) % n ≡ q)
there n p q in_p in_q = elim (cases_lt q p) [
  | inl less ↦
      let steps : steps_round n p q ≡ n - p + q = ap (λ b. cond b (n - p + q) (q - p)) (lt-ltb q p less) in (
        omega arith,
        ap (λ k. (p + k) % n) steps ∙ round_past n p (n - p + q) (omega arith) in_p (omega arith)
            ∙ (let end : p + (n - p + q) - n ≡ q = omega arith in end),
      )
  | inr more ↦
      let steps : steps_round n p q ≡ q - p = ap (λ b. cond b (n - p + q) (q - p)) (le-ltb q p more) in
      (omega arith, ap (λ k. (p + k) % n) steps ∙ round_below n p (q - p) (omega arith) ∙ (let end : p + (q - p) ≡ q = omega arith in end))
]

back : (n p k : ℕ) → p < n → k < n → ((p + k) % n < n) × (steps_round n p ((p + k) % n) ≡ k)
back n p k in_p in_k = elim (cases_lt (p + k) n) [
  | inl less ↦
      let is = round_below n p k less in (
        omega arith,
        ap (steps_round n p) is ∙ ap (λ b. cond b (n - p + (p + k)) (p + k - p)) (le-ltb (p + k) p (omega arith))
            ∙ (let end : p + k - p ≡ k = omega arith in end),
      )
  | inr past ↦
      let is = round_past n p k past in_p in_k in (
        omega arith,
        ap (steps_round n p) is ∙ ap (λ b. cond b (n - p + (p + k - n)) (p + k - n - p)) (lt-ltb (p + k - n) p (omega arith))
            ∙ (let end : n - p + (p + k - n) ≡ k = omega arith in end),
      )
]

module _ (set : Setting) (e : ℕ) (u : Package) (cs : Contexts Context) (h : IsStanding set e u cs) (s : SpaceNo) (r : Readings) (k : Holds s r u cs)
    (alike : AreReadyAlike s r u) where
  -- where no list is found, from whichever on, none is open
  pub sought-none_opens : (q : ℕ) → q < length u.shared.state.lists.lists → sought u.shared.state.lists q ≡ None → NoneIsOpen r s
  sought-none_opens q in_lists found = none-opens set e u cs h s r k alike (λ l. elim (cases_lt l (length u.shared.state.lists.lists)) [
    | inl below ↦ sought-none u.shared.state.lists q l in_lists found below
    | inr past ↦ nothing (is_locked u.shared.state.lists l) (list_of u.shared.state.lists l) (get_or_past u.shared.state.lists.lists l [] past)
  ]) where
    nothing : (b : Bool) (xs : List ℕ) → xs ≡ [] → (not b && nat_lt 0 (length xs)) ≡ false
    nothing true xs e = refl
    nothing false xs e = ap (λ (ys : List ℕ). nat_lt 0 (length ys)) e

  -- where each processor has a list, the list that is sought from its own on is the first open one
  module _ (w : WorkloadView) (many : length u.shared.state.lists.lists ≡ w.processors) (p : ProcNo) (inside : p.0 < w.processors) where
    in_lists : p.0 < length u.shared.state.lists.lists
    in_lists = omega arith

    pub sought-is_first : (l : ℕ) → sought u.shared.state.lists p.0 ≡ Some l → IsFirstOpen w r s p (processor l)
    sought-is_first l found =
        let first = sought-first u.shared.state.lists p.0 l in_lists found in
        let n = length u.shared.state.lists.lists in
        let round = there n p.0 l in_lists first.inside in
        record {
          steps = steps_round n p.0 l;
          within = let less = round.0 in omega arith;
          list = ap (λ m. record { 0 = m }) (sym round.1 ∙ ap (λ m. (p.0 + steps_round n p.0 l) % m) many);
          opens = opens set e u cs h s r k alike (processor l) first.here;
          first = λ j less opened.
              let here = back n p.0 j in_lists (let all = round.0 in omega arith) in
              let same : (p.0 + j) % n ≡ (p.0 + j) % w.processors = ap (λ m. (p.0 + j) % m) many in
              opens-not set e u cs h s r k alike (list_round w p j)
              (subst (λ m. is_open u.shared.state.lists m ≡ false) same (first.before ((p.0 + j) % n) here.0 (let steps = here.1 in omega arith))) opened;
        }
