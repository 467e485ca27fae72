-- Open lists.
use Rattle.std.proofs.Common.{◌≡◌, ◌↔◌, ℕ, ◌<◌, ◌==◌, Bool, inl, inr, sym, subst, ap, ◌∙◌}
use Rattle.std.specs.Prelude.{All, IsTrue}
use Rattle.std.proofs.lemmas.Bool.{cases_order, eqb-true, eq-eqb}
use Rattle.std.proofs.lemmas.List.Folds.{Any-from_list_any}
use Rattle.sa_base.specs.declared.number.ProcNo.{ProcNo}
use Rattle.sa_base.specs.declared.number.SpaceNo.{SpaceNo}
use Rattle.sa_spaces.specs.Workload.{WorkloadView}
use Rattle.sa_laws.specs.Readings.{Readings, Listed, IsLocked, IsOpen, NoneIsOpen, is_in, ready_of}
use Rattle.sa_laws.specs.Locks.{list_round, IsFirstOpen}
use Rattle.sa_laws.proofs.Numbers.{proc-by_number}

pub same-iff : (b : Bool) (l m : ProcNo) → b ≡ (l.0 == m.0) → IsTrue b ↔ (l ≡ m)
same-iff b l m e =
    (λ h. proc-by_number l m (eqb-true l.0 m.0 (sym e ∙ h)), λ same. e ∙ eq-eqb l.0 m.0 (ap (λ (x : ProcNo). x.0) same))

-- where the list of each ready thread is locked, none is open
pub none-from_each : (r : Readings) (s : SpaceNo) → All (λ (x : Listed). IsLocked r s x.list) (ready_of r s) → NoneIsOpen r s
none-from_each r s each = record {
  locked = λ l has.
      let some = Any-from_list_any (is_in l) (ready_of r s) has in
      let here : some.1.list ≡ l = proc-by_number some.1.list l (eqb-true some.1.list.0 l.0 some.4) in
      let locked : IsLocked r s some.1.list = subst (λ (x : Listed). IsLocked r s x.list) some.3 (each some.0 some.1 some.2) in
      subst (λ (m : ProcNo). IsLocked r s m) here locked;
}

-- the first open list is the one k places on, where that one is open and none before it is
pub first-iff : (w : WorkloadView) (r : Readings) (s : SpaceNo) (p l : ProcNo) (k : ℕ) → k < w.processors → IsOpen r s (list_round w p k)
    → ((j : ℕ) → j < k → IsOpen r s (list_round w p j) → ⊥) → (list_round w p k ≡ l) ↔ IsFirstOpen w r s p l
first-iff w r s p l k within opens none = (
  (λ is. record { steps = k; within = within; list = sym is; opens = subst (λ (m : ProcNo). IsOpen r s m) is opens; first = none }),
  (λ is. elim (cases_order is.steps k) [
    | inl same ↦ ap (list_round w p) (sym same) ∙ sym is.list
    | inr (inl less) ↦ absurd (none is.steps less (subst (λ (m : ProcNo). IsOpen r s m) is.list is.opens))
    | inr (inr more) ↦ absurd (is.first k more opens)
  ]),
)
