-- What is read of the parts of a run, and what records can follow.
use Rattle.std.proofs.Common.{◌≡◌, ℕ, suc, ◌-◌, ◌<◌, List, [], ◌∷◌, length, get_or, slice_get, Option, Some, None, sym, ap, subst, ◌∙◌, arith}
use Rattle.std.specs.Option.{option_map}
use Rattle.std.proofs.lemmas.Option.{same_Some}
use Rattle.std.proofs.lemmas.List.{get_or_read}
use Rattle.sa_base.specs.declared.number.ProcNo.{ProcNo}
use Rattle.sa_base.specs.declared.number.SpaceNo.{SpaceNo}
use Rattle.sa_base.specs.declared.number.ThreadNo.{ThreadNo}
use Rattle.sa_base.specs.declared.record.Record.TheVariants.{Run, Cont}
use Rattle.sa_spaces.specs.Workload.{WorkloadView}
use Rattle.sa_links.specs.Lists.{Lists}
use Rattle.sa_laws.specs.State.{State}
use Rattle.sa_replay.specs.Needs.{CanChange}
use Rattle.sa_vp_model.specs.Board.{no_lists}
use Rattle.sa_vp_model.specs.Turn.{thread}

-- the lists of a space, at a place that is its number
pub row : (rows : List Lists) (i s : ℕ) (x : Lists) → i ≡ s → s < length rows → x ≡ get_or rows i x → x ≡ get_or rows s no_lists
row rows i s x e inside is = get_or_read rows s x inside (is ∙ ap (λ k. get_or rows k x) e) no_lists

-- a thread runs, or is continued, in the same state
pub can-run : (w : WorkloadView) (p : ProcNo) (x y : State) (s r : SpaceNo) (t u : ThreadNo) → x ≡ y → s ≡ r → t ≡ u → CanChange w p y (Run r u)
    → CanChange w p x (Run s t)
can-run w p x y s r t u state space thread' can =
    subst (λ z. CanChange w p z (Run s t)) (sym state)
    (subst (λ q. CanChange w p y (Run q t)) (sym space) (subst (λ v. CanChange w p y (Run r v)) (sym thread') can))

pub can-cont : (w : WorkloadView) (p : ProcNo) (x y : State) (s r : SpaceNo) (t : ThreadNo) → x ≡ y → s ≡ r → CanChange w p y (Cont r (Some t))
    → CanChange w p x (Cont s (Some t))
can-cont w p x y s r t state space can =
    subst (λ z. CanChange w p z (Cont s (Some t))) (sym state) (subst (λ q. CanChange w p y (Cont q (Some t))) (sym space) can)

-- the thread of a number
pub of-number : (o : Option ℕ) (t : ThreadNo) → Some t ≡ option_map thread o → o ≡ Some t.0
of-number None t e = cc
of-number (Some n) t e = ap (λ (u : ThreadNo). Some u.0) (sym (same_Some _ _ e))

last_some : (x : ℕ) (xs : List ℕ) → slice_get (x ∷ xs) (length (x ∷ xs) - 1) ≡ None → ⊥
last_some x [] is = cc
last_some x (y ∷ ys) is = let same : length (x ∷ y ∷ ys) - 1 ≡ suc (length (y ∷ ys) - 1) = omega arith in
    last_some y ys (sym (ap (slice_get (x ∷ y ∷ ys)) same) ∙ is)
