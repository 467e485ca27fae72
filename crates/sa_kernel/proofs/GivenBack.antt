-- Taken activations that are given back, one by one.
use Rattle.std.proofs.Common.{◌≡◌, ℕ, ◌-◌, ◌≤◌, true, false, cond, Option, Some, None, is_some, List, [], ◌∷◌, ◌++◌, length, map, drop, get_or, slice_get, slice_set, refl, sym, ap, subst, ◌∙◌, inl, inr, arith, append_assoc}
use Rattle.std.proofs.lemmas.Bool.{cases_lt}
use Rattle.std.proofs.lemmas.List.{get_or_past, get_or-set_same, set-set}
use Rattle.sa_lemmas.proofs.ListReads.{first-rest}
use Rattle.sa_base.specs.declared.number.ActNo.{ActNo}
use Rattle.sa_base.specs.declared.number.ProcNo.{ProcNo}
use Rattle.sa_base.specs.declared.record.Item.{Item}
use Rattle.sa_base.specs.declared.record.Record.TheVariants.{GiveBack}
use Rattle.sa_base.specs.Items.{items_at}
use Rattle.sa_acts.specs.Table.{ActsView, taken_in, without, without_first, gave, gave_back}
use Rattle.sa_kernel_model.specs.Entries.{without_acts}

none-of : (xs : List ActNo) → slice_get xs 0 ≡ None → 1 ≤ length xs → ⊥
none-of [] none some = omega arith
none-of (x ∷ xs) none some = cc

pub some-left : (xs : List ActNo) (r : Option ActNo) → r ≡ slice_get xs 0 → r ≡ None → 1 ≤ length xs → ⊥
some-left xs r is none some = none-of xs (sym is ∙ none) some

pub record OneBack {C : Type 0} (v w : ActsView C) (s : ℕ) (a : ActNo) : Type 0 where
  pub acts : without_acts (taken_in w s) w.acts ≡ without_acts (taken_in v s) v.acts
  pub taken : slice_set w.taken s [] ≡ slice_set v.taken s []
  pub list : taken_in v s ≡ a ∷ taken_in w s
  pub spare : w.spare ≡ v.spare
  pub used : w.used ≤ v.used

one_back : {C : Type 0} (v : ActsView C) (s : ℕ) (a : ActNo) → slice_get (taken_in v s) 0 ≡ Some a → OneBack v (without (without_first v s) a) s a
one_back v s a first =
    let list = first-rest (taken_in v s) a first in
    let here : get_or (slice_set v.taken s (drop 1 (taken_in v s))) s [] ≡ drop 1 (taken_in v s) = elim (cases_lt s (length v.taken)) [
      | inl within ↦ get_or-set_same v.taken s (drop 1 (taken_in v s)) [] within
      | inr past ↦
          let e : taken_in v s ≡ [] = get_or_past v.taken s [] past in let f : slice_get (taken_in v s) 0 ≡ None = ap (λ xs. slice_get xs 0) e in absurd cc
    ] in
    record {
      acts = ap (λ xs. without_acts xs (without (without_first v s) a).acts) here ∙ ap (λ xs. without_acts xs v.acts) (sym list);
      taken = set-set v.taken s (drop 1 (taken_in v s)) [];
      list = list ∙ ap (λ xs. a ∷ xs) (sym here);
      spare = refl;
      used = elim (is_some (v.acts a.0)) as (λ b. cond b (v.used - 1) v.used ≤ v.used) [ true ↦ omega arith | false ↦ omega arith ];
    }

pub one-back : {C : Type 0} (v w : ActsView C) (s : ℕ) (a : ActNo) (r : Option ActNo) → r ≡ slice_get (taken_in v s) 0 → r ≡ Some a → w ≡ gave_back v s
    → OneBack v w s a
one-back v w s a r is some gives =
    let first = sym is ∙ some in
    let e : w ≡ without (without_first v s) a = gives ∙ ap (gave (without_first v s)) first in
    subst (λ x. OneBack v x s a) (sym e) (one_back v s a first)

pub items-one : (e : ℕ) (p : ProcNo) (a : ActNo) (xs ys : List ActNo) (items after : List Item) → xs ≡ a ∷ ys
    → after ≡ items ++ record { event = e; proc = p; what = GiveBack a } ∷ []
    → after ++ items_at e p (map GiveBack ys) ≡ items ++ items_at e p (map GiveBack xs)
items-one e p a xs ys items after list adds =
    ap (λ zs. zs ++ items_at e p (map GiveBack ys)) adds
    ∙ append_assoc items (record { event = e; proc = p; what = GiveBack a } ∷ []) (items_at e p (map GiveBack ys))
    ∙ ap (λ zs. items ++ items_at e p (map GiveBack zs)) (sym list)
