-- After a key is put into the map, it has its number, and the other keys have theirs.
use Rattle.std.proofs.Common.{◌≡◌, ℕ, Bool, true, false, if◌then◌else◌, List, Option, Some, refl, sym, subst, ◌∙◌}
use Rattle.std.proofs.Math.Path.{fun_ext}
use Rattle.std.specs.Prelude.{Vec, nat_eq}
use Rattle.std.specs.Str.{bytes_eq}
use Rattle.std.specs.Cmp.Lexicographic.{pointwise, bytes_decides, nat_list_eq_equiv}
use Rattle.std.specs.HashMap.{HashMap, get_by, Updates}
use Rattle.std.specs.Map.{lookup, KeepsOthers, IsKeyTest, AreApart}

apart : (xs ys zs : List ℕ) → bytes_eq xs ys ≡ false → bytes_eq xs zs ≡ true → bytes_eq ys zs ≡ false
apart xs ys zs apart_is same_is = nat_list_eq_equiv.symm ys zs ∙ sym (nat_list_eq_equiv.congr xs zs ys same_is) ∙ apart_is

abbrev pub same_items : {A : Type 0} → Vec ℕ A → Vec ℕ A → Bool
same_items x y = pointwise nat_eq x.items y.items

others-kept : {A : Type 0} (test : Vec ℕ A → Bool) (old new : List (Vec ℕ A × ℕ)) → KeepsOthers same_items test old new → (other : Vec ℕ A → Bool)
    → IsKeyTest same_items other → AreApart test other → lookup other new ≡ lookup other old
unfolding KeepsOthers
others-kept test old new keeps = keeps

module _ {A S : Type 0} where
  pub number-after : (m n : HashMap (Vec ℕ A) ℕ S) (key : Vec ℕ A) (v : ℕ) → Updates same_items m n key (Some v) → (bytes : List ℕ)
      → get_by (λ k. bytes_eq bytes k.items) n ≡ (if bytes_eq key.items bytes then Some v else get_by (λ k. bytes_eq bytes k.items) m)
  number-after m n key v updates bytes = go (bytes_eq key.items bytes) refl
    where
      go : (b : Bool) → bytes_eq key.items bytes ≡ b
          → get_by (λ k. bytes_eq bytes k.items) n ≡ (if b then Some v else get_by (λ k. bytes_eq bytes k.items) m)
      go true same_is = subst (λ (xs : List ℕ). get_by (λ k. bytes_eq xs k.items) n ≡ Some v) ((bytes_decides key.items bytes).0 same_is) updates.1
      go false apart_is =
          others-kept (same_items key) m.entries n.entries updates.3 (λ k. bytes_eq bytes k.items)
          (λ x y. nat_list_eq_equiv.congr bytes x.items y.items) (λ k. apart key.items bytes k.items apart_is)

  pub numbers-after : (m n : HashMap (Vec ℕ A) ℕ S) (key : Vec ℕ A) (v : ℕ) → Updates same_items m n key (Some v)
      → (let after : List ℕ → Option ℕ = λ bytes. get_by (λ k. bytes_eq bytes k.items) n in
      let put : List ℕ → Option ℕ = λ bytes. if bytes_eq key.items bytes then Some v else get_by (λ k. bytes_eq bytes k.items) m in
      after ≡ put)
  numbers-after m n key v updates = fun_ext (number-after m n key v updates)
