-- What is due of each space in turn.
use Rattle.std.proofs.Common.{◌≡◌, ℕ, suc, ◌+◌, ◌-◌, ◌<◌, List, [], ◌∷◌, ◌++◌, Bool, true, false, cond, Option, Some, None, map, refl, sym, ap, ◌∙◌, append_assoc, arith}
use Rattle.std.specs.Prelude.{filter, filter_map}
use Rattle.std.specs.List.{range_with_len, cons_option}
use Rattle.std.specs.Option.{option_to_list}
use Rattle.std.proofs.lemmas.List.{append-nil}
use Rattle.sa_base.specs.declared.number.SpaceNo.{SpaceNo}
use Rattle.sa_assign.specs.Aims.{space_no}

-- of n spaces, those from space s on
abbrev pub from : ℕ → ℕ → List SpaceNo
from s n = map space_no (range_with_len s (n - s))

pub from-more : (s n : ℕ) → s < n → from s n ≡ space_no s ∷ from (s + 1) n
from-more s n within = let one_less : n - s ≡ suc (n - (s + 1)) = omega arith in ap (λ k. map space_no (range_with_len s k)) one_less

pub from-first : (n : ℕ) → from 0 n ≡ map space_no (range_with_len 0 n)
from-first n = let all : n - 0 ≡ n = omega arith in ap (λ k. map space_no (range_with_len 0 k)) all

module _ {Y : Type 0} where
  -- what is taken of each that passes
  pub each-passed : (p : SpaceNo → Bool) (f : SpaceNo → Option Y) (xs : List SpaceNo) → filter_map f (filter p xs) ≡ filter_map (λ x. cond (p x) (f x) None) xs
  each-passed p f [] = refl
  each-passed p f (x ∷ xs) = go (p x) (each-passed p f xs) where
    go : (b : Bool) → filter_map f (filter p xs) ≡ filter_map (λ y. cond (p y) (f y) None) xs
        → filter_map f (cond b (x ∷ filter p xs) (filter p xs)) ≡ cons_option (cond b (f x) None) (filter_map (λ y. cond (p y) (f y) None) xs)
    go true rest = ap (cons_option (f x)) rest
    go false rest = rest

  pub each-mapped : (p : SpaceNo → Bool) (g : SpaceNo → Y) (xs : List SpaceNo) → map g (filter p xs) ≡ filter_map (λ x. cond (p x) (Some (g x)) None) xs
  each-mapped p g [] = refl
  each-mapped p g (x ∷ xs) = go (p x) (each-mapped p g xs) where
    go : (b : Bool) → map g (filter p xs) ≡ filter_map (λ y. cond (p y) (Some (g y)) None) xs
        → map g (cond b (x ∷ filter p xs) (filter p xs)) ≡ cons_option (cond b (Some (g x)) None) (filter_map (λ y. cond (p y) (Some (g y)) None) xs)
    go true rest = ap (λ ys. g x ∷ ys) rest
    go false rest = rest

  -- one space more gave what it gave
  pub one-more : (f : SpaceNo → Option Y) (s n : ℕ) (before : List Y) (o : Option Y) → s < n → o ≡ f (space_no s)
      → (before ++ option_to_list o) ++ filter_map f (from (s + 1) n) ≡ before ++ filter_map f (from s n)
  one-more f s n before o within is =
      joined o ∙ ap (λ x. before ++ cons_option x (filter_map f (from (s + 1) n))) is ∙ sym (ap (λ xs. before ++ filter_map f xs) (from-more s n within)) where
        joined : (x : Option Y) → (before ++ option_to_list x) ++ filter_map f (from (s + 1) n) ≡ before ++ cons_option x (filter_map f (from (s + 1) n))
        joined None = ap (λ xs. xs ++ filter_map f (from (s + 1) n)) (append-nil before)
        joined (Some y) = append_assoc before (y ∷ []) (filter_map f (from (s + 1) n))

  pub one-mapped : (g : SpaceNo → Y) (s n : ℕ) (before : List Y) (y : Y) → s < n → y ≡ g (space_no s)
      → (before ++ y ∷ []) ++ map g (from (s + 1) n) ≡ before ++ map g (from s n)
  one-mapped g s n before y within is =
      append_assoc before (y ∷ []) (map g (from (s + 1) n))
      ∙ ap (λ z. before ++ z ∷ map g (from (s + 1) n)) is
      ∙ sym (ap (λ xs. before ++ map g xs) (from-more s n within))
