-- Sums, tests and lengths go over all I/Os, in whatever order these stand.
use Rattle.std.proofs.Common.{◌≡◌, ℕ, ◌+◌, Bool, true, ◌||◌, List, [], ◌∷◌, length, sum_by, refl, sym, ap, ◌∙◌, inl, inr, arith}
use Rattle.std.specs.List.{list_any}
use Rattle.std.proofs.lemmas.List.Sums.{sum_by-cons}
use Rattle.sa_devices.specs.Ios.{Io}
use Rattle.sa_outlook.specs.DueOrder.{put_first, in_order}
use Rattle.sa_outlook.proofs.ios.DueOrder.{order, first-le, first-gt}

sum-put : (f : Io → ℕ) (io : Io) (xs : List Io) → sum_by f (put_first io xs) ≡ f io + sum_by f xs
sum-put f io [] = sum_by-cons f io []
sum-put f io (x ∷ xs) = elim (order io.ends x.ends) [
  | inl h ↦ ap (sum_by f) (first-le io x xs h) ∙ sum_by-cons f io (x ∷ xs)
  | inr h ↦
      let e = ap (sum_by f) (first-gt io x xs h) in
      let a = sum_by-cons f x (put_first io xs) in
      let b = sum-put f io xs in
      let c = sum_by-cons f x xs in
      e ∙ (omega arith)
]

pub sum-order : (f : Io → ℕ) (ios : List Io) → sum_by f (in_order ios) ≡ sum_by f ios
sum-order f [] = refl
sum-order f (io ∷ ios) = sum-put f io (in_order ios) ∙ ap (λ (n : ℕ). f io + n) (sum-order f ios) ∙ sym (sum_by-cons f io ios)

or-swap : (a b c : Bool) → a || (b || c) ≡ b || (a || c)
or-swap true true c = refl
or-swap _ _ c = refl

any-put : (f : Io → Bool) (io : Io) (xs : List Io) → list_any f (put_first io xs) ≡ f io || list_any f xs
any-put f io [] = refl
any-put f io (x ∷ xs) = elim (order io.ends x.ends) [
  | inl h ↦ ap (list_any f) (first-le io x xs h)
  | inr h ↦
      ap (list_any f) (first-gt io x xs h)
      ∙ ap (λ (b : Bool). f x || b) (any-put f io xs) ∙ or-swap (f x) (f io) (list_any f xs)
]

pub any-order : (f : Io → Bool) (ios : List Io) → list_any f (in_order ios) ≡ list_any f ios
any-order f [] = refl
any-order f (io ∷ ios) = any-put f io (in_order ios) ∙ ap (λ (b : Bool). f io || b) (any-order f ios)

length-put : (io : Io) (xs : List Io) → length (put_first io xs) ≡ length xs + 1
length-put io [] = omega arith
length-put io (x ∷ xs) = elim (order io.ends x.ends) [
  | inl h ↦ ap (λ (ys : List Io). length ys) (first-le io x xs h) ∙ omega arith
  | inr h ↦
      let e = ap (λ (ys : List Io). length ys) (first-gt io x xs h) in
      let z = length-put io xs in
      e ∙ omega arith
]

pub length-order : (ios : List Io) → length (in_order ios) ≡ length ios
length-order [] = refl
length-order (io ∷ ios) = let z = length-put io (in_order ios) in let y = length-order ios in omega arith
