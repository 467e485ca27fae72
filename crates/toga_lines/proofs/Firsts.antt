-- What stands before the first item that passes a test.
use Rattle.std.proofs.Common.{◌≡◌, ℕ, ◌≤◌, Bool, true, false, cond, Option, Some, None, List, length, take, position, sym, ap, arith, nat_lt, refl}
use Rattle.std.specs.List.{before_first, position_or_len}
use Rattle.std.proofs.lemmas.List.{take_all}
use Rattle.std.proofs.lemmas.Bool.Decides.{nat_tests}

same-some : (b : Bool) (n e : ℕ) → Some e ≡ cond b (Some n) None → e ≡ n
same-some true n e h = cc
same-some false n e h = cc

is-false : (b : Bool) (n : ℕ) → None ≡ cond b (Some n) None → b ≡ false
is-false true n h = cc
is-false false n h = refl

at-least : (m n : ℕ) → nat_lt m n ≡ false → n ≤ m
at-least m n h = grind (arith, nat_tests)

-- up to the first, and all where there is none
pub before-some : {X : Type 0} (p : X → Bool) (xs : List X) (e : ℕ) → Some e ≡ position p xs → take e xs ≡ before_first p xs
before-some p xs e h = ap (λ k. take k xs) (same-some (nat_lt (position_or_len p xs) (length xs)) (position_or_len p xs) e h)

pub before-none : {X : Type 0} (p : X → Bool) (xs : List X) → None ≡ position p xs → xs ≡ before_first p xs
before-none p xs h =
    sym
    (take_all (position_or_len p xs) xs
    (at-least (position_or_len p xs) (length xs) (is-false (nat_lt (position_or_len p xs) (length xs)) (position_or_len p xs) h)))
