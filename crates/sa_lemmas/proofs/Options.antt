-- What is known of an option from a test of it, from when it is there, or from what it was mapped to; and an option that is there where two
-- numbers are equal.
use Rattle.std.proofs.Common.{◌≡◌, ℕ, true, false, Option, Some, None, is_none, is_some, option_map, refl, ap, arith}
use Rattle.std.specs.Prelude.{◌==◌, if◌then◌else◌, IsSome, SomeIff}
use Rattle.std.proofs.lemmas.Bool.Decides.{nat_tests}
use Rattle.std.proofs.lemmas.Option.{same_Some, none-some}

pub none-is : {A : Type 0} (o : Option A) → is_none o ≡ true → o ≡ None
none-is None is = refl
none-is (Some x) is = absurd (cc)

-- the same of the test that it is there: one that passes has a value, one that fails is none, and a value passes
pub some-is : {A : Type 0} (o : Option A) → is_some o ≡ true → (x : A) × (o ≡ Some x)
some-is None is = absurd (cc)
some-is (Some x) is = (x, refl)

pub not_some-is : {A : Type 0} (o : Option A) → is_some o ≡ false → o ≡ None
not_some-is None is = refl
not_some-is (Some x) is = absurd (cc)

pub is_some-at : {A : Type 0} (o : Option A) (x : A) → o ≡ Some x → is_some o ≡ true
is_some-at o x is = ap is_some is

-- what is there exactly where something holds is there where that holds
pub there-where : {A : Type 0} (o : Option A) (P : Type 0) (x : A) → SomeIff o P x → P → IsSome o
there-where None P x only holds = absurd (only holds)
there-where (Some y) P x only holds = refl

-- what an option was mapped to came from a value
pub option_map_some : {A B : Type 0} (f : A → B) (o : Option A) (y : B) → option_map f o ≡ Some y → (x : A) × (o ≡ Some x) × (f x ≡ y)
option_map_some f None y is = absurd (none-some y is)
option_map_some f (Some x) y is = (x, refl, same_Some (f x) y is)

pub right_number : {A : Type 0} (n m : ℕ) (o : Option A) → n ≡ m → o ≡ (if n == m then o else None)
right_number n m o same = grind (arith, nat_tests)

pub wrong_number : {A : Type 0} (n m : ℕ) (o : Option A) → (n ≡ m → ⊥) → (if n == m then o else None) ≡ None
wrong_number n m o apart = grind (arith, nat_tests)
