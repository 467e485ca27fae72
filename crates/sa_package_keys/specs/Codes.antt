-- Codes of values as bytes, each of which can be read back from the left.
use Rattle.std.specs.Prelude.{◌≡◌, ℕ, ◌+◌, ◌^◌, nat_lt, Bool, if◌then◌else◌, List, [], ◌∷◌, ◌++◌, length, Option, Some, None}
use Rattle.std.specs.Int.{to_le_bytes, w16, w64}
use Rattle.std.specs.List.{flat_map}
use Rattle.std.specs.Option.{option_map}
use Rattle.sa_base.specs.declared.number.SpaceNo.{SpaceNo}
use Rattle.sa_base.specs.declared.number.ThreadNo.{ThreadNo}

-- whatever follows, the code says what it is of, and where it ends
abbrev pub IsPrefixCode : {A : Type 0} → (A → List ℕ) → Type 0
IsPrefixCode {A} code = (x y : A) (r s : List ℕ) → code x ++ r ≡ code y ++ s → (x ≡ y) × (r ≡ s)

-- a number: one byte below 254; else two or eight more, the lowest first. A number of more than 64 bits, which no machine holds,
-- stands behind what is no byte.
unfoldable pub number : ℕ → List ℕ
number n =
    if nat_lt n 254 then n ∷ []
    else if nat_lt n (2 ^ 16) then 254 ∷ to_le_bytes w16 n
    else if nat_lt n (2 ^ 64) then 255 ∷ to_le_bytes w64 n
    else 256 ∷ n ∷ []

abbrev pub flag : Bool → List ℕ
flag b = (if b then 1 else 0) ∷ []

-- a number that may be missing: 0 without one, else one more
abbrev pub number_or_none : Option ℕ → List ℕ
number_or_none None = number 0
number_or_none (Some n) = number (n + 1)

abbrev pub thread_key : Option ThreadNo → List ℕ
thread_key t = number_or_none (option_map (λ n. n.0) t)

abbrev pub space_no_key : Option SpaceNo → List ℕ
space_no_key s = number_or_none (option_map (λ n. n.0) s)

abbrev pub optional : {A : Type 0} → (A → List ℕ) → Option A → List ℕ
optional code None = number 0
optional code (Some x) = number 1 ++ code x

-- a list behind its length
unfoldable pub list : {A : Type 0} → (A → List ℕ) → List A → List ℕ
list code xs = number (length xs) ++ flat_map code xs

-- a list without those at its end that pass the test
abbrev pub kept_before : {A : Type 0} → (A → Bool) → A → List A → List A
kept_before test x [] = if test x then [] else x ∷ []
kept_before test x (y ∷ ys) = x ∷ y ∷ ys

abbrev pub trimmed : {A : Type 0} → (A → Bool) → List A → List A
trimmed test [] = []
trimmed test (x ∷ xs) = kept_before test x (trimmed test xs)

-- a list whose end has one value alone, which passes the test, behind its length
unfoldable pub padded : {A : Type 0} → (A → Bool) → (A → List ℕ) → List A → List ℕ
padded test code xs = number (length xs) ++ list code (trimmed test xs)
