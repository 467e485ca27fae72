-- What a decimal spelling is made of.
use Rattle.std.specs.Prelude.{◌≡◌, ℕ, ◌^◌, ◌<◌, ◌≤◌, ◌&&◌, if◌then◌else◌, nat_lt, List, length, Option, Some, None, All, decimal, slice_index}
use Rattle.std.specs.Option.{SomeIff}
use Rattle.std.specs.Str.{bytes_eq}
use Rattle.std.specs.Str.Parse.{IsNumeral, digits_value}

-- the number of 64 bits of which the bytes are the one decimal spelling
abbrev pub number_of : List ℕ → Option ℕ
number_of bytes =
    let n = digits_value 10 bytes in if nat_lt n (2 ^ 64) && bytes_eq bytes (decimal n) then Some n else None

-- the first byte is a digit, and `0` only where it is alone
pub record BeginsNumber (bytes : List ℕ) : Type 0 where
  pub low : 48 ≤ slice_index bytes 0
  pub high : slice_index bytes 0 ≤ 57
  pub no_leading_zero : slice_index bytes 0 ≡ 48 → length bytes ≡ 1

-- bytes that spell a number: digits alone, at least one, with no leading zero, and their value is the number
pub record IsSpellingOf (n : ℕ) (bytes : List ℕ) : Type 0 where
  pub some : 0 < length bytes
  pub digits : All (λ b. (48 ≤ b) × (b ≤ 57)) bytes
  pub no_leading_zero : slice_index bytes 0 ≡ 48 → length bytes ≡ 1
  pub value : digits_value 10 bytes ≡ n

-- r is the number that the bytes write, where they are digits alone and it fits 64 bits
abbrev pub ReadsDigits : List ℕ → Option ℕ → Type 0
ReadsDigits bytes r = SomeIff r (IsNumeral 10 bytes × (digits_value 10 bytes < 2 ^ 64)) (digits_value 10 bytes)
