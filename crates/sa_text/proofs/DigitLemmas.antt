-- Digits, read one by one.
use Rattle.std.proofs.Common.{◌≡◌, ℕ, ◌+◌, ◌*◌, ◌^◌, ◌<◌, ◌≤◌, List, [], ◌∷◌, length, take, get_or, None, arith}
use Rattle.std.specs.Int.{IsInRange}
use Rattle.std.specs.Str.Parse.{AllDigits, digits_value}
use Rattle.std.proofs.lemmas.Int.Digits.{digits_more, digits_value_more}
use Rattle.std.proofs.lemmas.Str.{digit_value_digit}
use Rattle.std.proofs.lemmas.Str.Parse.{digit_at, digits_value-take-le}
use Rattle.sa_text.specs.Number.{BeginsNumber, ReadsDigits}

-- one digit more
pub digit-value : (bytes : List ℕ) (i n : ℕ) → i < length bytes → IsInRange 48 57 (get_or bytes i 0) → n ≡ digits_value 10 (take i bytes)
    → n * 10 + get_or bytes i 0 ≡ digits_value 10 (take (i + 1) bytes) + 48
digit-value bytes i n within digit is =
    let more = digits_value_more 10 bytes i within in
    let one = digit_value_digit (get_or bytes i 0) digit in
    omega (arith, more, one, is)

pub digit-more : (bytes : List ℕ) (i : ℕ) → i < length bytes → IsInRange 48 57 (get_or bytes i 0) → AllDigits 10 (take i bytes)
    → AllDigits 10 (take (i + 1) bytes)
digit-more bytes i within digit before =
    let one = digit_value_digit (get_or bytes i 0) digit in
    digits_more 10 bytes i within before (omega (arith, one, digit))

-- a byte that is no digit, or a number that becomes too large
pub refused : (bytes : List ℕ) (i n : ℕ) → i < length bytes → n ≡ digits_value 10 (take i bytes)
    → ((48 ≤ get_or bytes i 0) × (get_or bytes i 0 ≤ 57) × (n * 10 + get_or bytes i 0 < 2 ^ 64 + 48) → ⊥) → ReadsDigits bytes None
refused bytes i n within is stuck = λ h.
    let digit = digit_at bytes i h.0.1 within in
    let value = digit-value bytes i n within digit is in
    let least = digits_value-take-le 10 bytes (i + 1) (omega arith) in
    stuck (omega (arith, digit), omega (arith, digit), omega (arith, value, least, h.1))

-- what begins a number is not empty
pub begins-some : (bytes : List ℕ) → BeginsNumber bytes → 0 < length bytes
begins-some [] b = absurd (omega (arith, b.low))
begins-some (x ∷ xs) b = omega arith
