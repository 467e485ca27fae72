-- A number below 2 ^ 64 and its decimal text.
use Rattle.std.proofs.Common.{◌≡◌, ◌≢◌, ℕ, ◌^◌, ◌<◌, ◌≤◌, get_or, inl, inr, List, length, Option, Some, None, decimal, MatchOption, All, arith, sym, ◌∙◌, ap, subst}
use Rattle.std.specs.Str.Parse.{IsNumeral, AllDigits, digits_value}
use Rattle.std.proofs.lemmas.Fmt.{decimal-digits_value, decimal_is_IsNumeral, decimal_digit, first_decimal, decimal_injective}
use Rattle.std.proofs.lemmas.Str.Parse.{numerals_by_value, tells_digits, tells_by_index, digit_at, IsNumeralModel}
use Rattle.std.specs.Int.{IsInRange}
use Rattle.std.proofs.lemmas.List.Elements.{All-from_get_or, All-get_or, All-weaker}
use Rattle.std.proofs.lemmas.Bool.{cases_lt}
use Rattle.sa_text.specs.Number.{BeginsNumber, ReadsDigits, IsSpellingOf}

own : IsNumeralModel (AllDigits 10) (digits_value 10)
own = numerals_by_value _ tells_digits

length_zero : (n : ℕ) → n ≡ 0 → length (decimal n) ≡ 1
length_zero n z = rw z (ap length (decimal_digit 0 (omega arith)))

-- a decimal text begins a number
pub begins_decimal : (n : ℕ) → n < 2 ^ 64 → BeginsNumber (decimal n)
begins_decimal n h =
    let d = decimal_is_IsNumeral n h in
    let first = digit_at (decimal n) 0 d.0.1 d.0.0 in
    record {
      low = omega (arith, first);
      high = omega (arith, first);
      no_leading_zero = λ e. elim (cases_lt 0 n) [ inl p ↦ absurd (omega (arith, e, first_decimal n p h)) | inr z ↦ length_zero n (omega arith) ];
    }

-- digits that begin a number are the text of their value
pub spelled : (bytes : List ℕ) → BeginsNumber bytes → IsNumeral 10 bytes → digits_value 10 bytes < 2 ^ 64 → bytes ≡ decimal (digits_value 10 bytes)
spelled bytes b d h = sym (decimal-digits_value own bytes d.1 d.0 b.no_leading_zero h)

-- what reading digits says of the number
pub read_is : (bytes : List ℕ) (r : Option ℕ) → BeginsNumber bytes → ReadsDigits bytes r → MatchOption r ((n : ℕ) → n < 2 ^ 64
    → bytes ≢ decimal n) (λ n. (n < 2 ^ 64) × (bytes ≡ decimal n))
read_is bytes (Some x) b d =
    (omega (arith, d.1, d.0.1), spelled bytes b d.0.0 d.0.1 ∙ ap decimal (sym d.1))
read_is bytes None b d =
    λ n h e. d (subst (λ bs. IsNumeral 10 bs × (digits_value 10 bs < 2 ^ 64)) (sym e) (let w = decimal_is_IsNumeral n h in (w.0, omega (arith, w.1))))

-- bytes that begin no number are no decimal text
pub begins_no_number : (bytes : List ℕ) → (BeginsNumber bytes → ⊥) → (n : ℕ) → n < 2 ^ 64 → bytes ≢ decimal n
begins_no_number bytes other n h e = other (subst BeginsNumber (sym e) (begins_decimal n h))

-- an answer that is right gives a decimal text its number
pub read_back : (bytes : List ℕ) (r : Option ℕ) → MatchOption r ((n : ℕ) → n < 2 ^ 64
    → bytes ≢ decimal n) (λ n. (n < 2 ^ 64) × (bytes ≡ decimal n)) → (n : ℕ) → n < 2 ^ 64 → bytes ≡ decimal n → r ≡ Some n
read_back bytes (Some x) m n h e = ap Some (decimal_injective x n m.0 h (sym m.1 ∙ e))
read_back bytes None m n h e = absurd (m n h e)

-- digits of one's own words
by_place : IsNumeralModel (λ ds. (i : ℕ) → i < length ds → IsInRange 48 57 (get_or ds i 0)) (digits_value 10)
by_place = numerals_by_value _ tells_by_index

pub decimal-is_spelling : (n : ℕ) → n < 2 ^ 64 → IsSpellingOf n (decimal n)
decimal-is_spelling n h =
    let d = decimal_is_IsNumeral n h in
    record {
      some = d.0.0;
      digits = All-from_get_or (λ b. (48 ≤ b) × (b ≤ 57)) (decimal n) 0 (by_place.from (decimal n) d.0.1);
      no_leading_zero = (begins_decimal n h).no_leading_zero;
      value = d.1;
    }

pub spelling_only : (n : ℕ) (bytes : List ℕ) → n < 2 ^ 64 → IsSpellingOf n bytes → bytes ≡ decimal n
spelling_only n bytes h s =
    let digits : AllDigits 10 bytes = by_place.to bytes (λ i k. All-get_or (λ b. (48 ≤ b) × (b ≤ 57)) bytes i 0 k s.digits) in
    sym (decimal-digits_value own bytes digits s.some s.no_leading_zero (omega (arith, s.value))) ∙ ap decimal s.value

-- no byte of a decimal text is below the digits
pub decimal-lacks : (n c : ℕ) → n < 2 ^ 64 → c < 48 → All (λ b. b ≢ c) (decimal n)
decimal-lacks n c h low = All-weaker (λ b. (48 ≤ b) × (b ≤ 57)) (λ b. b ≢ c) (λ b d e. omega (arith, d.0)) (decimal n) (decimal-is_spelling n h).digits
