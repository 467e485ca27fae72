-- Bytes that are not decided are few.
use Rattle.std.proofs.Common.{◌≡◌, ℕ, ◌+◌, ◌≤◌, List, [], ◌∷◌, length, Bool, true, false, refl, sym, ap, arith}
use Rattle.std.proofs.lemmas.Bool.{false≢true}
use Rattle.std.proofs.lemmas.Bool.Decides.{nat_tests}
use Rattle.std.specs.Prelude.{◌==◌, ◌&&◌, nat_le, Result, Ok, Err, if◌then◌else◌}
use Rattle.sa_base.specs.declared.refusal.Cause.{Cause}
use Rattle.sa_base.specs.declared.refusal.Cause.TheVariants.{NotAscii, TooMany, Missing}
use Rattle.sa_lines_in.specs.declared.line.TheConstants.{LINE_LIMIT}
use Rattle.sa_lines_in.specs.Line.{line_len, len_from}
use Rattle.sa_lines_in.specs.Reading.{is_decided}

-- the first byte, by its tests
few-by : (feed long good : Bool) (seen : ℕ) (bs : List ℕ)
    → (long ≡ false → is_decided (len_from (seen + 1) bs) ≡ false → seen + 1 + length bs ≤ LINE_LIMIT)
    → is_decided (if feed then Ok seen else (if long then Err TooMany else (if good then len_from (seen + 1) bs else Err NotAscii))) ≡ false
    → seen + 1 + length bs ≤ LINE_LIMIT
few-by true long good seen bs rest is = absurd (false≢true (sym is))
few-by false true good seen bs rest is = absurd (false≢true (sym is))
few-by false false true seen bs rest is = rest refl is
few-by false false false seen bs rest is = absurd (false≢true (sym is))

less : (seen : ℕ) → seen ≤ LINE_LIMIT → (seen == LINE_LIMIT) ≡ false → seen + 1 ≤ LINE_LIMIT
less seen few short = grind (arith, nat_tests)

few-from : (seen : ℕ) (bytes : List ℕ) → seen ≤ LINE_LIMIT → is_decided (len_from seen bytes) ≡ false → seen + length bytes ≤ LINE_LIMIT
few-from seen [] few is = omega arith
few-from seen (b ∷ bs) few is =
    let all = few-by (b == 10) (seen == LINE_LIMIT) (nat_le 32 b && nat_le b 126) seen bs
    (λ short rest. few-from (seen + 1) bs (less seen few short) rest) is in
    omega arith

pub few-open : (bytes : List ℕ) → line_len bytes ≡ Err Missing → length bytes ≤ LINE_LIMIT
few-open bytes is = let few = few-from 0 bytes (omega arith) (ap is_decided is) in omega arith
