use Rattle.std.proofs.Common.{◌≡◌, ◌<◌, ◌^◌, take}
use Rattle.std.specs.Str.Parse.{AllDigits, digits_value}
use Rattle.sa_text.proofs.number.parse_digits.Given as goal

-- the number so far is what the digits so far write
abbrev pub invariant-loop-digit : goal.invariant-loop-digit
invariant-loop-digit l = record {
  small : l.n < 2 ^ 64;
  value : l.n ≡ digits_value 10 (take l.digit-index l.piece);
  digits : AllDigits 10 (take l.digit-index l.piece);
}
