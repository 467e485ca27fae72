use Rattle.std.proofs.Common.{◌≡◌, get_or, take, sym, ◌∙◌, ap, subst, arith}
use Rattle.std.proofs.lemmas.List.{take_all}
use Rattle.std.specs.Int.{IsInRange}
use Rattle.std.specs.Str.Parse.{AllDigits, digits_value}
use Rattle.sa_text.specs.Number.{ReadsDigits}
use Rattle.sa_text.proofs.DigitLemmas.{refused, digit-value, digit-more, begins-some}
use Rattle.sa_text.proofs.number.parse_digits.Goals as goal

pub returns-in_err-n : goal.returns-in_err-n
returns-in_err-n c =
    subst (ReadsDigits c.args.piece.now) (sym c.from_residual.ensures)
    (refused c.args.piece.now c.loop-digit.digit-index c.loop-digit.n c.loop-digit-test.true c.loop-digit.invariant.value (c.in_err-n.ensures))

pub loop-digit-preserved : goal.loop-digit-preserved
loop-digit-preserved c =
    let is = c.in_ok-n.ensures in
    let digit : IsInRange 48 57 (get_or c.args.piece.now c.loop-digit.digit-index 0) = (is.0.0, is.0.1) in
    let value = digit-value c.args.piece.now c.loop-digit.digit-index c.loop-digit.n c.loop-digit-test.true digit c.loop-digit.invariant.value in
    record {
      small = omega (arith, is.0.2, is.1);
      value = omega (arith, value, is.1);
      digits = digit-more c.args.piece.now c.loop-digit.digit-index c.loop-digit-test.true digit c.loop-digit.invariant.digits;
    }

pub returns : goal.returns
returns c =
    let bytes = c.args.piece.now in
    let all : take c.loop-digit.digit-index bytes ≡ bytes = take_all c.loop-digit.digit-index bytes c.loop-digit-test.false in
    let value : c.loop-digit.n ≡ digits_value 10 bytes = c.loop-digit.invariant.value ∙ ap (digits_value 10) all in
    let some = begins-some bytes c.requires in
    (((some, subst (AllDigits 10) all c.loop-digit.invariant.digits), omega (arith, value, c.loop-digit.invariant.small)), value)
