use Rattle.std.proofs.Common.{◌≡◌, arith}
use Rattle.std.specs.Int.{bit_at}
use Rattle.std.proofs.lemmas.Bool.Decides.{nat_tests}
use Rattle.std.proofs.lemmas.Nat.Bits.{bit_at_above}
use Rattle.sa_base.proofs.bits.has_bit.Goals as goal

pub returns-else-k-lt16 : goal.returns-else-k-lt16
returns-else-k-lt16 c =
    let none : bit_at c.args.bits c.args.k ≡ 0 = bit_at_above c.args.bits 16 c.args.k (omega arith) (omega arith) in
    grind (arith, nat_tests)
