use Rattle.std.proofs.Common.{ap, arith, length}
use Rattle.std.proofs.lemmas.List.{length-take-le}
use Rattle.sa_check.proofs.choice.copy_of.Goals as goal

pub push-requires : goal.push-requires
push-requires c =
    let size = ap length c.loop-aim.invariant in
    let taken = length-take-le c.loop-aim.aim-index c.args.aims.now (omega arith) in
    omega arith
