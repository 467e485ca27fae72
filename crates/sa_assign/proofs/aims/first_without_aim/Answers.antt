use Rattle.std.proofs.Common.{length, sym, arith, rules}
use Rattle.sa_assign.specs.Aims.{has_no_aim}
use Rattle.sa_assign.proofs.ChoiceLemmas.{least_below-found}
use Rattle.sa_assign.proofs.aims.first_without_aim.Goals as goal

pub returns-then-is_none : goal.returns-then-is_none
returns-then-is_none c =
    sym (least_below-found (length c.args.aims.now) (has_no_aim c.args.aims.now) c.loop-p.p c.loop-p.invariant (search rules) (omega arith))
