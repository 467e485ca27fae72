use Rattle.std.proofs.Common.{length, Some}
use Rattle.sa_assign.specs.Aims.{has_no_aim, can_be_spared, is_idle_and_spared}
use Rattle.sa_assign.proofs.ChoiceLemmas.{least_below-within, greatest_below-within}
use Rattle.sa_assign.proofs.aims.choice.Goals as goal

pub returns-in-Some-clause-within : goal.returns-in-Some-clause-within
returns-in-Some-clause-within c = least_below-within (length c.args.aims.now) (has_no_aim c.args.aims.now) (Some c.in-Some.p) c.in-Some.ensures

pub returns-in-Some-first_idle-clause-within : goal.returns-in-Some-first_idle-clause-within
returns-in-Some-first_idle-clause-within c =
    least_below-within (length c.args.aims.now) (is_idle_and_spared c.args.shares.now c.args.marks.now c.args.aims.now)
    (Some c.in-Some-first_idle.p) c.in-Some-first_idle.ensures

pub returns-clause-within : goal.returns-clause-within
returns-clause-within c =
    greatest_below-within (length c.args.aims.now) (can_be_spared c.args.shares.now c.args.aims.now) c.last_to_spare.result c.last_to_spare.ensures
