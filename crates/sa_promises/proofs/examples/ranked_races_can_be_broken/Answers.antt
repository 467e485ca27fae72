use Rattle.sa_promises.proofs.Racing.{breaks-line_again, breaks-outranked_run, breaks-line_unasked, breaks-back_alone, breaks-pair_unserved}
use Rattle.sa_promises.proofs.examples.ranked_races_can_be_broken.Goals as goal

pub returns-clause-again : goal.returns-clause-again
returns-clause-again c = breaks-line_again

pub returns-clause-run : goal.returns-clause-run
returns-clause-run c = breaks-outranked_run

pub returns-clause-unasked : goal.returns-clause-unasked
returns-clause-unasked c = breaks-line_unasked

pub returns-clause-back : goal.returns-clause-back
returns-clause-back c = breaks-back_alone

pub returns-clause-pair : goal.returns-clause-pair
returns-clause-pair c = breaks-pair_unserved
