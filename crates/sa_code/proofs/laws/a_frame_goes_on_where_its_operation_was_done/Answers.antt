use Rattle.sa_code.proofs.Answers.{micro-goes_on, micro-still}
use Rattle.sa_code.proofs.laws.a_frame_goes_on_where_its_operation_was_done.Goals as goal

pub returns : goal.returns
returns c = record { goes_on = micro-goes_on; still = micro-still }
