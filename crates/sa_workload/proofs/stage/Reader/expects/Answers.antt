use Rattle.std.proofs.Common.{◌∙◌}
use Rattle.sa_workload.proofs.calls.Calls.{of_word}
use Rattle.sa_workload.proofs.stage.Reader.expects.Goals as goal

pub returns-in-Instr : goal.returns-in-Instr
returns-in-Instr c = rw c.in-Instr.is (c.is_some.ensures ∙ of_word c.of_word.result c.args.word.now c.of_word.ensures.found c.of_word.ensures.none)
