use Rattle.std.proofs.Common.{sym, ◌∙◌}
use Rattle.std.proofs.lemmas.Bool.{false≢true}
use Rattle.sa_workload.proofs.fields.InstrLemmas.{no_operation}
use Rattle.sa_workload.proofs.table.operand_fields.Goals as goal

pub returns-in_default : goal.returns-in_default
returns-in_default c = absurd (false≢true (sym (no_operation c.args.word.now c.in_default.ensures.none) ∙ c.requires))
