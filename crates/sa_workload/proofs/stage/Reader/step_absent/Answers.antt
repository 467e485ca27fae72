use Rattle.std.proofs.Common.{Ok, ap, sym}
use Rattle.sa_workload.proofs.stage.Reader.step_absent.Goals as goal

pub returns : goal.returns
returns c = rw (sym c.if-is.ensures) (ap Ok (sym c.step_program.ensures))
