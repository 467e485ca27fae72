use Rattle.sa_trace_events.proofs.Nested.{in-owner, in-act}
use Rattle.sa_trace_events.proofs.laws.slices_are_nested.Goals as goal

pub returns-clause-owned : goal.returns-clause-owned
returns-clause-owned c = in-owner

pub returns-clause-run : goal.returns-clause-run
returns-clause-run c = in-act
