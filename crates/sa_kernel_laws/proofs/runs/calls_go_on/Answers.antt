use Rattle.sa_kernel_laws.proofs.histories.Calls.{entries-go-on, slices-go-on}
use Rattle.sa_kernel_laws.proofs.runs.calls_go_on.Goals as goal

pub returns-clause-entries : goal.returns-clause-entries
returns-clause-entries g c = entries-go-on g.row.C.Denot

pub returns-clause-slices : goal.returns-clause-slices
returns-clause-slices g c = slices-go-on g.row.C.Denot
