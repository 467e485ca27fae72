use Rattle.sa_trace.specs.Reading.{read_of}
use Rattle.sa_trace.proofs.Whole.{read_of-ok, read_of-text, same_told}
use Rattle.sa_trace.proofs.laws.texts_are_read.Goals as goal

pub returns-clause-read : goal.returns-clause-read
returns-clause-read c = λ text t. (read_of-ok text t, read_of-text text t)

pub returns-clause-differ : goal.returns-clause-differ
returns-clause-differ c = λ text t u one other. same_told t u (read_of text) (read_of-text text t one) (read_of-text text u other)
