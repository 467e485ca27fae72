use Rattle.sa_trace_events.proofs.Plain.{plain-item, plain-record, plain-name}
use Rattle.sa_trace_events.proofs.laws.texts_are_plain.Goals as goal

pub returns-clause-lines : goal.returns-clause-lines
returns-clause-lines c = λ i fits. (plain-item i fits, plain-record i fits)

pub returns-clause-names : goal.returns-clause-names
returns-clause-names c = plain-name
