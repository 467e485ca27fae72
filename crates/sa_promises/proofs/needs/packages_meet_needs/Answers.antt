use Rattle.sa_promises.proofs.packages.Both.{tells_of, apart_of, knows_of, forms_of, announces_of}
use Rattle.sa_promises.proofs.needs.packages_meet_needs.Goals as goal

pub returns-clause-tells : goal.returns-clause-tells
returns-clause-tells c = tells_of

pub returns-clause-apart : goal.returns-clause-apart
returns-clause-apart c = apart_of

pub returns-clause-knows : goal.returns-clause-knows
returns-clause-knows c = knows_of

pub returns-clause-forms : goal.returns-clause-forms
returns-clause-forms c = forms_of

pub returns-clause-announces : goal.returns-clause-announces
returns-clause-announces c = announces_of
