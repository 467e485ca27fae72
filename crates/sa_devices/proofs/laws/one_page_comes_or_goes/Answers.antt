use Rattle.sa_devices.proofs.LawLemmas.{has_page-with_same, has_page-with_other, has_page-without_same, has_page-without_other}
use Rattle.sa_devices.proofs.laws.one_page_comes_or_goes.Goals as goal

pub returns-clause-comes : goal.returns-clause-comes
returns-clause-comes c = has_page-with_same

pub returns-clause-goes : goal.returns-clause-goes
returns-clause-goes c = has_page-without_same

pub returns-clause-comes_alone : goal.returns-clause-comes_alone
returns-clause-comes_alone c = has_page-with_other

pub returns-clause-goes_alone : goal.returns-clause-goes_alone
returns-clause-goes_alone c = has_page-without_other
