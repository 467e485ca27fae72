use Rattle.sa_page.proofs.PageLemmas.{page-one}
use Rattle.sa_page.proofs.laws.pages_are_one.Goals as goal

pub returns : goal.returns
returns c = page-one
