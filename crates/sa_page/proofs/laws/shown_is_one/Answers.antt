use Rattle.sa_page.proofs.ShownLemmas.{shown-one}
use Rattle.sa_page.proofs.laws.shown_is_one.Goals as goal

pub returns : goal.returns
returns c = shown-one
