use Rattle.std.proofs.Common.{sym, ◌∙◌, ap}
use Rattle.std.specs.Prelude.{find}
use Rattle.sa_laws.specs.Readings.{is_in}
use Rattle.sa_check_ios.specs.Ready.{listed_at}
use Rattle.sa_check_ios.proofs.ReadyLemmas.{oldest-filter}
use Rattle.sa_check_ios.proofs.ready.ReadyLists.oldest.Goals as goal

pub returns : goal.returns
returns c = c.first_in.ensures ∙ ap (find (is_in c.args.l)) c.listed.ensures ∙ sym (oldest-filter (is_in c.args.l) (listed_at c.args.self.now c.args.s))
