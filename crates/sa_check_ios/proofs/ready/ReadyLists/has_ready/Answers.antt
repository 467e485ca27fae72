use Rattle.std.proofs.Common.{ap, ◌∙◌}
use Rattle.std.specs.List.{list_any}
use Rattle.std.specs.Option.{is_some}
use Rattle.sa_laws.specs.Readings.{is_in}
use Rattle.sa_check_ios.proofs.Found.{some-find}
use Rattle.sa_check_ios.proofs.ready.ReadyLists.has_ready.Goals as goal

pub returns : goal.returns
returns c =
    c.is_some.ensures ∙ ap is_some c.first_in.ensures ∙ some-find (is_in c.args.l) c.listed.result.now ∙ ap (list_any (is_in c.args.l)) c.listed.ensures
