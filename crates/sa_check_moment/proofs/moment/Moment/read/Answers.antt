use Rattle.std.proofs.Common.{◌∙◌, sym}
use Rattle.sa_check_moment.specs.Seen.{seen}
use Rattle.sa_check_moment.proofs.ListedLemmas.{nothing-changed}
use Rattle.sa_check_moment.proofs.moment.Moment.read.Goals as goal

pub returns-then-changes_nothing : goal.returns-then-changes_nothing
unfolding seen
returns-then-changes_nothing c =
    c.passing.ensures ∙ nothing-changed c.args.number c.args.p c.args.what.now (seen c.args.self) (sym c.changes_nothing.ensures ∙ c.if-changes_nothing.true)
