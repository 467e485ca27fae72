use Rattle.std.proofs.Common.{sym, subst}
use Rattle.std.specs.Prelude.{All}
use Rattle.sa_debug.specs.script.Text.{FitsCommand}
use Rattle.sa_cli.proofs.session.debug.Goals as goal

pub do_script-done-requires-clause-fit : goal.do_script-done-requires-clause-fit
do_script-done-requires-clause-fit c =
    subst (λ cs. All (FitsCommand c.args.workload) cs) (sym c.commands-in-Ok.ensures)
    ((c.scripts_are_read.ensures.read c.args.workload c.args.script.now c.in-Ok.commands c.ranges-2.ensures).0 c.in-Ok.ensures).text_of.fit
