use Rattle.std.proofs.Common.{arith}
use Rattle.sa_check_moment.specs.Seen.{seen}
use Rattle.sa_cells.specs.Change.{change_line}
use Rattle.sa_cells.proofs.Skipped.{acts-more, acts-all}
use Rattle.sa_cells.proofs.change.push_changed_acts.Goals as goal

pub loop-a-preserved : goal.loop-a-preserved
loop-a-preserved c =
    acts-more (change_line c.args.event c.args.ups.now (seen c.args.before.now.moment) (seen c.args.view.now.moment)) c.args.acts.now c.loop-a.a-index _ c.args.out.now.items c.loop-a.out.items c.push_changed_act.new.out.items
    c.loop-a-test.true c.loop-a.invariant c.in_ok-push_changed_act.ensures

pub returns : goal.returns
returns c =
    acts-all (change_line c.args.event c.args.ups.now (seen c.args.before.now.moment) (seen c.args.view.now.moment)) c.args.acts.now c.loop-a.a-index c.args.out.now.items c.loop-a.out.items (omega (arith, c.loop-a-test.false)) c.loop-a.invariant
