use Rattle.std.proofs.Common.{arith}
use Rattle.sa_svg.specs.Titles.{line_if}
use Rattle.sa_svg.proofs.Appends.{list-more, list-all}
use Rattle.sa_svg.proofs.titles.push_lines.Goals as goal

pub loop-item-preserved : goal.loop-item-preserved
loop-item-preserved c =
    list-more (line_if c.args.window c.args.track) c.args.items.now c.loop-item.item-index _ c.args.out.now.items
    c.loop-item.out.items c.push_line_if.new.out.items c.loop-item-test.true c.loop-item.invariant c.in_ok-push_line_if.ensures

pub returns : goal.returns
returns c =
    list-all (line_if c.args.window c.args.track) c.args.items.now c.loop-item.item-index c.args.out.now.items c.loop-item.out.items
    (omega (arith, c.loop-item-test.false)) c.loop-item.invariant
