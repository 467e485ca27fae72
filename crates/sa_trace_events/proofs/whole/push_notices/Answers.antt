use Rattle.std.proofs.Common.{arith}
use Rattle.sa_svg.proofs.Appends.{list-more, list-all}
use Rattle.sa_trace_events.specs.Events.{notice_of}
use Rattle.sa_trace_events.proofs.whole.push_notices.Goals as goal

pub loop-item-preserved : goal.loop-item-preserved
loop-item-preserved c =
    list-more notice_of c.args.items.now c.loop-item.item-index _ c.args.out.now.items
    c.loop-item.out.items c.push_notice.new.out.items c.loop-item-test.true c.loop-item.invariant c.in_ok-push_notice.ensures

pub returns : goal.returns
returns c =
    list-all notice_of c.args.items.now c.loop-item.item-index c.args.out.now.items c.loop-item.out.items
    (omega (arith, c.loop-item-test.false)) c.loop-item.invariant
