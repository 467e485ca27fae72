use Rattle.toga_diagnostic.proofs.Times.{times-more}
use Rattle.toga_diagnostic.proofs.shown.push_times.Goals as goal

pub loop-count-preserved : goal.loop-count-preserved
loop-count-preserved c =
    times-more c.loop-count.count c.args.byte c.args.out.now.items c.loop-count.out.items c.push.new.self.items c.loop-count.invariant c.in_ok-push.ensures.items
