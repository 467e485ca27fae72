use Rattle.sa_check_ios.proofs.Soonest.{soonest-more}
use Rattle.sa_check_ios.proofs.under_way.soonest_of.Goals as goal

pub loop-io-preserved : goal.loop-io-preserved
loop-io-preserved c =
    soonest-more c.args.ios.now c.loop-io.io-index c.io-item.result c.loop-io.soonest c.nearer.result c.loop-io-test.true c.io-item.is c.nearer.ensures
    c.loop-io.invariant
