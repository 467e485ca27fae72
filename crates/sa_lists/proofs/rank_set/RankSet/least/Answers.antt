use Rattle.std.proofs.Common.{arith}
use Rattle.sa_lists.proofs.RankBits.{least_is}
use Rattle.sa_lists.proofs.rank_set.RankSet.least.Goals as goal

pub returns-then-word-ne0 : goal.returns-then-word-ne0
returns-then-word-ne0 c = least_is c.args.self.now.words c.loop-at.at (omega arith) c.if-word-ne0.true (omega arith) c.loop-at.invariant
