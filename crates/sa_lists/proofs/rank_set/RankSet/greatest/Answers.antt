use Rattle.std.proofs.Common.{◌-◌, arith}
use Rattle.sa_lists.proofs.RankBits.{greatest_is}
use Rattle.sa_lists.proofs.rank_set.RankSet.greatest.Goals as goal

pub returns-then-word-ne0 : goal.returns-then-word-ne0
returns-then-word-ne0 c =
    greatest_is c.args.self.now.words (c.loop-at.at - 1) (omega arith) c.if-word-ne0.true (omega arith) (λ i behind. c.loop-at.invariant i (omega arith))
