use Rattle.std.proofs.Common.{arith}
use Rattle.sa_lists.proofs.RankBits.{put_in, take_out}
use Rattle.sa_lists.proofs.rank_set.RankSet.put.Goals.{then-is_in, else-is_in}
use Rattle.sa_lists.proofs.rank_set.RankSet.put.Goals as goal

pub returns : goal.returns
returns c =
    let words = c.args.self.now.words in
    elim c.if-is_in.branch [
      | then-is_in w ↦ put_in words c.args.rank c.from-at.result c.if-is_in.self c.args.is_in (omega arith) c.from-at.ensures w.if-is_in.true w.self-is
      | else-is_in w ↦ take_out words c.args.rank c.from-at.result c.if-is_in.self c.args.is_in (omega arith) c.from-at.ensures w.if-is_in.false w.self-is
    ]
