use Rattle.sa_check_moment.specs.Seen.{seen}
use Rattle.sa_check_rules.proofs.PairLemmas.{outranked-iff}
use Rattle.sa_check_rules.proofs.ranks.table.is_outranked.Goals as goal

pub returns : goal.returns
returns c =
    outranked-iff (seen c.args.moment.now).readings c.args.s c.args.p c.outranked_on.result c.is_some.result c.outranked_on.ensures c.is_some.ensures
