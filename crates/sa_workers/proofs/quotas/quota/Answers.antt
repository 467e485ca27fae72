use Rattle.std.proofs.Common.{arith}
use Rattle.sa_workers.proofs.Rounds.{quota-is}
use Rattle.sa_workers.proofs.quotas.quota.Goals as goal

pub returns : goal.returns
returns c =
    let is = quota-is c.args.processors c.args.p.0 c.args.budget c.requires in
    grind (arith, is)
