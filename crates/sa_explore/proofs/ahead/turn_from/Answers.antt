use Rattle.sa_keys.specs.Key.{key_of}
use Rattle.sa_explore.proofs.Aheads.{front-tried}
use Rattle.sa_explore.proofs.ahead.turn_from.Goals as goal

pub returns-in-Some-clause-tried : goal.returns-in-Some-clause-tried
returns-in-Some-clause-tried g c =
    let is = c.in-Some.ensures.is in
    front-tried g.U.UserLevel.calls g.U.Keyed.plain (key_of g.U.Keyed.value_key g.U.Keyed.context_key) c.args.workload.now c.args.turns.now c.args.at c.args.p
    c.args.ahead.now.items c.in-Some.tried c.requires.ahead is.0 is.1.0 is.1.1
