use Rattle.sa_core.specs.View.{machine}
use Rattle.sa_keys.proofs.Standings.{level-stands}
use Rattle.sa_keys.proofs.users.put_user.Goals as goal

pub put_value-requires : goal.put_value-requires
put_value-requires g c = level-stands g.U.UserLevel.stands (machine c.args.core.now) c.keeps.ensures c.args.s.0 c.user.result.now c.user.ensures
