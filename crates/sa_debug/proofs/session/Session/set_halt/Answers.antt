use Rattle.std.proofs.Common.{ap, arith}
use Rattle.sa_debug.specs.OverMachines.{SessionView}
use Rattle.sa_debug.proofs.Keeping.{few-processors}
use Rattle.sa_debug.proofs.session.Session.set_halt.Goals as goal

pub set-requires : goal.set-requires
set-requires g c =
    omega (
      arith,
      c.requires,
      few-processors g.U.UserLevel.calls c.self.inside.core c.args.self.now.core c.self.inside.follower c.self.invariant
          (ap (λ (v : SessionView g.row.U.Denot g.row.U-Ctx.Denot). v.core) c.self.view_is),
    )
