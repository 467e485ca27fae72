use Rattle.std.proofs.Common.{subst}
use Rattle.sa_core.specs.View.{machine}
use Rattle.sa_seat.specs.Chain.{IsLed}
use Rattle.sa_seat.specs.Lock.{HeldView}
use Rattle.sa_seat.proofs.held.Held.led.Goals as goal

pub returns : goal.returns
returns g c =
    let k = c.self.invariant in
    subst (λ (v : HeldView g.row.U.Denot g.row.U-Ctx.Denot). IsLed g.U.UserLevel.calls g.K.Named.budget g.K.Named.workload (machine v.core)) c.self.view_is
    record { moves = k.moves; chain = k.chain }
