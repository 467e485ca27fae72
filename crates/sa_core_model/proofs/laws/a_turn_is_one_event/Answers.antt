use Rattle.std.proofs.Common.{arith}
use Rattle.sa_core_model.proofs.Turns.{rests-turned}
use Rattle.sa_core_model.proofs.laws.a_turn_is_one_event.Goals as goal

pub returns : goal.returns
returns g c =
    let keep = (g.met.U.UserLevel g.world.𝓛 g.world.𝓜 g.world.𝓡 ((λ s x. x), (λ x. x), (λ x. x), λ x. x)).keeps in record {
      event =
          λ m p n between can unused. (rests-turned g.U.UserLevel.calls g.U.UserLevel.stands keep m p n between (let z = can.event in
          omega arith) can.within unused).event;
      workload =
          λ m p n between can unused. (rests-turned g.U.UserLevel.calls g.U.UserLevel.stands keep m p n between (let z = can.event in
          omega arith) can.within unused).workload;
    }
