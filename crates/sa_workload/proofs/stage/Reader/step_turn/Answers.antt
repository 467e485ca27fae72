use Rattle.std.proofs.Common.{List, Ok, ap, sym, refl}
use Rattle.sa_base.specs.declared.number.ProcNo.{ProcNo}
use Rattle.sa_workload.specs.Position.{AtTurn}
use Rattle.sa_workload.specs.Stage.{machine_of}
use Rattle.sa_workload.proofs.stage.Reader.step_turn.Goals as goal

pub returns-in_ok-push : goal.returns-in_ok-push
returns-in_ok-push c =
    rw (sym c.if-is.ensures)
    (ap (λ (turns : List ProcNo). Ok (AtTurn (machine_of c.args.self.now.header) c.args.self.now.spaces.items c.args.self.now.evictions.items turns))
    (sym c.in_ok-push.ensures.items))

pub returns-else-is : goal.returns-else-is
returns-else-is c = rw (sym c.if-is.ensures) refl
