use Rattle.std.proofs.Common.{List, subst, sym}
use Rattle.sa_base.specs.declared.number.ProcNo.{ProcNo}
use Rattle.sa_workload.specs.Position.{AtTurn}
use Rattle.sa_workload.specs.Next.{step}
use Rattle.sa_workload.specs.Stage.{machine_of, position_of, Gives}
use Rattle.sa_workload.proofs.stage.Reader.step_evict.Goals as goal

-- a line that is no eviction is as a turn or the end after no turns
pub returns : goal.returns
returns c =
    rw (sym c.if-is.ensures)
    (subst
    (λ (turns : List ProcNo).
    Gives (step (AtTurn (machine_of c.args.self.now.header) c.args.self.now.spaces.items c.args.self.now.evictions.items turns) c.args.word.now c.args.numbers.now)
    (position_of c.step_turn.new.self) c.step_turn.result)
    c.new.ensures.items c.step_turn.ensures)
