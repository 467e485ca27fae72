use Rattle.std.proofs.Common.{Ok, ap, sym}
use Rattle.sa_workload.proofs.stage.Reader.step.Goals as goal

pub returns-in-Machine : goal.returns-in-Machine
returns-in-Machine c = rw c.in-Machine.is (c.step_machine.ensures c.args.word.now)

pub returns-in-Space : goal.returns-in-Space
returns-in-Space c = rw c.in-Space.is (ap Ok (sym c.step_space.ensures))

pub returns-in-Sem : goal.returns-in-Sem
returns-in-Sem c = rw c.in-Sem.is c.step_sem.ensures

pub returns-in-Absent : goal.returns-in-Absent
returns-in-Absent c = rw c.in-Absent.is c.step_absent.ensures

pub returns-in-Program : goal.returns-in-Program
returns-in-Program c = rw c.in-Program.is (ap Ok (sym c.step_program.ensures))

pub returns-in-Instr : goal.returns-in-Instr
returns-in-Instr c = c.step_instr.ensures

pub returns-in-Evict : goal.returns-in-Evict
returns-in-Evict c = rw c.in-Evict.is c.step_evict.ensures

pub returns-in-Turn : goal.returns-in-Turn
returns-in-Turn c = rw c.in-Turn.is c.step_turn.ensures
