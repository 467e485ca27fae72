-- The replay of a trace: the workload, the abstract machine's state, and what the last instruction roused.
use Rattle.std.specs.Prelude.{List, [], slice_index_or}
use Rattle.sa_base.specs.declared.number.ProcNo.{ProcNo}
use Rattle.sa_base.specs.declared.number.SpaceNo.{SpaceNo}
use Rattle.sa_base.specs.declared.number.ThreadNo.{ThreadNo}
use Rattle.sa_base.specs.declared.record.Record.{Record}
use Rattle.sa_base.specs.declared.record.Record.TheVariants.{Ins}
use Rattle.sa_instr.specs.declared.instr.Instr.{Instr}
use Rattle.sa_spaces.specs.Workload.{WorkloadView}
use Rattle.sa_laws.specs.State.{State, opening_state, space_def, thread_at, with_space}
use Rattle.sa_laws.specs.Machine.{changed, next_effect}

pub record Replayed : Type 0 where
  pub workload : WorkloadView
  pub state : State
  -- the threads that the last record's instruction forked or woke, in order
  pub roused : List ThreadNo

-- before any record
abbrev pub opened : WorkloadView → Replayed
opened w = record { workload = w; state = opening_state w; roused = [] }

-- the threads that a record rouses
abbrev pub roused_by : WorkloadView → State → Record → List ThreadNo
roused_by w a (Ins s t i) = (next_effect w a s t).roused
roused_by w a _ = []

-- after a record of processor p
abbrev pub after : ProcNo → Replayed → Record → Replayed
after p r x = record {
  workload = r.workload;
  state = changed r.workload p r.state x;
  roused = roused_by r.workload r.state x;
}

-- after the next instruction of a thread
abbrev pub gone : Replayed → SpaceNo → ThreadNo → Replayed
gone r s t =
    let done = next_effect r.workload r.state s t in
    record { workload = r.workload; state = with_space r.state s done.space; roused = done.roused }

-- the program of a thread, empty where it has none
abbrev pub program_of : WorkloadView → State → SpaceNo → ThreadNo → List Instr
program_of w a s t = slice_index_or (space_def w s).programs (thread_at a s t).program []
