-- What local instructions that are committed at once add to the history.
use Rattle.std.specs.Prelude.{◌≡◌, ℕ, ◌+◌, ◌%◌, ◌==◌, ◌&&◌, not, false, List, [], ◌++◌, slice_get}
use Rattle.sa_base.specs.declared.number.ProcNo.{ProcNo}
use Rattle.sa_base.specs.declared.record.Record.{Record}
use Rattle.sa_base.specs.Items.{items_at, items_from}
use Rattle.sa_spaces.specs.Workload.{WorkloadView}
use Rattle.sa_abstract.specs.Calls.{Calls}
use Rattle.sa_abstract.specs.Walk.{ins_records, program_at}
use Rattle.sa_abstract.specs.declared.answer.SeatState.{SeatState}
use Rattle.sa_abstract.specs.declared.answer.SeatState.TheVariants.{Local, Away}
use Rattle.sa_core_model.specs.Machine.{Machine}
use Rattle.sa_core_model.specs.End.{local_on}
use Rattle.sa_core_model.specs.Run.{programs_in}
use Rattle.sa_core_model.specs.Turn.{committed}

-- the records of the next n instructions from where a context is
abbrev pub instructions_from : WorkloadView → ℕ → SeatState → List Record
instructions_from w n (Local space thread program pc regs) =
    ins_records space thread (program_at (programs_in (slice_get w.spaces space.0)) program) n (record { pc = pc; regs = regs })
instructions_from w n Away = []

-- a slice ends with an event of this number
abbrev pub EndsNoSlice : WorkloadView → ℕ → Type 0
EndsNoSlice w event = (not (w.slice == 0) && (event % w.slice == 0)) ≡ false

-- one event for each instruction, with its record; and after the last of them a closing, where a slice ends with it
pub record AddsInstructions {U C : Type 0} (f : Calls U C) (m : Machine U C) (p : ProcNo) (n : ℕ) : Type 0 where
  pub closing : List Record
  pub items : (committed f p n m).items
      ≡ m.items ++ (items_from (m.event + 1) p (instructions_from m.workload n (local_on f m p)) ++ items_at (m.event + n) p closing)
  pub none : EndsNoSlice m.workload (m.event + n) → closing ≡ []
