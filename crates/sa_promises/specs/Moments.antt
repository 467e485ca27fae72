-- Where an item is in its event, who runs on its processor, and what the abstract machine is then: what other
-- readings are said with.
use Rattle.std.specs.Prelude.{ℕ, ◌==◌, Bool, if◌then◌else◌, is_none, List, Option, Some, None, unwrap_or}
use Rattle.sa_base.specs.declared.number.ProcNo.{ProcNo}
use Rattle.sa_base.specs.declared.number.SpaceNo.{SpaceNo}
use Rattle.sa_base.specs.declared.number.ActNo.{ActNo}
use Rattle.sa_base.specs.declared.record.Record.{Record}
use Rattle.sa_base.specs.declared.record.Record.TheVariants.{Stop, Block, Up}
use Rattle.sa_base.specs.declared.record.Item.{Item}
use Rattle.sa_spaces.specs.Workload.{WorkloadView}
use Rattle.sa_laws.specs.State.{State, opening_state}
use Rattle.sa_laws.specs.Machine.{changed}
use Rattle.sa_promises.specs.Words.{last_said}
use Rattle.sa_promises.specs.Along.{along}

-- the record directly before in the same event, if there is one; an item is the first of its event where there is none
abbrev pub record_of_event : ℕ → Option Item → Option Record
record_of_event event None = None
record_of_event event (Some x) = if x.event == event then Some x.what else None

abbrev pub directly_before : ℕ → List Item → Option Record
directly_before event past = record_of_event event (last_said Some past)

abbrev pub is_first : ℕ → List Item → Bool
is_first event past = is_none (directly_before event past)

-- the state of the abstract machine: each record leads from one to the next, from the opening on
abbrev pub machine_by : WorkloadView → List Item → State → Item → State
machine_by w past a x = changed w x.proc a x.what

abbrev pub machine_of : WorkloadView → List Item → State
machine_of w items = along (machine_by w) (opening_state w) items

-- the running life of a processor is that of the last up there, where no stop or block comes after it there
abbrev pub run_in : Record → Option (Option ActNo)
run_in (Up s a) = Some (Some a)
run_in (Stop s t a) = Some None
run_in (Block s t a io) = Some None
run_in _ = None

abbrev pub run_said : ProcNo → Item → Option (Option ActNo)
run_said p x = if x.proc.0 == p.0 then run_in x.what else None

abbrev pub runs_on : List Item → ProcNo → Option ActNo
runs_on items p = unwrap_or (last_said (run_said p) items) None

-- the life of the last up
abbrev pub up_in : Record → Option ActNo
up_in (Up s a) = Some a
up_in _ = None

abbrev pub up_said : Item → Option ActNo
up_said x = up_in x.what

abbrev pub last_up : List Item → Option ActNo
last_up items = last_said up_said items

-- the home of a life is the space and the processor of its up
pub record Home : Type 0 where
  pub space : SpaceNo
  pub proc : ProcNo

abbrev pub home_in : ActNo → ProcNo → Record → Option Home
home_in a p (Up s b) = if b.0 == a.0 then Some (record { space = s; proc = p }) else None
home_in a p _ = None

abbrev pub home_said : ActNo → Item → Option Home
home_said a x = home_in a x.proc x.what

abbrev pub home_of : List Item → ActNo → Option Home
home_of items a = last_said (home_said a) items
