-- A session over a machine of any user level.
use Rattle.std.specs.Prelude.{◌≡◌, ℕ, is_none, List, Bool, Option, Some, None, if◌then◌else◌}
use Rattle.sa_abstract.specs.declared.answer.SeatState.{SeatState}
use Rattle.sa_abstract.specs.declared.answer.SeatState.TheVariants.{Local, Away}
use Rattle.sa_abstract.specs.Calls.{Calls}
use Rattle.sa_kernel_model.specs.State.{line_of}
use Rattle.sa_core_model.specs.Machine.{Machine}
use Rattle.sa_core_model.specs.Run.{IsMove}
use Rattle.sa_core_model.specs.Run.Move.{turn}
use Rattle.sa_core_model.specs.End.{end_of, local_on}
use Rattle.sa_core.specs.View.{CoreView, machine}
use Rattle.sa_laws.specs.State.{opening_state}
use Rattle.sa_debug.specs.declared.script.command.Point.{Point}
use Rattle.sa_debug.specs.Order.{last_proc}
use Rattle.sa_debug.specs.Session.{Watched, Session}
use Rattle.sa_debug.specs.Views.{view_in, state_behind}

-- a context at an instruction of its thread
abbrev pub point_of : SeatState → Option Point
point_of (Local space thread program pc regs) = Some (record { space = space; thread = thread; place = pc })
point_of Away = None

module _ {U C : Type 0} (f : Calls U C) where
  abbrev pub over_machines : (budget : ℕ) → Watched (Machine U C)
  over_machines budget = record {
    processors = λ m. m.workload.processors;
    IsTurn = λ m p after. IsMove f m (turn p) after;
    HasEnded = λ m end. end_of f budget m ≡ end;
    event = λ m. m.event;
    last = λ m. last_proc m.items;
    stands = λ m p. if is_none (line_of m.kernel p) then point_of (local_on f m p) else None;
    view = λ m s t. view_in (state_behind m.workload (opening_state m.workload) m.items) s t;
  }

-- what a contract sees of a session: its core, the halts and the breakpoints
pub record SessionView (U C : Type 0) : Type 0 where
  pub core : CoreView U C
  pub halted : List Bool
  pub points : List Point

-- the session that they make up
abbrev pub session : {U C : Type 0} → SessionView U C → Session (Machine U C)
session v = record { machine = machine v.core; halted = v.halted; points = v.points }
