-- What always holds of a core.
use Rattle.std.specs.Prelude.{ℕ, ◌≤◌}
use Rattle.sa_base.specs.declared.limits.TheConstants.{MAX_EVENTS}
use Rattle.sa_abstract.specs.Keeps.{Standing}
use Rattle.sa_core_model.specs.Standing.{IsBetween}
use Rattle.sa_machine.specs.declared.machine.MachineParts.{MachineParts}
use Rattle.sa_machine.specs.View.{machine_of}
use Rattle.sa_machine.specs.Room.{HasRoom}

-- what always holds of a core: the room is there, and all stands between two events within the budget
pub record IsKept {U C : Type 0} (stands : Standing U C) (m : MachineParts U C) (budget spare : ℕ) : Type 0 where
  pub between : IsBetween stands (machine_of m)
  pub entered : m.kernel.last ≤ m.events
  pub within : m.events ≤ budget
  pub few : budget ≤ MAX_EVENTS
  pub room : HasRoom m spare
