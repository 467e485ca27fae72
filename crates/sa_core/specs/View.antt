-- The core as its callers see it.
use Rattle.std.specs.Prelude.{◌≡◌, ℕ}
use Rattle.sa_core_model.specs.Machine.{Machine}
use Rattle.sa_machine.specs.declared.machine.MachineParts.{MachineParts}
use Rattle.sa_machine.specs.View.{machine_of}

-- what a contract sees of a core
pub record CoreView (U C : Type 0) : Type 0 where
  pub parts : MachineParts U C
  -- the number of events at which the run ends
  pub budget : ℕ
  -- for how many more events there is room
  pub spare : ℕ

-- the machine that a core's parts make up
abbrev pub machine : {U C : Type 0} → CoreView U C → Machine U C
machine v = machine_of v.parts

-- nothing has changed that a caller sees
pub record IsSame {U C : Type 0} (old new : CoreView U C) : Type 0 where
  pub machine_same : machine new ≡ machine old
  pub budget : new.budget ≡ old.budget
  pub spare : new.spare ≡ old.spare
