-- What a contract sees of an assignment.
use Rattle.std.specs.Prelude.{ℕ, Bool, List, Option}
use Rattle.sa_base.specs.declared.number.SpaceNo.{SpaceNo}

-- four lists with one entry for each processor
pub record AssignView : Type 0 where
  -- the space whose activation runs there
  pub owners : List (Option SpaceNo)
  -- the space that the policy gave the processor to
  pub aims : List (Option SpaceNo)
  -- the event that raised the interrupt line, none where it is low
  pub lines : List (Option ℕ)
  -- the processor is marked idle
  pub marks : List Bool
