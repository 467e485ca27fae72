-- What a contract sees of a trace.
use Rattle.std.specs.Prelude.{◌≡◌, ℕ, ◌+◌, ◌≤◌, List, length}
use Rattle.sa_base.specs.declared.record.Item.{Item}

-- the items so far, and for how many more there is room
pub record Recorded : Type 0 where
  pub items : List Item
  pub spare : ℕ

-- at most that many items more, for which there was room
pub record Adds (most : ℕ) (old new : Recorded) : Type 0 where
  pub spare : old.spare ≤ new.spare + most
  pub same : new.spare + length new.items ≡ old.spare + length old.items
