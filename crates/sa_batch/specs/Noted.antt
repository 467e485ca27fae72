-- What a contract sees of a batch.
use Rattle.std.specs.Prelude.{ℕ, List}
use Rattle.sa_base.specs.declared.record.Note.{Note}

-- the notices that wait, the first one first, and for how many more there is room
pub record Noted : Type 0 where
  pub notes : List Note
  pub spare : ℕ
