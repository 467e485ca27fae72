-- What a clause sees of a reader or a writer of std's that is used as a source or a sink.
use Rattle.std.specs.Prelude.{ℕ}

-- std's object, and how many calls failed
pub record Adapted (X : Type 0) : Type 0 where
  pub inner : X
  pub faults : ℕ
