-- What is read of a source.
use Rattle.std.specs.Prelude.{ℕ, ◌+◌, ◌≤◌, List, length, Option, IsSome}
use Rattle.std.specs.Io.KnownBytes.{Consumes, IsAtEnd}

-- The bytes were taken from the source: all that it had, or one more than the limit. A source that does not
-- tell what it has claims nothing.
pub record ReadsInput (limit : ℕ) (before after : Option (List ℕ)) (bytes : List ℕ) : Type 0 where
  pub taken : Consumes before after bytes
  pub end : IsSome before → length bytes ≤ limit → IsAtEnd after
  pub limited : length bytes ≤ limit + 1

-- The source lost some bytes at its front, at most this many, or none.
abbrev pub LosesAtMost : ℕ → Option (List ℕ) → Option (List ℕ) → Type 0
LosesAtMost most before after = (bytes : List ℕ) × Consumes before after bytes × (length bytes ≤ most)
