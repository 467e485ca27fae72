-- What is read in front of the lines: through the first line that is `close`.
use Rattle.std.specs.Prelude.{◌≡◌, ◌⊎◌, ℕ, ◌+◌, ◌≤◌, List, [], ◌++◌, length, take, drop, Option, Some, None, IsSome}
use Rattle.std.specs.Io.KnownBytes.{Consumes, IsAtEnd}
use Rattle.sa_workload.specs.Texts.{through_close}

-- no line of the text is `close`, and the last one goes on with whatever comes, from these bytes
abbrev pub IsOpen : (text line : List ℕ) → Type 0
IsOpen text line = (more : List ℕ) → through_close [] (text ++ more) ≡ text ++ through_close line more

-- the last line of the text is `close`, and it is the first such line, whatever comes
abbrev pub IsClosed : List ℕ → Type 0
IsClosed text = (more : List ℕ) → through_close [] (text ++ more) ≡ text

-- no line of the text is `close`, whatever comes
abbrev pub LacksClose : List ℕ → Type 0
LacksClose text = (line : List ℕ) × IsOpen text line

-- how many bytes of a piece were taken onto the text
abbrev pub TakesPiece : (before after : List ℕ) (line : ℕ) (piece : List ℕ) → Option ℕ → Type 0
TakesPiece before after line piece (Some n) = (n ≤ length piece) × (after ≡ before ++ take n piece) × IsClosed after
TakesPiece before after line piece None = (line ≤ length after) × (after ≡ before ++ piece) × IsOpen after (drop line after)

-- Bytes came from the source: the text, and what is kept behind it. The text ends with its one line that is `close`; or nothing is
-- kept, no line of it is `close`, and it is all that there is, or one byte more than the limit.
pub record ReadsFront (limit : ℕ) (before after : Option (List ℕ)) (text kept : List ℕ) : Type 0 where
  pub taken : Consumes before after (text ++ kept)
  pub few : length text ≤ limit + 1
  pub whole : IsClosed text ⊎ (LacksClose text × (kept ≡ []) × ((IsSome before → IsAtEnd after) ⊎ (length text ≡ limit + 1)))
