-- What is read of lines.
use Rattle.std.specs.Prelude.{◌≡◌, ◌⊎◌, Bool, true, false, ℕ, ◌+◌, List, [], ◌++◌, length, take, drop, Option, IsSome, Result, Ok, Err}
use Rattle.std.specs.Io.KnownBytes.{Consumes, IsAtEnd}
use Rattle.sa_base.specs.declared.refusal.Cause.{Cause}
use Rattle.sa_base.specs.declared.refusal.Cause.TheVariants.{Missing}
use Rattle.arrayvec.specs.ArrayVec.{ArrayVec}
use Rattle.sa_lines_in.specs.declared.reader.NoLine.{NoLine}
use Rattle.sa_lines_in.specs.declared.reader.NoLine.TheVariants.{Bad, Fault}
use Rattle.sa_lines_in.specs.Line.{line_len}

-- the line is whole, or what is there says why it is wrong: no more bytes change that
abbrev pub is_decided : Result ℕ Cause → Bool
is_decided (Err Missing) = false
is_decided _ = true

-- Some bytes came from a source: none; or some before which the line was not whole in what was kept and what had come.
abbrev pub IsNeeded : (kept got : List ℕ) → Type 0
IsNeeded kept got =
    (got ≡ []) ⊎ ((before : List ℕ) × (last : List ℕ) × (got ≡ before ++ last) × (line_len (kept ++ before) ≡ Err Missing))

-- a line was read: these bytes came, and no more than are needed; it is the line with which what is there begins, and the rest is kept
pub record ReadsLine (kept later : List ℕ) (before after : Option (List ℕ)) (line : List ℕ) : Type 0 where
  pub got : List ℕ
  pub taken : Consumes before after got
  pub needed : IsNeeded kept got
  pub len : line_len (kept ++ got) ≡ Ok (length line)
  pub is : line ≡ take (length line) (kept ++ got)
  pub rest : later ≡ drop (length line + 1) (kept ++ got)

-- no line was read for this cause: nothing more comes, or what is there is wrong
pub record LacksLine (kept later : List ℕ) (before after : Option (List ℕ)) (cause : Cause) : Type 0 where
  pub got : List ℕ
  pub taken : Consumes before after got
  pub needed : IsNeeded kept got
  pub why : line_len (kept ++ got) ≡ Err cause
  pub end : IsSome before → cause ≡ Missing → IsAtEnd after
  pub rest : later ≡ kept ++ got

-- a read failed, and these bytes had come before
pub record LosesLine (kept later : List ℕ) (before after : Option (List ℕ)) : Type 0 where
  pub got : List ℕ
  pub taken : Consumes before after got
  pub lacks : line_len (kept ++ got) ≡ Err Missing
  pub rest : later ≡ kept ++ got

abbrev pub AnswersLine : (kept later : List ℕ) (before after : Option (List ℕ)) → Result (ArrayVec ℕ) NoLine → Type 0
AnswersLine kept later before after (Ok line) = ReadsLine kept later before after line.items
AnswersLine kept later before after (Err (Bad cause)) = LacksLine kept later before after cause
AnswersLine kept later before after (Err Fault) = LosesLine kept later before after

-- one read: so many bytes came behind what was kept; where none did, the source is at its end
pub record FillsBy (kept later : List ℕ) (before after : Option (List ℕ)) (n : ℕ) : Type 0 where
  pub got : List ℕ
  pub taken : Consumes before after got
  pub count : length got ≡ n
  pub rest : later ≡ kept ++ got
  pub end : IsSome before → n ≡ 0 → IsAtEnd after
