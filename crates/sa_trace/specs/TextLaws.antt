-- What holds of every text.
use Rattle.std.specs.Prelude.{◌≡◌, ◌≢◌, ◌↔◌, ℕ, ◌+◌, ◌-◌, ◌^◌, ◌<◌, ◌≤◌, List, length, take, Ok, Err}
use Rattle.sa_base.specs.declared.refusal.Bad.{Bad}
use Rattle.sa_text.specs.LineText.{line_texts}
use Rattle.sa_trace.specs.Reading.{Told, read_of}
use Rattle.sa_trace.specs.Text.{IsTextOf}

-- a text is read as what it tells, and what a text is read as it tells
abbrev pub TextsAreRead : Type 0
TextsAreRead = (text : List ℕ) (t : Told) → (read_of text ≡ Ok t) ↔ IsTextOf text t

-- no two traces share a text
abbrev pub TextsDiffer : Type 0
TextsDiffer = (text : List ℕ) (t u : Told) → IsTextOf text t → IsTextOf text u → t ≡ u

-- some accepted text has the lines before a line, and none has them and the line; the line may be one that is missing
-- after the last
pub record IsFirstBad (text : List ℕ) (k : ℕ) : Type 0 where
  pub counted : 1 ≤ k
  pub within : k ≤ length (line_texts text) + 1
  pub before : (other : List ℕ) × (t : Told) × IsTextOf other t × (take (k - 1) (line_texts other) ≡ take (k - 1) (line_texts text))
  pub none : (other : List ℕ) (t : Told) → IsTextOf other t → take k (line_texts other) ≢ take k (line_texts text)

-- the line that is refused is the first that no accepted text has after the lines before it
abbrev pub RefusedLinesAreFirst : Type 0
RefusedLinesAreFirst = (text : List ℕ) (bad : Bad) → length text < 2 ^ 64 → read_of text ≡ Err bad → IsFirstBad text bad.line

-- a text has one such line at most
abbrev pub FirstLinesAreOne : Type 0
FirstLinesAreOne = (text : List ℕ) (j k : ℕ) → IsFirstBad text j → IsFirstBad text k → j ≡ k
