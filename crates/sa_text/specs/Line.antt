-- Where the lines of a text are in it.
use Rattle.std.specs.Prelude.{ℕ, ◌+◌, ◌≤◌, List, [], ◌∷◌, length, drop, slice_range}
use Rattle.sa_text.specs.LineText.{LineText, line_texts, whole_line}
use Rattle.sa_text.specs.declared.line_reader.Line.{Line}

-- the places of lines that follow each other, the first of which has this number and begins here
abbrev pub placed : ℕ → ℕ → List LineText → List Line
placed number start [] = []
placed number start (l ∷ ls) =
    record { number = number; start = start; end = start + length l.bytes; ended = l.ended }
    ∷ placed (number + 1) (start + length (whole_line l)) ls

-- the lines of a text from a place on, the first of which has this number
abbrev pub lines_from : List ℕ → ℕ → ℕ → List Line
lines_from text number start = placed number start (line_texts (drop start text))

-- the lines of a text, numbered from 1
abbrev pub lines_of : List ℕ → List Line
lines_of text = placed 1 0 (line_texts text)

-- what a text holds at a line
abbrev pub text_of_line : List ℕ → Line → LineText
text_of_line text line = record { bytes = slice_range text line.start line.end; ended = line.ended }

-- where a reader of lines is: its text, the number of the next line, and the lines that are still to come
pub record LinesLeft : Type 0 where
  pub text : List ℕ
  pub number : ℕ
  pub left : List Line

-- a line lies within a text
pub record IsWithin (text : List ℕ) (line : Line) : Type 0 where
  pub forward : line.start ≤ line.end
  pub inside : line.end ≤ length text
