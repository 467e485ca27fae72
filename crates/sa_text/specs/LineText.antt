-- The lines of a text, as bytes.
use Rattle.std.specs.Prelude.{◌≡◌, ◌≢◌, ℕ, ◌+◌, ◌<◌, Bool, true, false, List, [], ◌∷◌, ◌++◌, length, Some, All, slice_get, ◌==◌, if◌then◌else◌}
use Rattle.std.specs.List.{flat_map, join_with_byte}

-- a line: its bytes, and whether a line feed follows them
pub record LineText : Type 0 where
  pub bytes : List ℕ
  pub ended : Bool

-- the lines with one byte more at the front of the first; where there is none, the byte is a line that is not ended
abbrev pub onto_first_line : ℕ → List LineText → List LineText
onto_first_line b [] = record { bytes = b ∷ []; ended = false } ∷ []
onto_first_line b (l ∷ ls) = record { bytes = b ∷ l.bytes; ended = l.ended } ∷ ls

-- the lines of a text: a line feed ends a line, and any other byte belongs to the first line of what begins with it
abbrev pub line_texts : List ℕ → List LineText
line_texts [] = []
line_texts (b ∷ bs) = if b == 10 then record { bytes = []; ended = true } ∷ line_texts bs else onto_first_line b (line_texts bs)

-- what a line takes of its text: its bytes, and the line feed where one follows
abbrev pub whole_line : LineText → List ℕ
whole_line l = l.bytes ++ (if l.ended then 10 ∷ [] else [])

-- a line of these words, with a space between each two, and a line feed after them
abbrev pub ended_line : List (List ℕ) → LineText
ended_line words = record { bytes = join_with_byte 32 words; ended = true }

-- no byte is a line feed
abbrev pub LacksLineFeed : List ℕ → Type 0
LacksLineFeed bytes = All (λ b. b ≢ 10) bytes

-- put together, the lines are the text; none holds a line feed; and one that no line feed follows is the last, and not empty
pub record IsLinesOf (text : List ℕ) (ls : List LineText) : Type 0 where
  pub joined : flat_map whole_line ls ≡ text
  pub apart : All (λ l. LacksLineFeed l.bytes) ls
  pub open_last : (k : ℕ) (l : LineText) → slice_get ls k ≡ Some l → l.ended ≡ false → (k + 1 ≡ length ls) × (0 < length l.bytes)
