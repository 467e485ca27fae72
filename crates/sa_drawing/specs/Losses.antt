-- The lines of losses that may follow a trace text: a run on virtual processors ends in them.
use Rattle.std.specs.Prelude.{ℕ, ◌+◌, ◌-◌, Bool, false, ◌&&◌, ◌==◌, List, [], ◌∷◌, take, drop, codes, nat_eq, slice_range, Option, Some, None, is_some, if◌then◌else◌}
use Rattle.std.specs.List.{list_all, starts_with}
use Rattle.std.specs.Str.{bytes_eq}
use Rattle.sa_text.specs.declared.line_reader.Line.{Line}
use Rattle.sa_text.specs.Line.{lines_of}
use Rattle.sa_text.specs.Number.{number_of}
use Rattle.sa_text.specs.Pieces.{pieces_of}

-- where the first line begins that follows another one and begins with the word of a loss; the text's end where there is none
abbrev pub losses_at : List ℕ → ℕ
losses_at [] = 0
losses_at (b ∷ bs) = if b == 10 && starts_with nat_eq bs (codes "lost ") then 1 else losses_at bs + 1

-- a word spells the number
abbrev pub spells : ℕ → Option ℕ → Bool
spells n None = false
spells n (Some m) = m == n

-- the words of a loss, `lost S N`, in the line of this number from 1: S is the number of lines before it
abbrev pub is_loss_of : ℕ → List ℕ → List ℕ → List ℕ → Bool
is_loss_of number word space lost = bytes_eq word (codes "lost") && spells (number - 1) (number_of space) && is_some (number_of lost)

abbrev pub has_loss : ℕ → List (List ℕ) → Bool
has_loss number (word ∷ space ∷ lost ∷ []) = is_loss_of number word space lost
has_loss number other = false

abbrev pub is_loss : List ℕ → Line → Bool
is_loss text line = line.ended && has_loss line.number (pieces_of (slice_range text line.start line.end))

-- each line is that of a loss: of space 0, of space 1, and so on
abbrev pub are_losses : List ℕ → Bool
are_losses text = list_all (is_loss text) (lines_of text)

-- the trace text of an input: the input without the lines of losses at its end, where what follows the trace is nothing else
unfoldable pub trace_part : List ℕ → List ℕ
trace_part input = if are_losses (drop (losses_at input) input) then take (losses_at input) input else input
