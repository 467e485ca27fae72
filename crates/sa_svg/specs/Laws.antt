-- What holds of every text of a picture.
use Rattle.std.specs.Prelude.{◌≡◌, ℕ, Bool, true, not, ◌&&◌, ◌==◌, List}
use Rattle.std.specs.List.{list_all}
use Rattle.sa_base.specs.declared.record.Item.{Item}
use Rattle.sa_trace.specs.Text.{FitsItem}
use Rattle.sa_trace.specs.TraceText.{line_of}

-- no byte is a sign of markup: a less, a greater, an ampersand
abbrev pub is_plain_byte : ℕ → Bool
is_plain_byte b = not (b == 60) && not (b == 62) && not (b == 38)

abbrev pub is_plain : List ℕ → Bool
is_plain bytes = list_all is_plain_byte bytes

-- the lines of a trace text, which are in the titles, need no escape
abbrev pub LinesArePlain : Type 0
LinesArePlain = (i : Item) → FitsItem i → is_plain (line_of i) ≡ true
