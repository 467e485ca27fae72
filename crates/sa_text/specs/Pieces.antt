-- The pieces of a line, between its spaces.
use Rattle.std.specs.Prelude.{◌≡◌, ◌≢◌, ℕ, ◌<◌, Bool, ◌&&◌, List, [], length, All, ◌==◌, nat_lt, nat_le, slice_range, if◌then◌else◌}
use Rattle.std.specs.List.{slice_split, join_with_byte, list_all}

-- the pieces of a line: each space ends one and begins the next, so no bytes are one empty piece
abbrev pub pieces_of : List ℕ → List (List ℕ)
pieces_of bytes = slice_split (λ b. b == 32) bytes

-- the pieces of a line that ends at `end`, from the place `from` on; there are none past the line's end
abbrev pub pieces_from : List ℕ → ℕ → ℕ → List (List ℕ)
pieces_from text from end = if nat_lt end from then [] else pieces_of (slice_range text from end)

-- each byte is one of the printed ASCII characters
abbrev pub is_printed : List ℕ → Bool
is_printed bytes = list_all (λ b. nat_le 32 b && nat_le b 126) bytes

-- no byte is a space
abbrev pub LacksSpace : List ℕ → Type 0
LacksSpace bytes = All (λ b. b ≢ 32) bytes

-- with a space between each two the pieces are the line, there is at least one, and none holds a space
pub record IsPiecesOf (bytes : List ℕ) (pieces : List (List ℕ)) : Type 0 where
  pub joined : join_with_byte 32 pieces ≡ bytes
  pub some : 0 < length pieces
  pub apart : All LacksSpace pieces
