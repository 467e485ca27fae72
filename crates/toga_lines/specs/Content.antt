-- What of a line is said.
use Rattle.std.specs.Prelude.{ℕ, ◌-◌, ◌==◌, Bool, ◌&&◌, ◌||◌, nat_le, if◌then◌else◌, List, length, take, slice_get, Option, None, Some, true, false}
use Rattle.std.specs.List.{before_first, list_any}
use Rattle.std.specs.Option.{unwrap_or, option_map}

-- the last byte is a carriage return
abbrev pub ends_with_return : List ℕ → Bool
ends_with_return line = unwrap_or (option_map (λ b. b == 13) (slice_get line (length line - 1))) false

-- a line without the carriage return at its end
abbrev pub without_return : List ℕ → List ℕ
without_return line = if ends_with_return line then take (length line - 1) line else line

-- and without what follows from the first `#` on
abbrev pub content_of : List ℕ → List ℕ
content_of line = before_first (λ b. b == 35) (without_return line)

-- a printed ASCII character or a tab
abbrev pub is_plain : ℕ → Bool
is_plain byte = (byte == 9) || (nat_le 32 byte && nat_le byte 126)
