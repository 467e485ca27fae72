-- Which words are names and registers.
use Rattle.std.specs.Prelude.{ℕ, ◌==◌, Bool, ◌&&◌, ◌||◌, not, nat_le, nat_lt, List, length, slice_index}
use Rattle.std.specs.List.{list_all}
use Rattle.toga_lines.specs.declared.names.TheConstants.{MAX_NAME}

-- a letter or `_`
abbrev pub is_letter : ℕ → Bool
is_letter byte = (nat_le 97 byte && nat_le byte 122) || (nat_le 65 byte && nat_le byte 90) || (byte == 95)

-- a letter, a digit or `_`
abbrev pub is_name_byte : ℕ → Bool
is_name_byte byte = is_letter byte || (nat_le 48 byte && nat_le byte 57)

-- one of `r0` to `r7`
abbrev pub is_register : List ℕ → Bool
is_register word = (length word == 2) && (slice_index word 0 == 114) && nat_le 48 (slice_index word 1) && nat_le (slice_index word 1) 55

-- a letter or `_`, then letters, digits and `_`, at most 32 bytes, and no register
abbrev pub is_name : List ℕ → Bool
is_name word =
    nat_lt 0 (length word) && nat_le (length word) MAX_NAME && is_letter (slice_index word 0) && list_all is_name_byte word && not (is_register word)
