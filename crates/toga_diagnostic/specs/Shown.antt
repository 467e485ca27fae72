-- The line of an error as it is shown, and the carets below it.
use Rattle.std.specs.Prelude.{ℕ, ◌+◌, ◌-◌, ◌==◌, ◌||◌, nat_le, nat_lt, if◌then◌else◌, List, ◌++◌, length, map, take, drop, replicate, min, max, codes, decimal}
use Rattle.std.specs.List.{fold, enumerate_from}

-- how many bytes a line has without blanks and carriage returns at its end
abbrev pub longer : ℕ → ℕ → ℕ → ℕ
longer said number byte = if (byte == 32) || (byte == 9) || (byte == 13) then said else number + 1

abbrev pub length_said : List ℕ → ℕ
length_said line = fold (λ said b. longer said b.0 b.1) 0 (enumerate_from 0 line)

-- how many bytes before the first that is shown: 80 are shown, from the first one or from 40 before the column on
abbrev pub first_shown : ℕ → ℕ
first_shown column = if nat_le column 80 then 0 else column - 41

abbrev pub shown : List ℕ → ℕ → List ℕ
shown line first = take 80 (drop first (take (length_said line) line))

-- a tab as a space, and any other byte that is not printed as `?`
abbrev pub shown_byte : ℕ → ℕ
shown_byte byte = if byte == 9 then 32 else (if nat_lt byte 32 || nat_lt 126 byte then 63 else byte)

-- the number of a line in five columns or more, and a bar
unfoldable pub margin : ℕ → List ℕ
margin number = replicate (5 - length (decimal number)) 32 ++ decimal number ++ codes " | "

unfoldable pub shown_line : ℕ → ℕ → List ℕ → List ℕ
shown_line number column line = margin number ++ map shown_byte (shown line (first_shown column)) ++ codes "\n"

-- the carets below what is wrong: at least one, and none beyond what is shown
abbrev pub blanks_before : ℕ → ℕ
blanks_before column = column - 1 - first_shown column

unfoldable pub carets_text : ℕ → ℕ → List ℕ
carets_text column width =
    codes "      | " ++ replicate (blanks_before column) 32 ++ replicate (max (min width (80 - blanks_before column)) 1) 94 ++ codes "\n"
