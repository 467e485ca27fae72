-- Words in quotes, and lists of names.
use Rattle.std.specs.Prelude.{ℕ, ◌-◌, ◌==◌, nat_le, if◌then◌else◌, List, [], ◌∷◌, ◌++◌, length, take, codes, decimal}
use Rattle.toga_source.specs.Show.{with_numbers}

-- a word of at most 32 bytes, or its first 32 and two dots
unfoldable pub cut : List ℕ → List ℕ
cut word = if nat_le (length word) 32 then word else take 32 word ++ codes ".."

unfoldable pub quoted : List ℕ → List ℕ
quoted word = codes "`" ++ cut word ++ codes "`"

-- what is written between other words: bytes, a word in quotes, a number
unfoldable pub between : List ℕ → List ℕ → List ℕ → List ℕ
between before middle after = before ++ middle ++ after

abbrev pub around : List ℕ → List ℕ → List ℕ → List ℕ
around before word after = between before (quoted word) after

abbrev pub counted : List ℕ → ℕ → List ℕ → List ℕ
counted before n after = between before (decimal n) after

-- a name of a list, with a comma before each but the first
abbrev pub listed_name : ℕ → List ℕ → List ℕ
listed_name number name = if number == 0 then quoted name else codes ", " ++ quoted name

-- names: the first eight, and how many more there are
unfoldable pub listed : List (List ℕ) → List ℕ
listed names =
    if nat_le (length names) 8 then with_numbers listed_name names
    else with_numbers listed_name (take 8 names) ++ counted (codes " and ") (length names - 8) (codes " more")
