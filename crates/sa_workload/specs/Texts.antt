-- An input of two texts: a workload text up to its first line that is `close`, and directly after it another text.
use Rattle.std.specs.Prelude.{ℕ, ◌==◌, List, [], ◌∷◌, ◌++◌, length, drop, codes, if◌then◌else◌}
use Rattle.std.specs.Str.{bytes_eq}

-- the bytes through the first line that is `close`, where these bytes of the line came before; all bytes where there is no such line
abbrev pub through_close : List ℕ → List ℕ → List ℕ
through_close line [] = []
through_close line (b ∷ bs) =
    b ∷ (if b == 10 then (if bytes_eq line (codes "close") then [] else through_close [] bs) else through_close (line ++ b ∷ []) bs)

-- the two texts
abbrev pub workload_part : List ℕ → List ℕ
workload_part input = through_close [] input

abbrev pub second_part : List ℕ → List ℕ
second_part input = drop (length (workload_part input)) input
