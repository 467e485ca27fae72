-- The line with which some bytes begin.
use Rattle.std.specs.Prelude.{ℕ, ◌+◌, ◌==◌, ◌&&◌, List, [], ◌∷◌, Result, Ok, Err, nat_le, if◌then◌else◌}
use Rattle.sa_base.specs.declared.refusal.Cause.{Cause}
use Rattle.sa_base.specs.declared.refusal.Cause.TheVariants.{NotAscii, TooMany, Missing}
use Rattle.sa_lines_in.specs.declared.line.TheConstants.{LINE_LIMIT}

-- Byte by byte from the left, where this many of the line came before: how many bytes the line has before its line feed, or the
-- first thing that is wrong with it.
abbrev pub len_from : ℕ → List ℕ → Result ℕ Cause
len_from seen [] = Err Missing
len_from seen (b ∷ bs) =
    if b == 10 then Ok seen
    else (if seen == LINE_LIMIT then Err TooMany
    else (if nat_le 32 b && nat_le b 126 then len_from (seen + 1) bs else Err NotAscii))

abbrev pub line_len : List ℕ → Result ℕ Cause
line_len bytes = len_from 0 bytes
