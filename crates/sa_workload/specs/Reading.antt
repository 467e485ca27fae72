-- What a text is read as: its lines in order, each from the position after those before it.
use Rattle.std.specs.Prelude.{◌≡◌, ℕ, ◌+◌, if◌then◌else◌, List, [], ◌∷◌, Option, Some, None, Result, Ok, Err, ⊤}
use Rattle.sa_base.specs.Cause.{cause_number, bad_at}
use Rattle.sa_base.specs.declared.refusal.Cause.TheVariants.{NotAscii, Missing}
use Rattle.sa_base.specs.declared.refusal.Bad.{Bad}
use Rattle.sa_base.specs.declared.refusal.Unread.{Unread}
use Rattle.sa_base.specs.declared.refusal.Unread.TheVariants.{Bad as refused, OutOfMemory}
use Rattle.sa_spaces.specs.Workload.{WorkloadView}
use Rattle.sa_text.specs.LineText.{LineText, line_texts}
use Rattle.sa_text.specs.Pieces.{pieces_of, is_printed}
use Rattle.sa_workload.specs.Position.{Position, AtVersion, closed}
use Rattle.sa_workload.specs.Next.{next}

-- the position after a line that is printed and ended
abbrev pub line_in : ℕ → Position → LineText → Result Position ℕ
line_in versions p line = if is_printed line.bytes then (if line.ended then next versions p (pieces_of line.bytes) else Err (cause_number Missing))
    else Err (cause_number NotAscii)

-- the workload, if no line is to come; else the line of this number is missing
abbrev pub or_missing : ℕ → Option WorkloadView → Result WorkloadView Bad
or_missing number (Some w) = Ok w
or_missing number None = Err (bad_at number Missing)

abbrev pub finished : ℕ → Position → Result WorkloadView Bad
finished number p = or_missing number (closed p)

-- what comes of a line: it is bad, or the others are read after it
abbrev pub after_line : ℕ → Result Position ℕ → (Position → Result WorkloadView Bad) → Result WorkloadView Bad
after_line number (Ok p) more = more p
after_line number (Err why) more = Err (record { line = number; why = why })

-- what these lines are read as from a position, where the first has this number
abbrev pub read_from : ℕ → ℕ → Position → List LineText → Result WorkloadView Bad
read_from versions number p [] = finished number p
read_from versions number p (line ∷ rest) = after_line number (line_in versions p line) (λ q. read_from versions (number + 1) q rest)

-- what a text of one of that many versions is read as
unfoldable pub read_of : ℕ → List ℕ → Result WorkloadView Bad
read_of versions bytes = read_from versions 1 AtVersion (line_texts bytes)

-- r is what the text was read as, or memory ran out
abbrev pub IsReading : Result WorkloadView Bad → Result WorkloadView Unread → Type 0
IsReading reading (Ok w) = reading ≡ Ok w
IsReading reading (Err (refused bad)) = reading ≡ Err bad
IsReading reading (Err OutOfMemory) = ⊤
