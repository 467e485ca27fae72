-- What a text is read as: the commands of its lines in order, of which the last ends the script.
use Rattle.std.specs.Prelude.{◌≡◌, ℕ, ◌+◌, List, [], ◌∷◌, ◌++◌, Option, Some, None, Result, Ok, Err}
use Rattle.sa_base.specs.declared.refusal.Bad.{Bad}
use Rattle.sa_base.specs.declared.refusal.Cause.{Cause}
use Rattle.sa_base.specs.declared.refusal.Cause.TheVariants.{Missing}
use Rattle.sa_base.specs.declared.refusal.Unread.{Unread}
use Rattle.sa_base.specs.Cause.{bad_at}
use Rattle.sa_spaces.specs.Workload.{WorkloadView}
use Rattle.sa_text.specs.LineText.{LineText, line_texts}
use Rattle.sa_trace.specs.Pieces.{unless}
use Rattle.sa_trace.specs.Reading.{bad_after}
use Rattle.sa_debug.specs.declared.script.command.DebugCommand.{DebugCommand}
use Rattle.sa_debug.specs.script.Line.{line_in, cause_after}

-- what comes of what a line says: it is bad, or the commands go on with one more, or it is the last
abbrev pub after_line : {A : Type 0} → ℕ → Result (Option DebugCommand) Cause → (DebugCommand → Result A Bad) → Result A Bad → Result A Bad
after_line number (Err cause) more last = Err (bad_at number cause)
after_line number (Ok (Some command)) more last = more command
after_line number (Ok None) more last = last

-- what these lines are read as, after these commands, where the first has this number
abbrev pub read_from : WorkloadView → ℕ → List DebugCommand → List LineText → Result (List DebugCommand) Bad
read_from w number commands [] = Err (bad_at number Missing)
read_from w number commands (line ∷ rest) =
    after_line number (line_in w number line) (λ command. read_from w (number + 1) (commands ++ command ∷ []) rest)
    (unless (bad_after cause_after (number + 1) rest) commands)

-- what a text is read as: the commands of a script, or the first line that is bad, from 1, and why
unfoldable pub script_of : WorkloadView → List ℕ → Result (List DebugCommand) Bad
script_of w text = read_from w 1 [] (line_texts text)

-- r is what the text was read as, or memory ran out
abbrev pub IsReading : Result (List DebugCommand) Bad → Result (List DebugCommand) Unread → Type 0
IsReading reading (Ok commands) = reading ≡ Ok commands
IsReading reading (Err (Unread.Bad bad)) = reading ≡ Err bad
IsReading reading (Err Unread.OutOfMemory) = Unit {0}
