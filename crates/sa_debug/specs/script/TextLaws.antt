-- What holds of every script.
use Rattle.std.specs.Prelude.{◌≡◌, ◌≢◌, ◌↔◌, ℕ, ◌+◌, ◌-◌, ◌≤◌, List, length, take, Ok, Err}
use Rattle.sa_base.specs.declared.refusal.Bad.{Bad}
use Rattle.sa_spaces.specs.Workload.{WorkloadView, IsWorkload}
use Rattle.sa_text.specs.LineText.{line_texts}
use Rattle.sa_debug.specs.declared.script.command.DebugCommand.{DebugCommand}
use Rattle.sa_debug.specs.declared.script.TheConstants.{MAX_LINES}
use Rattle.sa_debug.specs.script.Reading.{script_of}
use Rattle.sa_debug.specs.script.Text.{IsTextOf, IsScript}

-- a text is read as the commands of which it is the script
abbrev pub ScriptsAreRead : Type 0
ScriptsAreRead =
    (w : WorkloadView) (text : List ℕ) (commands : List DebugCommand) → IsWorkload w
    → (script_of w text ≡ Ok commands) ↔ IsScript w text commands

-- no two lists of commands share a script
abbrev pub ScriptsDiffer : Type 0
ScriptsDiffer =
    (w : WorkloadView) (text : List ℕ) (one other : List DebugCommand) → IsWorkload w → IsScript w text one → IsScript w text other
    → one ≡ other

-- Some script, of any number of lines, has the lines before a line, and none has them and the line, unless the line is the
-- first that is one too many; it may be one that is missing after the last.
pub record IsFirstBad (w : WorkloadView) (text : List ℕ) (k : ℕ) : Type 0 where
  pub counted : 1 ≤ k
  pub within : k ≤ length (line_texts text) + 1
  pub few : k ≤ MAX_LINES + 1
  pub before : (other : List ℕ) × (commands : List DebugCommand) × IsTextOf w other commands
      × (take (k - 1) (line_texts other) ≡ take (k - 1) (line_texts text))
  pub none : k ≤ MAX_LINES → (other : List ℕ) (commands : List DebugCommand) → IsTextOf w other commands
      → take k (line_texts other) ≢ take k (line_texts text)

-- the line that is refused is the first bad one
abbrev pub RefusedLinesAreFirst : Type 0
RefusedLinesAreFirst =
    (w : WorkloadView) (text : List ℕ) (bad : Bad) → IsWorkload w → script_of w text ≡ Err bad → IsFirstBad w text bad.line

-- a text has one such line at most
abbrev pub FirstLinesAreOne : Type 0
FirstLinesAreOne = (w : WorkloadView) (text : List ℕ) (j k : ℕ) → IsFirstBad w text j → IsFirstBad w text k → j ≡ k
