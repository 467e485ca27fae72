-- The texts that are accepted: a line for each command, and a last one.
use Rattle.std.specs.Prelude.{◌≡◌, ℕ, ◌+◌, ◌<◌, ◌≤◌, List, [], ◌∷◌, ◌++◌, length, codes, decimal, All}
use Rattle.std.specs.List.{flat_map, join_with_byte}
use Rattle.sa_base.specs.declared.limits.TheConstants.{MAX_EVENTS, MAX_THREADS}
use Rattle.sa_base.specs.declared.number.SpaceNo.{SpaceNo}
use Rattle.sa_base.specs.declared.number.ThreadNo.{ThreadNo}
use Rattle.sa_instr.specs.declared.limits.TheConstants.{MAX_INSTRUCTIONS}
use Rattle.sa_spaces.specs.Workload.{WorkloadView}
use Rattle.sa_debug.specs.declared.script.command.Point.{Point}
use Rattle.sa_debug.specs.declared.script.command.DebugCommand.{DebugCommand}
use Rattle.sa_debug.specs.declared.script.command.DebugCommand.TheVariants.{Break, Clear, Halt, Go, Step, Run, Show}
use Rattle.sa_debug.specs.declared.script.TheConstants.{MAX_LINES}

-- the words of a command, with the numbers in decimal
abbrev pub thread_words : SpaceNo → ThreadNo → List (List ℕ)
thread_words s t = decimal s.0 ∷ decimal t.0 ∷ []

abbrev pub point_words : Point → List (List ℕ)
point_words x = decimal x.space.0 ∷ decimal x.thread.0 ∷ decimal x.place ∷ []

abbrev pub words_of : DebugCommand → List (List ℕ)
words_of (Break x) = codes "break" ∷ point_words x
words_of (Clear x) = codes "clear" ∷ point_words x
words_of (Halt p) = codes "halt" ∷ decimal p.0 ∷ []
words_of (Go p) = codes "go" ∷ decimal p.0 ∷ []
words_of (Step p) = codes "step" ∷ decimal p.0 ∷ []
words_of (Run n) = codes "run" ∷ decimal n ∷ []
words_of (Show s t) = codes "show" ∷ thread_words s t

abbrev pub last_words : List (List ℕ)
last_words = codes "quit" ∷ []

-- a line: the words with one space between two of them, and a line feed
abbrev pub line_of : List (List ℕ) → List ℕ
line_of words = join_with_byte 32 words ++ codes "\n"

-- the whole text
unfoldable pub script_text : List DebugCommand → List ℕ
script_text commands = flat_map (λ c. line_of (words_of c)) commands ++ line_of last_words

-- the numbers of a command are in their ranges
pub record FitsThread (w : WorkloadView) (s : SpaceNo) (t : ThreadNo) : Type 0 where
  pub space : s.0 < length w.spaces
  pub thread : t.0 < MAX_THREADS

pub record FitsPoint (w : WorkloadView) (x : Point) : Type 0 where
  pub thread : FitsThread w x.space x.thread
  pub place : x.place < MAX_INSTRUCTIONS

abbrev pub FitsCommand : WorkloadView → DebugCommand → Type 0
FitsCommand w (Break x) = FitsPoint w x
FitsCommand w (Clear x) = FitsPoint w x
FitsCommand w (Halt p) = p.0 < w.processors
FitsCommand w (Go p) = p.0 < w.processors
FitsCommand w (Step p) = p.0 < w.processors
FitsCommand w (Run n) = (1 ≤ n) × (n ≤ MAX_EVENTS)
FitsCommand w (Show s t) = FitsThread w s t

-- the script of these commands for this workload, of any number of lines
pub record IsTextOf (w : WorkloadView) (text : List ℕ) (commands : List DebugCommand) : Type 0 where
  pub printed : text ≡ script_text commands
  pub fit : All (FitsCommand w) commands

-- the script of these commands for this workload, of no more lines than there may be
pub record IsScript (w : WorkloadView) (text : List ℕ) (commands : List DebugCommand) : Type 0 where
  pub text_of : IsTextOf w text commands
  pub few : length commands + 1 ≤ MAX_LINES
