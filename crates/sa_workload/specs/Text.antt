-- The workload text: a list of lines, each a list of words, as a function of the workload.
use Rattle.std.specs.Prelude.{◌≡◌, ℕ, ◌==◌, if◌then◌else◌, List, [], ◌∷◌, ◌++◌, length, map, codes, decimal}
use Rattle.std.specs.List.{flat_map, list_all, join_with_byte}
use Rattle.sa_base.specs.declared.number.ProcNo.{ProcNo}
use Rattle.sa_instr.specs.declared.instr.Reg.{Reg}
use Rattle.sa_instr.specs.declared.instr.Instr.{Instr}
use Rattle.sa_instr.specs.declared.operand.Operand.{Operand}
use Rattle.sa_instr.specs.declared.operand.Operand.TheVariants.{Register, Value, Place, Cell, Program, Mutex, Semaphore, Length, Page}
use Rattle.sa_instr.specs.Operation.{form_of}
use Rattle.sa_instr.specs.Parts.{parts_of}
use Rattle.sa_spaces.specs.declared.workload.Evict.{Evict}
use Rattle.sa_instr.specs.Instr.{reg_number}
use Rattle.sa_spaces.specs.Space.{SpaceView}
use Rattle.sa_spaces.specs.Workload.{WorkloadView, IsWorkload}

-- the word of a register
abbrev pub register : Reg → List ℕ
register r = codes "r" ++ decimal (reg_number r)

-- the word of an operand
abbrev pub operand_word : Operand → List ℕ
operand_word (Register r) = register r
operand_word (Value n) = decimal n
operand_word (Place place) = decimal place
operand_word (Cell cell) = decimal cell
operand_word (Program program) = decimal program
operand_word (Mutex mutex) = decimal mutex
operand_word (Semaphore semaphore) = decimal semaphore
operand_word (Length events) = decimal events
operand_word (Page page) = decimal page

-- the words of an instruction: its operation's and its operands'
abbrev pub instr_line : Instr → List (List ℕ)
instr_line i = (form_of (parts_of i).operation).word ∷ map operand_word (parts_of i).operands

-- the lines of a program: its length, and its instructions
abbrev pub program_lines : List Instr → List (List (List ℕ))
program_lines program = (codes "program" ∷ decimal (length program) ∷ []) ∷ map instr_line program

-- the first line of a space; in version 3 it has the patience too
abbrev pub space_line : ℕ → SpaceView → List (List ℕ)
space_line version s =
    codes "space" ∷ decimal s.priority ∷ decimal s.mutexes ∷ decimal (length s.sems) ∷ decimal s.cells ∷ decimal (length s.programs)
    ∷ (if version == 3 then decimal s.patience ∷ [] else [])

abbrev pub sem_line : ℕ → List (List ℕ)
sem_line start = codes "sem" ∷ decimal start ∷ []

abbrev pub absent_line : ℕ → List (List ℕ)
absent_line page = codes "absent" ∷ decimal page ∷ []

-- the lines of a space
abbrev pub space_lines : ℕ → SpaceView → List (List (List ℕ))
space_lines version s =
    space_line version s ∷ (map sem_line s.sems ++ (map absent_line s.absent ++ flat_map program_lines s.programs))

abbrev pub evict_line : Evict → List (List ℕ)
evict_line e = codes "evict" ∷ decimal e.event ∷ decimal e.space.0 ∷ decimal e.page ∷ []

abbrev pub turn_line : ProcNo → List (List ℕ)
turn_line p = codes "turn" ∷ decimal p.0 ∷ []

-- the version that a workload is written in: 3 where some space has a patience of its own, else 2 where it has a slice
abbrev pub version_of : WorkloadView → ℕ
version_of w = if list_all (λ (s : SpaceView). s.patience == 1) w.spaces then (if w.slice == 0 then 1 else 2) else 3

-- version 1 has no line for the slice
abbrev pub slice_lines : ℕ → ℕ → List (List (List ℕ))
slice_lines version slice = if version == 1 then [] else (codes "slice" ∷ decimal slice ∷ []) ∷ []

-- the lines before those of the spaces
abbrev pub machine_lines : WorkloadView → List (List (List ℕ))
machine_lines w =
    (codes "workload" ∷ decimal (version_of w) ∷ []) ∷ (codes "processors" ∷ decimal w.processors ∷ []) ∷ (codes "fetch" ∷ decimal w.fetch ∷ [])
    ∷ (slice_lines (version_of w) w.slice ++ (codes "spaces" ∷ decimal (length w.spaces) ∷ []) ∷ [])

-- the lines after those of the spaces
abbrev pub closing_lines : WorkloadView → List (List (List ℕ))
closing_lines w = map evict_line w.evictions ++ (map turn_line w.turns ++ (codes "close" ∷ []) ∷ [])

-- all lines of a workload
unfoldable pub workload_lines : WorkloadView → List (List (List ℕ))
workload_lines w = machine_lines w ++ (flat_map (space_lines (version_of w)) w.spaces ++ closing_lines w)

-- a line: its words with a space between each two, and a line feed
abbrev pub line_text : List (List ℕ) → List ℕ
line_text words = join_with_byte 32 words ++ 10 ∷ []

-- the one text of a workload
unfoldable pub text_of : WorkloadView → List ℕ
text_of w = flat_map line_text (workload_lines w)

-- the bytes are the text of the workload
pub record IsText (bytes : List ℕ) (w : WorkloadView) : Type 0 where
  pub workload : IsWorkload w
  pub text : bytes ≡ text_of w

-- the same by version 1 alone
pub record IsText1 (bytes : List ℕ) (w : WorkloadView) : Type 0 where
  pub text : IsText bytes w
  pub version : version_of w ≡ 1
