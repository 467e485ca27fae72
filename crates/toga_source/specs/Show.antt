-- The text that shows a workload with the names of what it declares.
use Rattle.std.specs.Prelude.{ℕ, ◌-◌, ◌==◌, ◌%◌, if◌then◌else◌, List, [], ◌∷◌, ◌++◌, length, slice_get, codes, decimal}
use Rattle.std.specs.List.{flat_map, enumerate_from}
use Rattle.std.specs.Option.{option_map, unwrap_or}
use Rattle.sa_base.specs.declared.number.ProcNo.{ProcNo}
use Rattle.sa_instr.specs.declared.instr.Reg.{Reg}
use Rattle.sa_instr.specs.declared.instr.Instr.{Instr}
use Rattle.sa_instr.specs.declared.operand.Operand.{Operand}
use Rattle.sa_instr.specs.declared.operand.Operand.TheVariants.{Register, Value, Place, Cell, Program, Mutex, Semaphore, Length, Page}
use Rattle.sa_instr.specs.Instr.{reg_number}
use Rattle.sa_instr.specs.Operation.{form_of}
use Rattle.sa_instr.specs.Parts.{parts_of}
use Rattle.sa_spaces.specs.declared.workload.Evict.{Evict}
use Rattle.sa_spaces.specs.Space.{SpaceView}
use Rattle.sa_spaces.specs.Workload.{WorkloadView}
use Rattle.toga_source.specs.declared.names.Label.{Label}
use Rattle.toga_source.specs.declared.turns.Run.{Run}
use Rattle.toga_source.specs.Names.{ProgramView, NamesView, name_at, program_name}
use Rattle.toga_source.specs.Runs.{runs_of}

-- what is written of each item of a list with its number
abbrev pub with_numbers : {A : Type 0} → (ℕ → A → List ℕ) → List A → List ℕ
with_numbers f xs = flat_map (λ x. f x.0 x.1) (enumerate_from 0 xs)

-- a line with one number, and one that is left out where the number is the usual one
abbrev pub number_line : List ℕ → ℕ → List ℕ
number_line begins n = begins ++ codes " " ++ decimal n ++ codes "\n"

unfoldable pub unusual_line : List ℕ → ℕ → ℕ → List ℕ
unusual_line begins usual n = if n == usual then [] else number_line begins n

-- a line with one name, and one with all names where there are any
abbrev pub name_line : List ℕ → List ℕ → List ℕ
name_line begins name = begins ++ codes " " ++ name ++ codes "\n"

abbrev pub spaced : List (List ℕ) → List ℕ
spaced words = flat_map (λ w. codes " " ++ w) words

unfoldable pub names_line : List ℕ → List (List ℕ) → List ℕ
names_line begins names = if length names == 0 then [] else begins ++ spaced names ++ codes "\n"

-- the lines before the spaces
unfoldable pub machine_text : WorkloadView → List ℕ
machine_text w = number_line (codes "processors") w.processors ++ unusual_line (codes "fetch") 10 w.fetch ++ unusual_line (codes "slice") 0 w.slice

-- the line of a semaphore
abbrev pub semaphore_line : List (List ℕ) → ℕ → ℕ → List ℕ
semaphore_line names number start = codes "  semaphore " ++ name_at names number ++ codes " " ++ decimal start ++ codes "\n"

-- the line of the pages that are absent at the opening
unfoldable pub absent_line : List ℕ → List ℕ
absent_line pages = if length pages == 0 then [] else codes "  absent" ++ flat_map (λ page. codes " " ++ decimal page) pages ++ codes "\n"

-- the line of an eviction, in its space
abbrev pub evict_line : ℕ → Evict → List ℕ
evict_line space e =
    if e.space.0 == space then codes "  evict " ++ decimal e.page ++ codes " at " ++ decimal e.event ++ codes "\n" else []

-- the lines of a space before its programs
unfoldable pub space_line : NamesView → SpaceView → List ℕ
space_line names s =
    codes "\n" ++ name_line (codes "space") names.name ++ unusual_line (codes "  priority") 0 s.priority ++ unusual_line (codes "  patience") 1 s.patience

unfoldable pub kinds_text : NamesView → SpaceView → List ℕ
kinds_text names s =
    names_line (codes "  mutex") names.mutexes ++ with_numbers (semaphore_line names.semaphores) s.sems ++ names_line (codes "  cell") names.cells

unfoldable pub declarations_text : List Evict → NamesView → ℕ → SpaceView → List ℕ
declarations_text evictions names number s =
    space_line names s ++ kinds_text names s ++ absent_line s.absent ++ flat_map (evict_line number) evictions

-- the label of a place, in its line
abbrev pub label_line : ℕ → Label → List ℕ
label_line place label = if label.place == place then codes "  " ++ label.name ++ codes ":\n" else []

-- a place as an operand: its first label, or its number where it has none
abbrev pub place_word : List Label → ℕ → List ℕ
place_word [] place = decimal place
place_word (label ∷ labels) place = if label.place == place then label.name else place_word labels place

-- an operand of a program of these labels, in a space of these names
abbrev pub operand_word : NamesView → List Label → Operand → List ℕ
operand_word names labels (Register r) = codes "r" ++ decimal (reg_number r)
operand_word names labels (Value n) = decimal n
operand_word names labels (Place place) = place_word labels place
operand_word names labels (Cell cell) = name_at names.cells cell
operand_word names labels (Program program) = program_name names.programs program
operand_word names labels (Mutex mutex) = name_at names.mutexes mutex
operand_word names labels (Semaphore semaphore) = name_at names.semaphores semaphore
operand_word names labels (Length events) = decimal events
operand_word names labels (Page page) = decimal page

-- an instruction, and its line
abbrev pub instr_text : NamesView → List Label → Instr → List ℕ
instr_text names labels i = (form_of (parts_of i).operation).word ++ flat_map (λ o. codes " " ++ operand_word names labels o) (parts_of i).operands

unfoldable pub instr_line : NamesView → List Label → Instr → List ℕ
instr_line names labels i = codes "    " ++ instr_text names labels i ++ codes "\n"

-- the lines of a place: its labels, and its instruction
abbrev pub place_text : NamesView → List Label → ℕ → Instr → List ℕ
place_text names labels place i = flat_map (label_line place) labels ++ instr_line names labels i

-- the lines of a program of these names
unfoldable pub program_text : NamesView → ProgramView → List Instr → List ℕ
program_text names own program =
    codes "\n" ++ name_line (codes "  program") own.name ++ with_numbers (place_text names own.labels) program

-- the lines of the program of this number; none where it has no names
abbrev pub nth_program_text : NamesView → ℕ → List Instr → List ℕ
nth_program_text names number program = unwrap_or (option_map (λ own. program_text names own program) (slice_get names.programs number)) []

-- the lines of a space of these names
unfoldable pub space_text : List Evict → NamesView → ℕ → SpaceView → List ℕ
space_text evictions names number s = declarations_text evictions names number s ++ with_numbers (nth_program_text names) s.programs

-- the lines of the space of this number; none where it has no names
abbrev pub nth_space_text : List Evict → List NamesView → ℕ → SpaceView → List ℕ
nth_space_text evictions names number s = unwrap_or (option_map (λ own. space_text evictions own number s) (slice_get names number)) []

-- a run of turns as a word: the processor, and how many turns where they are more than one
abbrev pub run_word : Run → List ℕ
run_word run =
    if run.to - run.from == 1 then decimal run.processor else decimal run.processor ++ codes "*" ++ decimal (run.to - run.from)

-- each run, twelve to a line, whose lines begin with these bytes: what begins a line ends the one before it
abbrev pub run_text : List ℕ → ℕ → Run → List ℕ
run_text indent number run = (if number % 12 == 0 then codes "\n" ++ indent ++ codes "turns " else codes " ") ++ run_word run

-- the end of a line, and behind it the lines of the turns
abbrev pub schedule_text : List ℕ → List ProcNo → List ℕ
schedule_text indent turns = with_numbers (run_text indent) (runs_of turns) ++ codes "\n"

unfoldable pub turns_text : List ProcNo → List ℕ
turns_text turns = if length turns == 0 then [] else schedule_text [] turns

-- the text that shows a workload with these names
unfoldable pub show_text : WorkloadView → List NamesView → List ℕ
show_text w names = machine_text w ++ with_numbers (nth_space_text w.evictions names) w.spaces ++ turns_text w.turns
