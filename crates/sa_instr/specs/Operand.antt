-- The operands of instructions: what each is, and what it must keep to.
use Rattle.std.specs.Prelude.{ℕ, ◌^◌, ◌<◌, ◌≤◌, List, [], ◌∷◌}
use Rattle.sa_base.specs.declared.limits.TheConstants.{FIRST_THREAD_PAGE}
use Rattle.sa_instr.specs.declared.limits.TheConstants.{LAST_PAGE, MAX_IO_LENGTH}
use Rattle.sa_instr.specs.declared.operand.Operand.{Operand}
use Rattle.sa_instr.specs.declared.operand.Operand.TheVariants.{Register, Value, Place, Cell, Program, Mutex, Semaphore, Length, Page}
use Rattle.sa_instr.specs.declared.operand.OperandKind.{OperandKind}
use Rattle.sa_instr.specs.declared.operand.OperandKind.TheVariants as Kinds

-- what an operand is
abbrev pub kind_of : Operand → OperandKind
kind_of (Register r) = Kinds.Register
kind_of (Value n) = Kinds.Value
kind_of (Place place) = Kinds.Place
kind_of (Cell cell) = Kinds.Cell
kind_of (Program program) = Kinds.Program
kind_of (Mutex mutex) = Kinds.Mutex
kind_of (Semaphore semaphore) = Kinds.Semaphore
kind_of (Length length) = Kinds.Length
kind_of (Page page) = Kinds.Page

-- a number with a range of its own is in it: 64 bits, the events of an I/O, and the pages that threads touch
abbrev pub InRange : Operand → Type 0
InRange (Value n) = n < 2 ^ 64
InRange (Length length) = (1 ≤ length) × (length ≤ MAX_IO_LENGTH)
InRange (Page page) = (FIRST_THREAD_PAGE ≤ page) × (page ≤ LAST_PAGE)
InRange _ = Unit {0}

-- a place is below len
abbrev pub IsPlaceBelow : (len : ℕ) → Operand → Type 0
IsPlaceBelow len (Place place) = place < len
IsPlaceBelow len _ = Unit {0}

-- what the operand names is declared, where there are that many of each
abbrev pub IsDeclared : (mutexes sems cells programs : ℕ) → Operand → Type 0
IsDeclared mutexes sems cells programs (Cell cell) = cell < cells
IsDeclared mutexes sems cells programs (Program program) = program < programs
IsDeclared mutexes sems cells programs (Mutex mutex) = mutex < mutexes
IsDeclared mutexes sems cells programs (Semaphore semaphore) = semaphore < sems
IsDeclared mutexes sems cells programs _ = Unit {0}

-- this holds of each operand
abbrev pub Each : (Operand → Type 0) → List Operand → Type 0
Each P [] = Unit {0}
Each P (operand ∷ operands) = P operand × Each P operands
