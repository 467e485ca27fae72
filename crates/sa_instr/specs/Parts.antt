-- An instruction as its operation and its operands, and back.
use Rattle.std.specs.Prelude.{◌≡◌, ℕ, ◌==◌, Option, Some, None, List, [], ◌∷◌, length, map, slice_get, option_and_then, if◌then◌else◌}
use Rattle.std.specs.Option.{option_map}
use Rattle.sa_instr.specs.declared.instr.Reg.{Reg}
use Rattle.sa_instr.specs.declared.instr.Instr.{Instr}
use Rattle.sa_instr.specs.declared.instr.Instr.TheVariants.{Compute, Set, Add, Sub, Jnz, Load, Store, Out, Fork, Join, Lock, Unlock, Wait, Signal, Io, Touch, End}
use Rattle.sa_instr.specs.declared.operand.Operand.{Operand}
use Rattle.sa_instr.specs.declared.operand.Operand.TheVariants.{Register, Value, Place, Cell, Program, Mutex, Semaphore, Length, Page}
use Rattle.sa_instr.specs.declared.operation.Operation.{Operation}
use Rattle.sa_instr.specs.declared.operation.Operation.TheVariants as Operations
use Rattle.sa_instr.specs.Operand.{kind_of}
use Rattle.sa_instr.specs.Operation.{form_of}

-- an operation and its operands
pub record InstrView : Type 0 where
  pub operation : Operation
  pub operands : List Operand

abbrev pub parts : Operation → List Operand → InstrView
parts operation operands = record { operation = operation; operands = operands }

-- the operands are those that the operation has
abbrev pub FitTheOperation : InstrView → Type 0
FitTheOperation p = map kind_of p.operands ≡ (form_of p.operation).operands

-- the operation and the operands of an instruction
abbrev pub parts_of : Instr → InstrView
parts_of Compute = parts Operations.Compute []
parts_of (Set r n) = parts Operations.Set (Register r ∷ Value n ∷ [])
parts_of (Add r q) = parts Operations.Add (Register r ∷ Register q ∷ [])
parts_of (Sub r q) = parts Operations.Sub (Register r ∷ Register q ∷ [])
parts_of (Jnz r place) = parts Operations.Jnz (Register r ∷ Place place ∷ [])
parts_of (Load r cell) = parts Operations.Load (Register r ∷ Cell cell ∷ [])
parts_of (Store r cell) = parts Operations.Store (Register r ∷ Cell cell ∷ [])
parts_of (Out r) = parts Operations.Out (Register r ∷ [])
parts_of (Fork r program) = parts Operations.Fork (Register r ∷ Program program ∷ [])
parts_of (Join r) = parts Operations.Join (Register r ∷ [])
parts_of (Lock mutex) = parts Operations.Lock (Mutex mutex ∷ [])
parts_of (Unlock mutex) = parts Operations.Unlock (Mutex mutex ∷ [])
parts_of (Wait semaphore) = parts Operations.Wait (Semaphore semaphore ∷ [])
parts_of (Signal semaphore) = parts Operations.Signal (Semaphore semaphore ∷ [])
parts_of (Io length) = parts Operations.Io (Length length ∷ [])
parts_of (Touch page) = parts Operations.Touch (Page page ∷ [])
parts_of End = parts Operations.End []

-- what an operand is, if it is of this kind
abbrev pub register_in : Operand → Option Reg
register_in (Register r) = Some r
register_in _ = None

abbrev pub value_in : Operand → Option ℕ
value_in (Value n) = Some n
value_in _ = None

abbrev pub place_in : Operand → Option ℕ
place_in (Place n) = Some n
place_in _ = None

abbrev pub cell_in : Operand → Option ℕ
cell_in (Cell n) = Some n
cell_in _ = None

abbrev pub program_in : Operand → Option ℕ
program_in (Program n) = Some n
program_in _ = None

abbrev pub mutex_in : Operand → Option ℕ
mutex_in (Mutex n) = Some n
mutex_in _ = None

abbrev pub semaphore_in : Operand → Option ℕ
semaphore_in (Semaphore n) = Some n
semaphore_in _ = None

abbrev pub length_in : Operand → Option ℕ
length_in (Length n) = Some n
length_in _ = None

abbrev pub page_in : Operand → Option ℕ
page_in (Page n) = Some n
page_in _ = None

-- what is read from the operand at a place
abbrev pub read_at : {A : Type 0} → (Operand → Option A) → List Operand → ℕ → Option A
read_at read operands k = option_and_then read (slice_get operands k)

-- what is made of two things, where there are both
abbrev pub from_two : {A B C : Type 0} → (A → B → C) → Option A → Option B → Option C
from_two make (Some a) (Some b) = Some (make a b)
from_two make _ _ = None

-- the instruction of an operation whose operands begin like these
abbrev pub instr_from : Operation → List Operand → Option Instr
instr_from Operations.Compute o = Some Compute
instr_from Operations.Set o = from_two Set (read_at register_in o 0) (read_at value_in o 1)
instr_from Operations.Add o = from_two Add (read_at register_in o 0) (read_at register_in o 1)
instr_from Operations.Sub o = from_two Sub (read_at register_in o 0) (read_at register_in o 1)
instr_from Operations.Jnz o = from_two Jnz (read_at register_in o 0) (read_at place_in o 1)
instr_from Operations.Load o = from_two Load (read_at register_in o 0) (read_at cell_in o 1)
instr_from Operations.Store o = from_two Store (read_at register_in o 0) (read_at cell_in o 1)
instr_from Operations.Out o = option_map Out (read_at register_in o 0)
instr_from Operations.Fork o = from_two Fork (read_at register_in o 0) (read_at program_in o 1)
instr_from Operations.Join o = option_map Join (read_at register_in o 0)
instr_from Operations.Lock o = option_map Lock (read_at mutex_in o 0)
instr_from Operations.Unlock o = option_map Unlock (read_at mutex_in o 0)
instr_from Operations.Wait o = option_map Wait (read_at semaphore_in o 0)
instr_from Operations.Signal o = option_map Signal (read_at semaphore_in o 0)
instr_from Operations.Io o = option_map Io (read_at length_in o 0)
instr_from Operations.Touch o = option_map Touch (read_at page_in o 0)
instr_from Operations.End o = Some End

-- the instruction of an operation with these operands, if they are those that it has
abbrev pub instr_of : Operation → List Operand → Option Instr
instr_of operation operands =
    if length operands == length (form_of operation).operands then instr_from operation operands else None
