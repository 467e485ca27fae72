-- The operations of instructions, and how each is written.
use Rattle.std.specs.Prelude.{◌≢◌, ℕ, List, [], ◌∷◌, Option, codes, find}
use Rattle.std.specs.Str.{bytes_eq}
use Rattle.sa_instr.specs.declared.operand.OperandKind.{OperandKind}
use Rattle.sa_instr.specs.declared.operand.OperandKind.TheVariants.{Register, Value, Place, Cell, Program, Mutex, Semaphore, Length, Page}
use Rattle.sa_instr.specs.declared.operation.Operation.{Operation}
use Rattle.sa_instr.specs.declared.operation.Operation.TheVariants.{Compute, Set, Add, Sub, Jnz, Load, Store, Out, Fork, Join, Lock, Unlock, Wait, Signal, Io, Touch, End}
use Rattle.sa_instr.specs.declared.operation.TheConstants.{OPERATIONS}

-- an operation's word, and what its operands are
pub record Written : Type 0 where
  pub word : List ℕ
  pub operands : List OperandKind

abbrev pub written : List ℕ → List OperandKind → Written
written w os = record { word = w; operands = os }

-- how the instructions of each operation are written
abbrev pub form_of : Operation → Written
form_of Compute = written (codes "compute") []
form_of Set = written (codes "set") (Register ∷ Value ∷ [])
form_of Add = written (codes "add") (Register ∷ Register ∷ [])
form_of Sub = written (codes "sub") (Register ∷ Register ∷ [])
form_of Jnz = written (codes "jnz") (Register ∷ Place ∷ [])
form_of Load = written (codes "load") (Register ∷ Cell ∷ [])
form_of Store = written (codes "store") (Register ∷ Cell ∷ [])
form_of Out = written (codes "out") (Register ∷ [])
form_of Fork = written (codes "fork") (Register ∷ Program ∷ [])
form_of Join = written (codes "join") (Register ∷ [])
form_of Lock = written (codes "lock") (Mutex ∷ [])
form_of Unlock = written (codes "unlock") (Mutex ∷ [])
form_of Wait = written (codes "wait") (Semaphore ∷ [])
form_of Signal = written (codes "signal") (Semaphore ∷ [])
form_of Io = written (codes "io") (Length ∷ [])
form_of Touch = written (codes "touch") (Page ∷ [])
form_of End = written (codes "end") []

-- the operation of a word
unfoldable pub operation_of : List ℕ → Option Operation
operation_of word = find (λ operation. bytes_eq word (form_of operation).word) OPERATIONS

-- no operation has this word
abbrev pub IsNoWord : List ℕ → Type 0
IsNoWord word = (operation : Operation) → (form_of operation).word ≢ word
