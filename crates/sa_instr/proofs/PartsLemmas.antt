-- An instruction and its operation and operands undo each other.
use Rattle.std.proofs.Common.{◌≡◌, ℕ, Option, Some, None, MatchOption, List, [], ◌∷◌, length, map, IsSome, IfSome, refl, sym, ap, subst, ◌∙◌, arith}
use Rattle.std.proofs.lemmas.Bool.{false≢true}
use Rattle.std.proofs.lemmas.Option.{same_Some}
use Rattle.std.specs.Prelude.{◌==◌, ◌↔◌, if◌then◌else◌}
use Rattle.std.specs.Option.{option_map}
use Rattle.sa_instr.specs.declared.instr.Reg.{Reg}
use Rattle.sa_instr.specs.declared.instr.Instr.{Instr}
use Rattle.sa_instr.specs.declared.instr.Instr.TheVariants.{Compute, Set, Add, Sub, Jnz, Load, Store, Out, Fork, Join, Lock, Unlock, Wait, Signal, Io, Touch, End}
use Rattle.sa_instr.specs.declared.operand.Operand.{Operand}
use Rattle.sa_instr.specs.declared.operand.Operand.TheVariants.{Register, Value, Place, Cell, Program, Mutex, Semaphore, Length, Page}
use Rattle.sa_instr.specs.declared.operand.OperandKind.{OperandKind}
use Rattle.sa_instr.specs.declared.operand.OperandKind.TheVariants as Kinds
use Rattle.sa_instr.specs.declared.operation.Operation.{Operation}
use Rattle.sa_instr.specs.declared.operation.Operation.TheVariants as Operations
use Rattle.sa_instr.specs.Operand.{kind_of}
use Rattle.sa_instr.specs.Operation.{form_of}
use Rattle.sa_instr.specs.Parts.{FitTheOperation, parts, parts_of, read_at, from_two, instr_from, instr_of, register_in, value_in, place_in, cell_in, program_in, mutex_in, semaphore_in, length_in, page_in}
use Rattle.sa_lemmas.proofs.Options.{right_number, wrong_number}

-- something is read from an operand exactly where it is of this kind, and then the operand is this one
abbrev pub IsReading : {A : Type 0} → OperandKind → (A → Operand) → Operand → Option A → Type 0
IsReading kind held operand read = MatchOption read (kind_of operand ≡ kind → ⊥) (λ a. (kind_of operand ≡ kind) × (held a ≡ operand))

-- how the operands of a kind are read
pub record Coded (A : Type 0) : Type 0 where
  pub kind : OperandKind
  pub held : A → Operand
  pub read : Operand → Option A
  pub back : (operand : Operand) → IsReading kind held operand (read operand)
  pub forth : (a : A) → read (held a) ≡ Some a

register_back : (operand : Operand) → IsReading Kinds.Register (λ a. Register a) operand (register_in operand)
register_back (Register a) = (refl, refl)
register_back _ = λ e. cc

abbrev register : Coded Reg
register = record { kind = Kinds.Register; held = λ a. Register a; read = register_in; back = register_back; forth = λ a. refl }

value_back : (operand : Operand) → IsReading Kinds.Value (λ a. Value a) operand (value_in operand)
value_back (Value a) = (refl, refl)
value_back _ = λ e. cc

abbrev value : Coded ℕ
value = record { kind = Kinds.Value; held = λ a. Value a; read = value_in; back = value_back; forth = λ a. refl }

place_back : (operand : Operand) → IsReading Kinds.Place (λ a. Place a) operand (place_in operand)
place_back (Place a) = (refl, refl)
place_back _ = λ e. cc

abbrev place : Coded ℕ
place = record { kind = Kinds.Place; held = λ a. Place a; read = place_in; back = place_back; forth = λ a. refl }

cell_back : (operand : Operand) → IsReading Kinds.Cell (λ a. Cell a) operand (cell_in operand)
cell_back (Cell a) = (refl, refl)
cell_back _ = λ e. cc

abbrev cell : Coded ℕ
cell = record { kind = Kinds.Cell; held = λ a. Cell a; read = cell_in; back = cell_back; forth = λ a. refl }

program_back : (operand : Operand) → IsReading Kinds.Program (λ a. Program a) operand (program_in operand)
program_back (Program a) = (refl, refl)
program_back _ = λ e. cc

abbrev program : Coded ℕ
program = record { kind = Kinds.Program; held = λ a. Program a; read = program_in; back = program_back; forth = λ a. refl }

mutex_back : (operand : Operand) → IsReading Kinds.Mutex (λ a. Mutex a) operand (mutex_in operand)
mutex_back (Mutex a) = (refl, refl)
mutex_back _ = λ e. cc

abbrev mutex : Coded ℕ
mutex = record { kind = Kinds.Mutex; held = λ a. Mutex a; read = mutex_in; back = mutex_back; forth = λ a. refl }

semaphore_back : (operand : Operand) → IsReading Kinds.Semaphore (λ a. Semaphore a) operand (semaphore_in operand)
semaphore_back (Semaphore a) = (refl, refl)
semaphore_back _ = λ e. cc

abbrev semaphore : Coded ℕ
semaphore = record { kind = Kinds.Semaphore; held = λ a. Semaphore a; read = semaphore_in; back = semaphore_back; forth = λ a. refl }

events_back : (operand : Operand) → IsReading Kinds.Length (λ a. Length a) operand (length_in operand)
events_back (Length a) = (refl, refl)
events_back _ = λ e. cc

abbrev events : Coded ℕ
events = record { kind = Kinds.Length; held = λ a. Length a; read = length_in; back = events_back; forth = λ a. refl }

page_back : (operand : Operand) → IsReading Kinds.Page (λ a. Page a) operand (page_in operand)
page_back (Page a) = (refl, refl)
page_back _ = λ e. cc

abbrev page : Coded ℕ
page = record { kind = Kinds.Page; held = λ a. Page a; read = page_in; back = page_back; forth = λ a. refl }

-- an instruction is made exactly where the operands are of these kinds, and then it has this operation and these operands
abbrev pub IsMaking : List OperandKind → Operation → List Operand → Option Instr → Type 0
IsMaking kinds operation o made = MatchOption made (map kind_of o ≡ kinds → ⊥) (λ i. (map kind_of o ≡ kinds) × (parts_of i ≡ parts operation o))

none-making : (kinds : List OperandKind) (operation : Operation) (o : List Operand) (made : Option Instr) → made ≡ None
    → (map kind_of o ≡ kinds → ⊥) → IsMaking kinds operation o made
none-making kinds operation o None e unfit = unfit
none-making kinds operation o (Some i) e unfit = absurd cc

bare-making : (operation : Operation) (i : Instr) → parts_of i ≡ parts operation [] → (o : List Operand)
    → IsMaking [] operation o (if length o == 0 then Some i else None)
bare-making operation i shown [] = (refl, shown)
bare-making operation i shown (x ∷ o) = none-making [] operation (x ∷ o) _ (wrong_number (length (x ∷ o)) 0 _ (λ e. absurd (omega arith))) (λ e. cc)

module _ {A : Type 0} (p : Coded A) (operation : Operation) (make : A → Instr) (shown : (a : A) → parts_of (make a) ≡ parts operation (p.held a ∷ [])) where
  by_one : (x : Operand) (a : Option A) → IsReading p.kind p.held x a → IsMaking (p.kind ∷ []) operation (x ∷ []) (option_map make a)
  by_one x None ra = λ e. ra cc
  by_one x (Some a) ra = (ap (λ k. k ∷ []) ra.0, shown a ∙ ap (λ v. parts operation (v ∷ [])) ra.1)

  pub one-making : (o : List Operand) → IsMaking (p.kind ∷ []) operation o (if length o == 1 then option_map make (read_at p.read o 0) else None)
  one-making [] = λ e. cc
  one-making (x ∷ []) = by_one x (p.read x) (p.back x)
  one-making (x ∷ y ∷ o) = none-making (p.kind ∷ []) operation (x ∷ y ∷ o) _ (wrong_number (length (x ∷ y ∷ o)) 1 _ (λ e. absurd (omega arith))) (λ e. cc)

module _ {A B : Type 0} (p : Coded A) (q : Coded B) (operation : Operation) (make : A → B → Instr)
    (shown : (a : A) (b : B) → parts_of (make a b) ≡ parts operation (p.held a ∷ q.held b ∷ [])) where
  by_two : (x y : Operand) (a : Option A) (b : Option B) → IsReading p.kind p.held x a → IsReading q.kind q.held y b
      → IsMaking (p.kind ∷ q.kind ∷ []) operation (x ∷ y ∷ []) (from_two make a b)
  by_two x y None b ra rb = λ e. ra cc
  by_two x y (Some a) None ra rb = λ e. rb cc
  by_two x y (Some a) (Some b) ra rb = (
    ap (λ k. k ∷ kind_of y ∷ []) ra.0 ∙ ap (λ k. p.kind ∷ k ∷ []) rb.0,
    shown a b ∙ ap (λ v. parts operation (v ∷ q.held b ∷ [])) ra.1 ∙ ap (λ v. parts operation (x ∷ v ∷ [])) rb.1,
  )

  pub two-making : (o : List Operand)
      → IsMaking (p.kind ∷ q.kind ∷ []) operation o (if length o == 2 then from_two make (read_at p.read o 0) (read_at q.read o 1) else None)
  two-making [] = λ e. cc
  two-making (x ∷ []) = λ e. cc
  two-making (x ∷ y ∷ []) = by_two x y (p.read x) (q.read y) (p.back x) (q.back y)
  two-making (x ∷ y ∷ z ∷ o) =
      none-making (p.kind ∷ q.kind ∷ []) operation (x ∷ y ∷ z ∷ o) _ (wrong_number (length (x ∷ y ∷ z ∷ o)) 2 _ (λ e. absurd (omega arith))) (λ e. cc)

-- each operation with its operands
pub making : (operation : Operation) (o : List Operand) → IsMaking (form_of operation).operands operation o (instr_of operation o)
making Operations.Compute o = bare-making Operations.Compute Compute refl o
making Operations.Set o = two-making register value Operations.Set Set (λ a b. refl) o
making Operations.Add o = two-making register register Operations.Add Add (λ a b. refl) o
making Operations.Sub o = two-making register register Operations.Sub Sub (λ a b. refl) o
making Operations.Jnz o = two-making register place Operations.Jnz Jnz (λ a b. refl) o
making Operations.Load o = two-making register cell Operations.Load Load (λ a b. refl) o
making Operations.Store o = two-making register cell Operations.Store Store (λ a b. refl) o
making Operations.Out o = one-making register Operations.Out Out (λ a. refl) o
making Operations.Fork o = two-making register program Operations.Fork Fork (λ a b. refl) o
making Operations.Join o = one-making register Operations.Join Join (λ a. refl) o
making Operations.Lock o = one-making mutex Operations.Lock Lock (λ a. refl) o
making Operations.Unlock o = one-making mutex Operations.Unlock Unlock (λ a. refl) o
making Operations.Wait o = one-making semaphore Operations.Wait Wait (λ a. refl) o
making Operations.Signal o = one-making semaphore Operations.Signal Signal (λ a. refl) o
making Operations.Io o = one-making events Operations.Io Io (λ a. refl) o
making Operations.Touch o = one-making page Operations.Touch Touch (λ a. refl) o
making Operations.End o = bare-making Operations.End End refl o

-- an instruction is what its operation and its operands make
pub remade : (i : Instr) → instr_of (parts_of i).operation (parts_of i).operands ≡ Some i
remade Compute = refl
remade _ = refl

-- what is made has the operation and the operands that made it
made-parts : (operation : Operation) (o : List Operand) (made : Option Instr) (i : Instr) → IsMaking (form_of operation).operands operation o made
    → made ≡ Some i → parts_of i ≡ parts operation o
made-parts operation o None i is e = absurd cc
made-parts operation o (Some j) i is e = ap parts_of (same_Some i j (sym e)) ∙ is.1

made-some : (kinds : List OperandKind) (operation : Operation) (o : List Operand) (made : Option Instr) → IsMaking kinds operation o made
    → IsSome made ↔ (map kind_of o ≡ kinds)
made-some kinds operation o None is = (λ h. absurd (false≢true h), λ h. absurd (is h))
made-some kinds operation o (Some i) is = (λ h. is.0, λ h. refl)

pub parts-back : (operation : Operation) (o : List Operand) (i : Instr) → instr_of operation o ≡ Some i → parts_of i ≡ parts operation o
parts-back operation o i e = made-parts operation o (instr_of operation o) i (making operation o) e

pub fit-some : (operation : Operation) (o : List Operand) → IsSome (instr_of operation o) ↔ FitTheOperation (parts operation o)
fit-some operation o = made-some (form_of operation).operands operation o (instr_of operation o) (making operation o)

if-made : (operation : Operation) (o : List Operand) (made : Option Instr) → IsMaking (form_of operation).operands operation o made
    → IfSome made (λ i. parts_of i ≡ parts operation o)
if-made operation o None is = tt
if-made operation o (Some i) is = is.1

-- what is made of the right number of operands, as a caller learns of it
pub made-if : (operation : Operation) (o : List Operand) (made : Option Instr) → length o ≡ length (form_of operation).operands
    → made ≡ instr_from operation o
    → (IsSome made ↔ FitTheOperation (parts operation o)) × IfSome made (λ i. parts_of i ≡ parts operation o)
made-if operation o made count e =
    let same : instr_of operation o ≡ made = sym (right_number (length o) (length (form_of operation).operands) (instr_from operation o) count) ∙ sym e in
    subst (λ v. (IsSome v ↔ FitTheOperation (parts operation o)) × IfSome v (λ i. parts_of i ≡ parts operation o)) same
    (fit-some operation o, if-made operation o (instr_of operation o) (making operation o))
