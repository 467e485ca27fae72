-- What holds of the local effect and of instructions, whichever they are.
use Rattle.std.specs.Prelude.{◌≡◌, ◌≢◌, ◌↔◌, ℕ, ◌<◌, Some, List, length, IsSome}
use Rattle.sa_instr.specs.declared.instr.Reg.{Reg}
use Rattle.sa_instr.specs.declared.instr.Instr.{Instr}
use Rattle.sa_instr.specs.declared.instr.Instr.TheVariants.{Add, Sub}
use Rattle.sa_instr.specs.declared.operand.Operand.{Operand}
use Rattle.sa_instr.specs.declared.operation.Operation.{Operation}
use Rattle.sa_instr.specs.Operation.{form_of}
use Rattle.sa_instr.specs.Parts.{FitTheOperation, parts, parts_of, instr_of}
use Rattle.sa_instr.specs.Instr.{reg_number, IsInRange}
use Rattle.sa_instr.specs.Regs.{AreRegisters}
use Rattle.sa_instr.specs.Program.{IsProgram}
use Rattle.sa_instr.specs.Local.{instr_at, pc_after, regs_after}

-- a thread stays within its program
abbrev pub PlacesStayInPrograms : Type 0
PlacesStayInPrograms =
    (program : List Instr) (pc : ℕ) (regs : List ℕ) → IsProgram program → pc < length program
    → pc_after (instr_at program pc) pc regs < length program

-- eight registers of 64 bits stay that
abbrev pub RegistersStayWords : Type 0
RegistersStayWords = (instr : Instr) (regs : List ℕ) → IsInRange instr → AreRegisters regs → AreRegisters (regs_after instr regs)

-- what is added to a register can be taken from it again, and the other way round
abbrev pub SubUndoesAdd : Type 0
SubUndoesAdd =
    (reg other : Reg) (regs : List ℕ) → reg_number reg ≢ reg_number other → AreRegisters regs
    → regs_after (Sub reg other) (regs_after (Add reg other) regs) ≡ regs

abbrev pub AddUndoesSub : Type 0
AddUndoesSub =
    (reg other : Reg) (regs : List ℕ) → reg_number reg ≢ reg_number other → AreRegisters regs
    → regs_after (Add reg other) (regs_after (Sub reg other) regs) ≡ regs

-- the operation and the operands of an instruction make the instruction
abbrev pub PartsMakeTheInstr : Type 0
PartsMakeTheInstr = (i : Instr) → instr_of (parts_of i).operation (parts_of i).operands ≡ Some i

-- what an operation and operands make has this operation and these operands
abbrev pub InstrsHaveTheParts : Type 0
InstrsHaveTheParts =
    (operation : Operation) (operands : List Operand) (i : Instr) → instr_of operation operands ≡ Some i
    → parts_of i ≡ parts operation operands

-- an operation and operands make an instruction exactly where the operands fit the operation
abbrev pub FittingPartsMakeInstrs : Type 0
FittingPartsMakeInstrs =
    (operation : Operation) (operands : List Operand) → IsSome (instr_of operation operands) ↔ FitTheOperation (parts operation operands)

-- no two operations have one word
abbrev pub WordsDiffer : Type 0
WordsDiffer = (a b : Operation) → (form_of a).word ≡ (form_of b).word → a ≡ b
