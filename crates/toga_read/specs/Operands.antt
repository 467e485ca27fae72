-- Operands, instructions and programs of a draft.
use Rattle.std.specs.Prelude.{ℕ, List, [], ◌∷◌, ◌++◌, Option, None, Some, Result, Ok}
use Rattle.std.specs.Option.{unwrap_or}
use Rattle.sa_instr.specs.declared.instr.Instr.{Instr}
use Rattle.sa_instr.specs.declared.instr.Instr.TheVariants.{End}
use Rattle.sa_instr.specs.declared.operand.Operand.{Operand}
use Rattle.sa_instr.specs.declared.operand.Operand.TheVariants.{Place, Cell, Program, Mutex, Semaphore}
use Rattle.sa_instr.specs.declared.operation.Operation.{Operation}
use Rattle.sa_instr.specs.Parts.{instr_of}
use Rattle.toga_diagnostic.specs.declared.cause.Fault.{Fault}
use Rattle.toga_diagnostic.specs.declared.cause.Kind.{Kind}
use Rattle.toga_diagnostic.specs.declared.cause.Kind.TheVariants as kinds
use Rattle.toga_draft.specs.declared.draft.InstrDraft.{InstrDraft}
use Rattle.toga_draft.specs.declared.draft.OperandDraft.{OperandDraft}
use Rattle.toga_draft.specs.declared.draft.OperandDraft.TheVariants as drafted
use Rattle.toga_draft.specs.Draft.{ProgramDraftView, SpaceDraftView}
use Rattle.toga_draft.specs.Reading.{◌>>=◌}
use Rattle.toga_read.specs.Outcome.{each}
use Rattle.toga_read.specs.Lookup.{named_number, said_number}

-- a number of a kind as an operand; what is no place, mutex, semaphore or cell is a program
abbrev pub operand_by : Kind → ℕ → Operand
operand_by kinds.Label n = Place n
operand_by kinds.Mutex n = Mutex n
operand_by kinds.Semaphore n = Semaphore n
operand_by kinds.Cell n = Cell n
operand_by _ n = Program n

abbrev pub numbered : Kind → Result ℕ Fault → Result (Option Operand) Fault
numbered kind number = number >>= λ n. Ok (Some (operand_by kind n))

-- an operand in this line, if there is one
unfoldable pub operand_of : SpaceDraftView → ProgramDraftView → ℕ → OperandDraft → Result (Option Operand) Fault
operand_of space program line drafted.None = Ok None
operand_of space program line (drafted.Known operand) = Ok (Some operand)
operand_of space program line (drafted.Named kind word) = numbered kind (named_number space program line kind word)
operand_of space program line (drafted.Numbered kind n) = numbered kind (said_number space program line kind n)

-- one operand, or none
abbrev pub listed : Option Operand → List Operand
listed (Some operand) = operand ∷ []
listed None = []

-- the instruction of an operation with these operands, which fit it
abbrev pub fitting : Operation → List Operand → Instr
fitting operation operands = unwrap_or (instr_of operation operands) End

-- an instruction, a program, and the programs of a space
unfoldable pub instr_in : SpaceDraftView → ProgramDraftView → InstrDraft → Result Instr Fault
instr_in space program i =
    operand_of space program i.line i.first
    >>= λ first. operand_of space program i.line i.second >>= λ second. Ok (fitting i.operation (listed first ++ listed second))

unfoldable pub program_of : SpaceDraftView → ProgramDraftView → Result (List Instr) Fault
program_of space program = each (instr_in space program) program.instrs

unfoldable pub programs_of : SpaceDraftView → Result (List (List Instr)) Fault
programs_of space = each (program_of space) space.programs
