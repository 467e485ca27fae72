-- The words after the first one of a line.
use Rattle.std.specs.Prelude.{ℕ, ◌+◌, ◌-◌, ◌||◌, ◌==◌, nat_lt, if◌then◌else◌, List, [], ◌∷◌, ◌++◌, length, find, position, take, drop, replicate, slice_get, slice_index, Option, Some, None, Result, Ok}
use Rattle.sa_base.specs.declared.number.ProcNo.{ProcNo}
use Rattle.sa_instr.specs.declared.instr.Reg.{Reg}
use Rattle.sa_instr.specs.declared.instr.Reg.TheVariants as reg
use Rattle.sa_instr.specs.declared.limits.TheConstants.{MAX_TURNS}
use Rattle.sa_instr.specs.declared.operand.Operand.TheVariants as operand
use Rattle.sa_instr.specs.declared.operand.OperandKind.{OperandKind}
use Rattle.sa_instr.specs.declared.operand.OperandKind.TheVariants as kinds
use Rattle.sa_instr.specs.Instr.{reg_number}
use Rattle.sa_text.specs.Number.{number_of}
use Rattle.toga_lines.specs.Names.{is_name, is_register}
use Rattle.toga_diagnostic.specs.declared.cause.About.TheVariants as about_word
use Rattle.toga_diagnostic.specs.declared.cause.Cause.TheVariants as cause
use Rattle.toga_diagnostic.specs.declared.cause.Fault.{Fault}
use Rattle.toga_diagnostic.specs.declared.cause.Kind.{Kind}
use Rattle.toga_diagnostic.specs.declared.cause.Kind.TheVariants as kind
use Rattle.toga_diagnostic.specs.declared.cause.Limit.{Limit}
use Rattle.toga_diagnostic.specs.declared.cause.Next.{Next}
use Rattle.toga_diagnostic.specs.declared.cause.Next.TheVariants as next
use Rattle.toga_diagnostic.specs.declared.cause.Wanted.TheVariants as wanted
use Rattle.toga_diagnostic.specs.declared.cause.What.TheVariants as what
use Rattle.toga_draft.specs.declared.operands.TheConstants.{ANY, LENGTH, THREAD_PAGE}
use Rattle.toga_draft.specs.declared.draft.OperandDraft.{OperandDraft}
use Rattle.toga_draft.specs.declared.draft.OperandDraft.TheVariants as draft
use Rattle.toga_draft.specs.declared.word.Word.{Word}
use Rattle.toga_draft.specs.Reading.{◌>>=◌}
use Rattle.toga_draft.specs.Words.{refused, about, nth}

-- a number within its limits
abbrev pub number_unless : ℕ → Word → Limit → Option ℕ → Result ℕ Fault
number_unless line word limit None = refused line word (cause.Wanted (wanted.Number limit))
number_unless line word limit (Some n) =
    if nat_lt n limit.low || nat_lt limit.high n then refused line word (cause.Wanted (wanted.Within limit)) else Ok n

unfoldable pub number_in : ℕ → Word → Limit → Result ℕ Fault
number_in line word limit = number_unless line word limit (number_of word.text)

-- a name
unfoldable pub name_in : ℕ → Word → Result (Unit {0}) Fault
name_in line word = if is_name word.text then Ok tt else about line word about_word.NoName

-- the register of a word
abbrev pub registers : List Reg
registers = reg.R0 ∷ reg.R1 ∷ reg.R2 ∷ reg.R3 ∷ reg.R4 ∷ reg.R5 ∷ reg.R6 ∷ reg.R7 ∷ []

abbrev pub register_of : List ℕ → Option Reg
register_of word = if is_register word then find (λ r. reg_number r == slice_index word 1 - 48) registers else None

abbrev pub register_unless : ℕ → Word → Option Reg → Result OperandDraft Fault
register_unless line word None = about line word about_word.NoRegister
register_unless line word (Some r) = Ok (draft.Known (operand.Register r))

-- a name or a number of something of a kind
abbrev pub numbered_unless : ℕ → Word → Kind → Option ℕ → Result OperandDraft Fault
numbered_unless line word k None = refused line word (cause.Wanted (wanted.Operand k))
numbered_unless line word k (Some n) = Ok (draft.Numbered k (record { number = n; column = word.column; width = length word.text }))

unfoldable pub named_in : ℕ → Word → Kind → Result OperandDraft Fault
named_in line word k = if is_name word.text then Ok (draft.Named k word) else numbered_unless line word k (number_of word.text)

-- an operand of a kind
unfoldable pub operand_in : ℕ → Word → OperandKind → Result OperandDraft Fault
operand_in line word kinds.Register = register_unless line word (register_of word.text)
operand_in line word kinds.Value = number_in line word ANY >>= λ n. Ok (draft.Known (operand.Value n))
operand_in line word kinds.Length = number_in line word LENGTH >>= λ n. Ok (draft.Known (operand.Length n))
operand_in line word kinds.Page = number_in line word THREAD_PAGE >>= λ n. Ok (draft.Known (operand.Page n))
operand_in line word kinds.Place = named_in line word kind.Label
operand_in line word kinds.Cell = named_in line word kind.Cell
operand_in line word kinds.Program = named_in line word kind.Program
operand_in line word kinds.Mutex = named_in line word kind.Mutex
operand_in line word kinds.Semaphore = named_in line word kind.Semaphore

-- what an operand of a kind is called where it is missing
abbrev pub next_of : OperandKind → Next
next_of kinds.Register = next.Register
next_of kinds.Value = next.Number what.Number
next_of kinds.Length = next.Number what.Events
next_of kinds.Page = next.Number what.Page
next_of kinds.Place = next.Of kind.Label
next_of kinds.Cell = next.Of kind.Cell
next_of kinds.Program = next.Of kind.Program
next_of kinds.Mutex = next.Of kind.Mutex
next_of kinds.Semaphore = next.Of kind.Semaphore

-- the operand of this number, from 0, where an instruction has one there
abbrev pub operand_if : ℕ → Word → Option OperandKind → Result OperandDraft Fault
operand_if line word None = Ok draft.None
operand_if line word (Some k) = operand_in line word k

unfoldable pub nth_operand : ℕ → List Word → List OperandKind → ℕ → Result OperandDraft Fault
nth_operand line operands ks n = operand_if line (nth operands n) (slice_get ks n)

-- a turn: a processor, or a processor, `*` and how many turns
abbrev pub both : Option ℕ → Option ℕ → Option (ℕ × ℕ)
both (Some processor) (Some times) = Some (processor, times)
both (Some processor) None = None
both None times = None

abbrev pub turn_at : List ℕ → Option ℕ → Option (ℕ × ℕ)
turn_at word None = both (number_of word) (Some 1)
turn_at word (Some star) = both (number_of (take star word)) (number_of (drop (star + 1) word))

unfoldable pub turn_of : List ℕ → Option (ℕ × ℕ)
turn_of word = turn_at word (position (λ b. b == 42) word)

-- the limits of a turn
abbrev pub processor_limit : ℕ → Limit
processor_limit last = record { what = what.Processor; low = 0; high = last }

abbrev pub times_limit : Limit
times_limit = record { what = what.Number; low = 1; high = MAX_TURNS }

-- the turns of a word, after others; the last processor has this number
abbrev pub turns_unless : ℕ → Word → ℕ → List ProcNo → Option (ℕ × ℕ) → Result (List ProcNo) Fault
turns_unless line word last turns None = refused line word (cause.Wanted (wanted.Turn last))
turns_unless line word last turns (Some turn) =
    if nat_lt last turn.0 then refused line word (cause.Wanted (wanted.Within (processor_limit last)))
    else (if nat_lt turn.1 1 || nat_lt MAX_TURNS turn.1 then refused line word (cause.Wanted (wanted.Within times_limit))
    else (if nat_lt (MAX_TURNS - length turns) turn.1 then refused line word (cause.Wanted (wanted.Turns (MAX_TURNS - length turns)))
    else Ok (turns ++ replicate turn.1 (record { 0 = turn.0 }))))

unfoldable pub add_turn : ℕ → ℕ → Word → List ProcNo → Result (List ProcNo) Fault
add_turn line last word turns = turns_unless line word last turns (turn_of word.text)
