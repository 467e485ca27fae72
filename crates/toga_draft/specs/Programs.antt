-- The lines of a program, and its end.
use Rattle.std.specs.Prelude.{ℕ, ◌-◌, ◌==◌, Bool, true, false, if◌then◌else◌, List, [], ◌∷◌, ◌++◌, length, find, slice_get, Option, Some, None, Result, Ok, Err}
use Rattle.std.specs.Option.{option_map, unwrap_or}
use Rattle.std.specs.Str.{bytes_eq}
use Rattle.sa_instr.specs.declared.limits.TheConstants.{MAX_INSTRUCTIONS}
use Rattle.sa_instr.specs.declared.operand.OperandKind.{OperandKind}
use Rattle.sa_instr.specs.declared.operation.Operation.{Operation}
use Rattle.sa_instr.specs.declared.operation.Operation.TheVariants as operation
use Rattle.sa_instr.specs.Operation.{form_of}
use Rattle.toga_lines.specs.Names.{is_name}
use Rattle.toga_diagnostic.specs.declared.cause.About.TheVariants as about_word
use Rattle.toga_diagnostic.specs.declared.cause.Cause.TheVariants as cause
use Rattle.toga_diagnostic.specs.declared.cause.Fault.{Fault}
use Rattle.toga_diagnostic.specs.declared.cause.Kind.TheVariants as kind
use Rattle.toga_diagnostic.specs.declared.cause.Next.{Next}
use Rattle.toga_diagnostic.specs.declared.cause.Next.TheVariants as next
use Rattle.toga_diagnostic.specs.declared.cause.Part.TheVariants as part
use Rattle.toga_diagnostic.specs.declared.cause.Twice.TheVariants as twice
use Rattle.toga_draft.specs.declared.draft.InstrDraft.{InstrDraft}
use Rattle.toga_draft.specs.declared.draft.LabelDraft.{LabelDraft}
use Rattle.toga_draft.specs.declared.word.Word.{Word}
use Rattle.toga_draft.specs.Declarations.{at_most}
use Rattle.toga_draft.specs.Draft.{ProgramDraftView}
use Rattle.toga_draft.specs.Operands.{next_of, nth_operand}
use Rattle.toga_draft.specs.Reading.{◌>>=◌}
use Rattle.toga_draft.specs.Words.{refused, about, count_words, without_colon}

-- a label, at the place of the next instruction
abbrev pub label_line : List LabelDraft → List ℕ → Option ℕ
label_line labels name = option_map (λ l. l.line) (find (λ l. bytes_eq l.name.text name) labels)

abbrev pub label_unless : ℕ → Word → ProgramDraftView → Option ℕ → Result ProgramDraftView Fault
label_unless line name p (Some earlier) = refused line name (cause.Twice (twice.Label earlier))
label_unless line name p None = Ok (record p { labels = p.labels ++ record { name = name; line = line; place = length p.instrs } ∷ [] })

unfoldable pub add_label : ℕ → Word → ProgramDraftView → Result ProgramDraftView Fault
add_label line word p =
    if is_name (without_colon word).text then label_unless line (without_colon word) p (label_line p.labels (without_colon word).text)
    else about line word about_word.BadLabel

-- an instruction
abbrev pub next_after : List OperandKind → ℕ → Next
next_after kinds operands = unwrap_or (option_map next_of (slice_get kinds operands)) next.Name

unfoldable pub instr_in : ℕ → Operation → Word → List Word → Result InstrDraft Fault
instr_in line o word operands = do
  _ ← count_words line word operands (length (form_of o).operands) (length (form_of o).operands) (next_after (form_of o).operands (length operands))
  first ← nth_operand line operands (form_of o).operands 0
  second ← nth_operand line operands (form_of o).operands 1
  Ok (record { operation = o; line = line; column = word.column; first = first; second = second })

unfoldable pub add_instr : ℕ → Operation → Word → List Word → ProgramDraftView → Result ProgramDraftView Fault
add_instr line o word operands p = do
  _ ← at_most line word kind.Instruction MAX_INSTRUCTIONS (length p.instrs)
  instr ← instr_in line o word operands
  Ok (record p { instrs = p.instrs ++ instr ∷ [] })

-- a program that ends: each label has an instruction after it, and the last instruction is `end`
abbrev pub unless_alone : Option LabelDraft → Result (Unit {0}) Fault
unless_alone (Some label) = about label.line label.name about_word.LabelAlone
unless_alone None = Ok tt

abbrev pub is_end : Operation → Bool
is_end operation.End = true
is_end _ = false

abbrev pub no_end : InstrDraft → Word → Fault
no_end i program =
    record { line = i.line; column = i.column; width = length (form_of i.operation).word; cause = cause.Part (part.NoEnd program.text) }

abbrev pub unless_end : InstrDraft → Word → Result (Unit {0}) Fault
unless_end i program = if is_end i.operation then Ok tt else Err (no_end i program)

abbrev pub ends : ProgramDraftView → Option InstrDraft → Result (Unit {0}) Fault
ends p None = about p.line p.name about_word.NoInstruction
ends p (Some i) = unless_end i p.name

unfoldable pub whole_program : ProgramDraftView → Result (Unit {0}) Fault
whole_program p = do
  _ ← unless_alone (find (λ l. l.place == length p.instrs) p.labels)
  ends p (slice_get p.instrs (length p.instrs - 1))
