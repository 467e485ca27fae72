-- What a text is read as.
use Rattle.std.specs.Prelude.{◌≡◌, ℕ, Bool, false, if◌then◌else◌, List, [], ◌∷◌, codes, nat_eq, slice_get, slice_range, Option, None, Some, Result, Ok, Err, ⊤}
use Rattle.std.specs.List.{flat_map, starts_with}
use Rattle.std.specs.Option.{is_some}
use Rattle.sa_base.specs.declared.refusal.Bad.{Bad}
use Rattle.sa_base.specs.declared.refusal.Unread.{Unread as NoWorkload}
use Rattle.sa_base.specs.declared.refusal.Unread.TheVariants as no_workload
use Rattle.sa_instr.specs.Operation.{operation_of}
use Rattle.sa_spaces.specs.Workload.{WorkloadView}
use Rattle.sa_text.specs.declared.line_reader.Line.{Line}
use Rattle.sa_text.specs.Line.{lines_of}
use Rattle.sa_text.specs.Pieces.{pieces_of}
use Rattle.sa_workload.specs.Reading.{read_of}
use Rattle.toga_diagnostic.specs.declared.cause.Fault.{Fault}
use Rattle.toga_source.specs.Plain.{plain_names}
use Rattle.toga_draft.specs.declared.unread.Unread.{Unread as NoDraft}
use Rattle.toga_draft.specs.declared.unread.Unread.TheVariants as no_draft
use Rattle.toga_draft.specs.Lines.{draft_of}
use Rattle.toga_draft.specs.Reading.{◌>>=◌}
use Rattle.toga_read.specs.declared.unread.Unread.{Unread}
use Rattle.toga_read.specs.declared.unread.Unread.TheVariants.{Wrong, Workload, OutOfMemory}
use Rattle.toga_read.specs.Source.{source_of}
use Rattle.toga_read.specs.SourceFields.{SourceView}

-- the first word of a line is that of an instruction
abbrev pub is_instr_word : Option (List ℕ) → Bool
is_instr_word (Some word) = is_some (operation_of word)
is_instr_word None = false

-- the number of a line of a text, where it begins with the word of an instruction
abbrev pub instr_line : List ℕ → Line → List ℕ
instr_line text line =
    if is_instr_word (slice_get (pieces_of (slice_range text line.start line.end)) 0) then line.number ∷ [] else []

-- the lines of the instructions of a workload text
abbrev pub instr_lines : List ℕ → List ℕ
instr_lines text = flat_map (instr_line text) (lines_of text)

-- the source that the text of a workload is: its names are plain, and its lines its own
abbrev pub plain_source : List ℕ → WorkloadView → SourceView
plain_source text w = record { workload = w; names = plain_names w; lines = instr_lines text }

-- what a text that begins as a workload text is read as
abbrev pub plain_by : List ℕ → Result WorkloadView Bad → Result SourceView Unread
plain_by text (Ok w) = Ok (plain_source text w)
plain_by text (Err bad) = Err (Workload bad)

unfoldable pub plain_of : List ℕ → Result SourceView Unread
plain_of text = plain_by text (read_of 3 text)

-- what any other text is read as: the first fault of its form, else of its draft
abbrev pub or_wrong : Result SourceView Fault → Result SourceView Unread
or_wrong (Ok source) = Ok source
or_wrong (Err fault) = Err (Wrong fault)

unfoldable pub lines_read : List ℕ → Result SourceView Unread
lines_read text = or_wrong (draft_of text >>= source_of)

-- the source that a text is
unfoldable pub read : List ℕ → Result SourceView Unread
read text = if starts_with nat_eq text (codes "workload") then plain_of text else lines_read text

-- the text is refused, so; want of memory says nothing
abbrev pub Refuses : {A : Type 0} → Unread → Result A Unread → Type 0
Refuses OutOfMemory outcome = ⊤
Refuses unread outcome = outcome ≡ Err unread

-- why there is no source where there is no workload
abbrev pub refusal : NoWorkload → Unread
refusal (no_workload.Bad bad) = Workload bad
refusal no_workload.OutOfMemory = OutOfMemory

-- why there is no source where there is no draft, or no source of it
abbrev pub unread_by : NoDraft → Unread
unread_by (no_draft.Wrong fault) = Wrong fault
unread_by no_draft.OutOfMemory = OutOfMemory
