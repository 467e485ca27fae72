-- What each line of a source says, after those before it; and the draft of a whole source.
use Rattle.std.specs.Prelude.{ℕ, ◌+◌, ◌-◌, ◌==◌, Bool, ◌&&◌, ◌||◌, nat_lt, if◌then◌else◌, List, [], ◌∷◌, ◌++◌, length, find, Option, Some, None, Result, Ok, Err}
use Rattle.std.specs.Option.{option_map}
use Rattle.std.specs.Str.{bytes_eq}
use Rattle.sa_base.specs.declared.limits.TheConstants.{MAX_SPACES}
use Rattle.sa_instr.specs.declared.limits.TheConstants.{MAX_PROGRAMS}
use Rattle.sa_instr.specs.declared.operation.Operation.{Operation}
use Rattle.sa_text.specs.declared.line_reader.Line.{Line}
use Rattle.sa_text.specs.Line.{lines_of, text_of_line}
use Rattle.toga_lines.specs.Content.{content_of}
use Rattle.toga_diagnostic.specs.declared.cause.About.TheVariants as about_word
use Rattle.toga_diagnostic.specs.declared.cause.Cause.{Cause}
use Rattle.toga_diagnostic.specs.declared.cause.Cause.TheVariants as cause
use Rattle.toga_diagnostic.specs.declared.cause.Fault.{Fault}
use Rattle.toga_diagnostic.specs.declared.cause.Kind.TheVariants as kind
use Rattle.toga_diagnostic.specs.declared.cause.Next.TheVariants as next
use Rattle.toga_diagnostic.specs.declared.cause.Part.TheVariants as part
use Rattle.toga_diagnostic.specs.declared.cause.Stage.{Stage}
use Rattle.toga_diagnostic.specs.declared.cause.Stage.TheVariants as stage
use Rattle.toga_diagnostic.specs.declared.cause.Twice.TheVariants as twice
use Rattle.toga_diagnostic.specs.declared.cause.Wanted.TheVariants as wanted
use Rattle.toga_diagnostic.specs.Text.{is_label}
use Rattle.toga_draft.specs.declared.first.Declaration.{Declaration}
use Rattle.toga_draft.specs.declared.first.Declaration.TheVariants as declaration
use Rattle.toga_draft.specs.declared.first.First.{First}
use Rattle.toga_draft.specs.declared.first.First.TheVariants as first
use Rattle.toga_draft.specs.declared.first.SettingWord.{SettingWord}
use Rattle.toga_draft.specs.declared.first.SettingWord.TheVariants as setting
use Rattle.toga_draft.specs.declared.reader.TheConstants.{FETCH, MAX_SOURCE, PROCESSORS, SLICE}
use Rattle.toga_draft.specs.declared.word.Word.{Word}
use Rattle.toga_draft.specs.Declarations.{at_most, declare, new_name, set_once}
use Rattle.toga_draft.specs.Draft.{DraftView, SpaceDraftView, value_or}
use Rattle.toga_draft.specs.First.{first_of, misplaced}
use Rattle.toga_draft.specs.Operands.{add_turn, name_in}
use Rattle.toga_draft.specs.Programs.{add_instr, add_label, whole_program}
use Rattle.toga_draft.specs.Reading.{◌>>=◌, in_turn}
use Rattle.toga_draft.specs.State.{State, program_from, space_from, start}
use Rattle.toga_draft.specs.Words.{refused, about, count_words, no_word, nth, some_words, words_in}

-- a number of the machine
unfoldable pub read_setting : ℕ → Word → List Word → SettingWord → State → Result State Fault
read_setting line word operands setting.Processors s =
    set_once line word operands PROCESSORS s.processors >>= λ n. Ok (record s { processors = n })
read_setting line word operands setting.Fetch s = set_once line word operands FETCH s.fetch >>= λ n. Ok (record s { fetch = n })
read_setting line word operands setting.Slice s = set_once line word operands SLICE s.slice >>= λ n. Ok (record s { slice = n })

-- the program that is read ends, if one is
abbrev pub with_program : State → State
with_program s = record s {
  space = record s.space { programs = s.space.programs ++ s.program ∷ [] };
  program = program_from no_word 0;
}

abbrev pub end_program_at : Stage → State → Result State Fault
end_program_at stage.InProgram s = whole_program s.program >>= λ _. Ok (with_program s)
end_program_at _ s = Ok s

unfoldable pub end_program : State → Result State Fault
end_program s = end_program_at s.stage s

-- the space that is read ends, if anything of it was read
abbrev pub no_program : SpaceDraftView → Fault
no_program space = record { line = space.line; column = 1; width = 1; cause = cause.Part (part.NoProgram space.name) }

abbrev pub with_space : State → State
with_space s = record s { spaces = s.spaces ++ s.space ∷ []; space = space_from [] 0 }

abbrev pub end_space_at : Stage → State → Result State Fault
end_space_at stage.Top s = Ok s
end_space_at stage.Declaring s = Err (no_program s.space)
end_space_at _ s = Ok (with_space s)

unfoldable pub end_space : State → Result State Fault
end_space s = end_space_at s.stage s

-- a space begins
abbrev pub space_line : List SpaceDraftView → List ℕ → Option ℕ
space_line spaces name = option_map (λ s. s.line) (find (λ s. bytes_eq s.name name) spaces)

abbrev pub unless_space : ℕ → Word → Option ℕ → Result (Unit {0}) Fault
unless_space line word (Some earlier) = refused line word (cause.Twice (twice.Name earlier kind.Space))
unless_space line word None = Ok tt

unfoldable pub new_space : ℕ → Word → List Word → List SpaceDraftView → Result Word Fault
new_space line word operands spaces = do
  _ ← at_most line word kind.Space MAX_SPACES (length spaces)
  _ ← count_words line word operands 1 1 next.Name
  _ ← name_in line (nth operands 0)
  _ ← unless_space line (nth operands 0) (space_line spaces (nth operands 0).text)
  Ok (nth operands 0)

unfoldable pub read_space : ℕ → Word → List Word → State → Result State Fault
read_space line word operands s = do
  before ← end_program s
  ended ← end_space before
  name ← new_space line word operands ended.spaces
  Ok (record ended { stage = stage.Declaring; space = space_from name.text line })

-- before any line `space`, the unnamed space begins with its first declaration or program
abbrev pub opened_at : Stage → ℕ → State → State
opened_at stage.Top line s = record s { stage = stage.Declaring; space = record s.space { line = line } }
opened_at _ line s = s

unfoldable pub opened : ℕ → State → State
opened line s = opened_at s.stage line s

-- a declaration
abbrev pub one_more : Declaration → ℕ → ℕ
one_more declaration.Evict n = n + 1
one_more _ n = n

unfoldable pub declare_in : ℕ → Word → List Word → Declaration → State → Result State Fault
declare_in line word operands d s = do
  space ← declare line word operands s.evictions d s.space
  Ok (record s { space = space; evictions = one_more d s.evictions })

unfoldable pub read_declaration : ℕ → Word → List Word → Declaration → State → Result State Fault
read_declaration line word operands d s = declare_in line word operands d (opened line s)

-- a program begins
unfoldable pub new_program : ℕ → Word → List Word → SpaceDraftView → Result Word Fault
new_program line word operands space = do
  _ ← at_most line word kind.Program MAX_PROGRAMS (length space.programs)
  _ ← count_words line word operands 1 1 next.Name
  _ ← new_name line (nth operands 0) space
  Ok (nth operands 0)

unfoldable pub read_program : ℕ → Word → List Word → State → Result State Fault
read_program line word operands s = do
  ended ← end_program s
  name ← new_program line word operands (opened line ended).space
  Ok (record (opened line ended) { stage = stage.InProgram; program = program_from name line })

-- an instruction
unfoldable pub read_instr : ℕ → Operation → Word → List Word → State → Result State Fault
read_instr line o word operands s = add_instr line o word operands s.program >>= λ p. Ok (record s { program = p })

-- turns
unfoldable pub read_turns : ℕ → Word → List Word → State → Result State Fault
read_turns line word operands s = do
  ended ← end_program s
  _ ← some_words line word operands next.Turn
  turns ← in_turn (add_turn line (value_or s.processors 2 - 1)) operands ended.turns
  Ok (record ended { stage = stage.AfterTurns; turns = turns })

-- a line, by what its first word says that it is
unfoldable pub read_by : ℕ → Word → List Word → First → State → Result State Fault
read_by line word operands (first.Setting n) s = read_setting line word operands n s
read_by line word operands (first.Declaration d) s = read_declaration line word operands d s
read_by line word operands first.Space s = read_space line word operands s
read_by line word operands first.Program s = read_program line word operands s
read_by line word operands first.Turns s = read_turns line word operands s
read_by line word operands (first.Instr o) s = read_instr line o word operands s
read_by line word operands first.Workload s = about line word about_word.Plain
read_by line word operands first.Unknown s = refused line word (cause.Wanted (wanted.First s.stage))

abbrev pub unless_misplaced : ℕ → Word → Option Cause → Result (Unit {0}) Fault
unless_misplaced line word (Some c) = refused line word c
unless_misplaced line word None = Ok tt

unfoldable pub read_first : ℕ → Word → List Word → First → State → Result State Fault
read_first line word operands f s = do
  _ ← unless_misplaced line word (misplaced f s.stage)
  read_by line word operands f s

-- a label, and what may follow it: an instruction
abbrev pub label_at : Stage → ℕ → Word → State → Result State Fault
label_at stage.InProgram line word s = add_label line word s.program >>= λ p. Ok (record s { program = p })
label_at stage.AfterTurns line word s = about line word about_word.AfterTurns
label_at _ line word s = about line word about_word.LabelOutside

unfoldable pub read_label : ℕ → Word → State → Result State Fault
read_label line word s = label_at s.stage line word s

abbrev pub after_label_by : ℕ → Word → List Word → First → State → Result State Fault
after_label_by line word operands (first.Instr o) s = read_instr line o word operands s
after_label_by line word operands _ s = about line word about_word.AfterLabel

unfoldable pub read_after_label : ℕ → List Word → State → Result State Fault
read_after_label line [] s = Ok s
read_after_label line (word ∷ operands) s = after_label_by line word operands (first_of word.text) s

-- the words of a line
unfoldable pub read_words : ℕ → List Word → State → Result State Fault
read_words line [] s = Ok s
read_words line (word ∷ words) s =
    if is_label word.text then read_label line word s >>= read_after_label line words
    else read_first line word words (first_of word.text) s

-- a line
unfoldable pub read_line : ℕ → List ℕ → State → Result State Fault
read_line line content s = words_in line content >>= λ words. read_words line words s

-- a line of a text; none goes beyond the bytes that a source has at most
abbrev pub is_beyond : Line → Bool
is_beyond line = nat_lt MAX_SOURCE line.end || (line.ended && (line.end == MAX_SOURCE))

abbrev pub too_long : Line → Fault
too_long line = record { line = line.number; column = MAX_SOURCE + 1 - line.start; width = 1; cause = cause.Part part.TooLong }

unfoldable pub read_line_of : List ℕ → Line → State → Result State Fault
read_line_of text line s =
    if is_beyond line then Err (too_long line)
    else read_line line.number (content_of (text_of_line text line).bytes) (record s { last = line.number })

-- the end of all lines
abbrev pub empty : ℕ → Fault
empty last = record { line = last; column = 1; width = 1; cause = cause.Part part.Empty }

abbrev pub unless_empty : Stage → ℕ → Result (Unit {0}) Fault
unless_empty stage.Top last = Err (empty last)
unless_empty _ last = Ok tt

abbrev pub draft_from : State → DraftView
draft_from s = record { processors = s.processors; fetch = s.fetch; slice = s.slice; spaces = s.spaces; turns = s.turns; last = s.last }

unfoldable pub end_of_lines : State → Result DraftView Fault
end_of_lines s = do
  before ← end_program s
  _ ← unless_empty before.stage before.last
  ended ← end_space before
  Ok (draft_from ended)

-- a whole source: its lines one after another, and their end
unfoldable pub draft_of : List ℕ → Result DraftView Fault
draft_of text = do
  s ← in_turn (read_line_of text) (lines_of text) start
  end_of_lines s
