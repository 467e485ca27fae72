-- Where a text is wrong, and why: the first line that no text has in its place, and the first cause that applies to it.
-- All of it speaks of the lines of the text, and of the workloads whose texts begin with the lines before.
use Rattle.std.specs.Prelude.{◌≡◌, ◌≢◌, ◌⊎◌, ℕ, ◌+◌, ◌-◌, ◌^◌, ◌≤◌, ◌==◌, ◌&&◌, ◌||◌, not, nat_lt, nat_le, if◌then◌else◌, Bool, true, false, List, [], ◌∷◌, ◌++◌, length, map, take, filter, count_by, slice_get, slice_index_or, MatchOption, unwrap_or, Option, Some, None, Result, Ok, Err, All, Contains, drop, codes}
use Rattle.sa_base.specs.Cause.{cause_number}
use Rattle.sa_base.specs.declared.refusal.Cause.TheVariants.{NotAscii, BadWord, OutOfRange, NoSuchName, BadTarget, TooMany, Missing}
use Rattle.std.specs.Map.{lookup}
use Rattle.std.specs.Str.Parse.{digits_value}
use Rattle.std.specs.List.{list_all}
use Rattle.std.specs.Option.{is_some}
use Rattle.std.specs.Str.{bytes_eq}
use Rattle.sa_base.specs.declared.limits.TheConstants.{FIRST_THREAD_PAGE, MAX_EVENTS, MAX_PROCESSORS, MAX_SPACES}
use Rattle.sa_instr.specs.declared.limits.TheConstants.{LAST_PAGE, MAX_CELLS, MAX_EVICTIONS, MAX_FETCH, MAX_INSTRUCTIONS, MAX_IO_LENGTH, MAX_MUTEXES, MAX_PATIENCE, MAX_PRIORITY, MAX_PROGRAMS, MAX_SEMAPHORES, MAX_SLICE, MAX_START, MAX_TURNS}
use Rattle.sa_instr.specs.declared.operand.OperandKind.{OperandKind}
use Rattle.sa_instr.specs.declared.operand.OperandKind.TheVariants as Operands
use Rattle.sa_instr.specs.declared.operation.TheConstants.{OPERATIONS}
use Rattle.sa_instr.specs.Operation.{form_of}
use Rattle.sa_spaces.specs.Workload.{WorkloadView, IsWorkload}
use Rattle.sa_text.specs.LineText.{LineText, line_texts}
use Rattle.sa_text.specs.Pieces.{pieces_of}
use Rattle.sa_workload.specs.Text.{workload_lines, version_of}
use Rattle.sa_workload.specs.Fields.{index_of, line_numbers}
pub use Rattle.sa_workload.specs.Fields.{Field, Register, Number, registers, list_lt}

-- a workload whose text is of one of that many versions
pub record IsUpTo (versions : ℕ) (w : WorkloadView) : Type 0 where
  pub workload : IsWorkload w
  pub version : version_of w ≤ versions

-- some text begins with these lines
pub record Begins (versions : ℕ) (lines : List (List (List ℕ))) : Type 0 where
  pub workload : WorkloadView
  pub accepted : IsUpTo versions workload
  pub more : List (List (List ℕ))
  pub text : workload_lines workload ≡ lines ++ more

-- some text goes on after these lines with a line that begins with this word
pub record MayFollow (versions : ℕ) (lines : List (List (List ℕ))) (word : List ℕ) : Type 0 where
  pub others : List (List ℕ)
  pub begins : Begins versions (lines ++ (word ∷ others) ∷ [])

-- the words that instructions begin with
abbrev pub instr_words : List (List ℕ)
instr_words = map (λ operation. (form_of operation).word) OPERATIONS

-- the first word of a line
abbrev pub first_word : List (List ℕ) → List ℕ
first_word line = slice_index_or line 0 []

-- the last line before, empty where there is none
abbrev pub last_line : List (List (List ℕ)) → List (List ℕ)
last_line lines = slice_index_or lines (length lines - 1) []

-- the words of lines of which as many may follow each other as their order and their limit allow
abbrev pub repeated_words : List (List ℕ)
repeated_words = codes "absent" ∷ codes "evict" ∷ codes "turn" ∷ []

-- The word may begin a line here: some text goes on with it; or it is an instruction's and some text goes on with an
-- instruction; or it is one of the repeated words and follows a line of the same word.
abbrev pub IsRightWord : ℕ → List (List (List ℕ)) → List ℕ → Type 0
IsRightWord versions lines word =
    MayFollow versions lines word
    ⊎ ((Contains instr_words word × ((other : List ℕ) × Contains instr_words other × MayFollow versions lines other))
    ⊎ (Contains repeated_words word × (first_word (last_line lines) ≡ word)))

-- how many lines begin with the word
abbrev pub count_of_word : List (List (List ℕ)) → List ℕ → ℕ
count_of_word lines word = count_by (λ line. bytes_eq (first_word line) word) lines

-- an evict or turn line more than there may be
abbrev pub IsTooMany : List (List (List ℕ)) → List ℕ → Type 0
IsTooMany lines word =
    ((word ≡ codes "evict") × (MAX_EVICTIONS ≤ count_of_word lines word)) ⊎ ((word ≡ codes "turn") × (MAX_TURNS ≤ count_of_word lines word))

-- a number between these two
abbrev pub within : ℕ → ℕ → Field
within low high = Number (λ n. nat_le low n && nat_le n high) (cause_number OutOfRange)

-- a name below the number of those that are declared
abbrev pub declared : ℕ → Field
declared count = Number (λ n. nat_lt n count) (cause_number NoSuchName)

-- the number that a word of a line spells
abbrev pub number_in : List (List ℕ) → ℕ → ℕ
number_in line k = digits_value 10 (slice_index_or line k [])

-- the last of the lines that begins with the word
abbrev pub last_with : List ℕ → List (List (List ℕ)) → List (List ℕ)
last_with word lines = last_line (filter (λ line. bytes_eq (first_word line) word) lines)

-- the numbers that lines declare: of the machine, of the last space, and of the last program; and whether the next space is the
-- last and each before it has patience 1
pub record DeclaredNumbers : Type 0 where
  pub version : ℕ
  pub processors : ℕ
  pub spaces : ℕ
  pub mutexes : ℕ
  pub semaphores : ℕ
  pub cells : ℕ
  pub programs : ℕ
  pub instructions : ℕ
  pub needs_patience : Bool

-- what lines declare
abbrev pub numbers_in : List (List (List ℕ)) → DeclaredNumbers
numbers_in lines =
    let spaces : ℕ = number_in (last_with (codes "spaces") lines) 1 in
    let space : List (List ℕ) = last_with (codes "space") lines in record {
      version = number_in (last_with (codes "workload") lines) 1;
      processors = number_in (last_with (codes "processors") lines) 1;
      spaces = spaces;
      mutexes = number_in space 2;
      semaphores = number_in space 3;
      cells = number_in space 4;
      programs = number_in space 5;
      instructions = number_in (last_with (codes "program") lines) 1;
      needs_patience = nat_le spaces (count_of_word lines (codes "space") + 1)
          && list_all (λ line. not (bytes_eq (first_word line) (codes "space")) || (number_in line 6 == 1)) lines;
    }

-- in version 3 a space line has its patience, which is at least 2 in the last one where each before it has 1
abbrev pub patience_field : DeclaredNumbers → List Field
patience_field n = if n.version == 3 then within (if n.needs_patience then 2 else 1) MAX_PATIENCE ∷ [] else []

-- an operand of an instruction
abbrev pub operand_field : DeclaredNumbers → OperandKind → Field
operand_field n Operands.Register = Register
operand_field n Operands.Value = within 0 (2 ^ 64 - 1)
operand_field n Operands.Place = Number (λ place. nat_lt place n.instructions) (cause_number BadTarget)
operand_field n Operands.Cell = declared n.cells
operand_field n Operands.Program = declared n.programs
operand_field n Operands.Mutex = declared n.mutexes
operand_field n Operands.Semaphore = declared n.semaphores
operand_field n Operands.Length = within 1 MAX_IO_LENGTH
operand_field n Operands.Page = within FIRST_THREAD_PAGE LAST_PAGE

-- the first word of each line with what follows it
abbrev pub line_forms : ℕ → DeclaredNumbers → List (List ℕ × List Field)
line_forms versions n =
    (codes "workload", within 1 versions ∷ [])
    ∷ (codes "processors", within 1 MAX_PROCESSORS ∷ [])
    ∷ (codes "fetch", within 1 MAX_FETCH ∷ [])
    ∷ (codes "slice", within (if n.version == 3 then 0 else 1) MAX_SLICE ∷ [])
    ∷ (codes "spaces", within 1 MAX_SPACES ∷ [])
    ∷ (codes "space", within 0 MAX_PRIORITY ∷ within 0 MAX_MUTEXES ∷ within 0 MAX_SEMAPHORES ∷ within 0 MAX_CELLS ∷ within 1 MAX_PROGRAMS ∷ patience_field n)
    ∷ (codes "sem", within 0 MAX_START ∷ [])
    ∷ (codes "absent", within 0 LAST_PAGE ∷ [])
    ∷ (codes "program", within 1 MAX_INSTRUCTIONS ∷ [])
    ∷ (codes "evict", within 1 MAX_EVENTS ∷ declared n.spaces ∷ within 0 LAST_PAGE ∷ [])
    ∷ (codes "turn", within 0 (n.processors - 1) ∷ [])
    ∷ map (λ operation. ((form_of operation).word, map (operand_field n) (form_of operation).operands)) OPERATIONS

-- what follows a first word; `close` has nothing
abbrev pub fields_by : ℕ → DeclaredNumbers → List ℕ → List Field
fields_by versions n word = unwrap_or (lookup (bytes_eq word) (line_forms versions n)) []

abbrev pub fields_behind : ℕ → List (List (List ℕ)) → List ℕ → List Field
fields_behind versions lines word = fields_by versions (numbers_in lines) word

-- the numbers after the first word of a line
abbrev pub numbers_of : ℕ → List (List ℕ) → List ℕ
numbers_of count line = map (digits_value 10) (take count (drop 1 line))

-- the words whose lines keep an order
abbrev pub ordered_words : List (List ℕ)
ordered_words = codes "absent" ∷ codes "evict" ∷ []

-- a line of the word has to come after the last line
abbrev pub is_ordered : List (List ℕ) → List ℕ → Bool
is_ordered last word = is_some (index_of word ordered_words) && bytes_eq (first_word last) word

-- the numbers of the last line, where a line of the word has to come after it
abbrev pub numbers_before : List (List ℕ) → List ℕ → ℕ → Option (List ℕ)
numbers_before last word count = if is_ordered last word then Some (numbers_of count last) else None

-- the cause of words that were read so; where all are right, something is missing
abbrev pub cause_in : Result (List ℕ) ℕ → ℕ
cause_in (Ok ns) = cause_number Missing
cause_in (Err why) = why

-- the first cause that applies after a right first word
abbrev pub field_cause : List (List (List ℕ)) → List Field → List ℕ → List (List ℕ) → ℕ
field_cause lines fields word words = cause_in (line_numbers fields (numbers_before (last_line lines) word (length fields)) words)

-- The first cause that applies to the words of a line: a word that may not begin it; one line too many; the
-- first wrong word, or its order; a word too many; and where all words are right, the last instruction is not `end`.
abbrev pub WordCause : ℕ → List (List (List ℕ)) → List (List ℕ) → ℕ → Type 0
WordCause versions lines [] why = ⊥
WordCause versions lines (word ∷ words) why =
    ((¬ IsRightWord versions lines word) × (why ≡ cause_number BadWord))
    ⊎ (IsRightWord versions lines word
    × ((IsTooMany lines word × (why ≡ cause_number TooMany))
    ⊎ ((¬ IsTooMany lines word) × (field_cause lines (fields_behind versions lines word) word words ≡ why))))

-- every byte is one of the printed ASCII characters
abbrev pub IsPrinted : List ℕ → Type 0
IsPrinted bytes = All (λ b. (32 ≤ b) × (b ≤ 126)) bytes

-- the first cause that applies to a line: another byte; no line feed; or its words
abbrev pub LineCause : ℕ → List (List (List ℕ)) → LineText → ℕ → Type 0
LineCause versions lines line why =
    ((¬ IsPrinted line.bytes) × (why ≡ cause_number NotAscii))
    ⊎ (IsPrinted line.bytes
    × (((line.ended ≡ false) × (why ≡ cause_number Missing)) ⊎ ((line.ended ≡ true) × WordCause versions lines (pieces_of line.bytes) why)))

-- the lines of some bytes, in words
abbrev pub words_of : List LineText → List (List (List ℕ))
words_of ls = map (λ (l : LineText). pieces_of l.bytes) ls

-- Of these lines, the first k - 1 begin a text, and no text goes on with the k-th; or the k-th is missing, and the lines are no
-- whole text. And this is the first cause that applies to the k-th.
pub record IsBad (versions : ℕ) (ls : List LineText) (k why : ℕ) : Type 0 where
  pub number : 1 ≤ k
  pub ended : All (λ (l : LineText). l.ended ≡ true) (take (k - 1) ls)
  pub begins : Begins versions (words_of (take (k - 1) ls))
  pub wrong : MatchOption (slice_get ls (k - 1))
      ((k ≡ length ls + 1) × ((w : WorkloadView) → IsUpTo versions w → workload_lines w ≢ words_of ls) × (why ≡ cause_number Missing))
      (λ line. (line.ended ≡ true → ¬ Begins versions (words_of (take (k - 1) ls) ++ pieces_of line.bytes ∷ []))
      × LineCause versions (words_of (take (k - 1) ls)) line why)

-- The bytes are bad at line k, counted from 1, with this cause; by all versions, and by version 1 alone.
abbrev pub BadAt : List ℕ → ℕ → ℕ → Type 0
BadAt bytes k why = IsBad 3 (line_texts bytes) k why

abbrev pub BadAt1 : List ℕ → ℕ → ℕ → Type 0
BadAt1 bytes k why = IsBad 1 (line_texts bytes) k why
