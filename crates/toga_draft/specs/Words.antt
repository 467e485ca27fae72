-- The words of a line, and the faults that are about a word.
use Rattle.std.specs.Prelude.{ℕ, ◌+◌, ◌-◌, not, nat_lt, if◌then◌else◌, List, [], ◌∷◌, length, map, position, take, slice_index, slice_index_or, Option, Some, None, Result, Ok, Err}
use Rattle.toga_lines.specs.declared.words.Place.{Place}
use Rattle.toga_lines.specs.Content.{is_plain}
use Rattle.toga_lines.specs.Words.{places_of, word_at}
use Rattle.toga_diagnostic.specs.declared.cause.Cause.{Cause}
use Rattle.toga_diagnostic.specs.declared.cause.Cause.TheVariants as cause
use Rattle.toga_diagnostic.specs.declared.cause.About.{About}
use Rattle.toga_diagnostic.specs.declared.cause.Fault.{Fault}
use Rattle.toga_diagnostic.specs.declared.cause.Next.{Next}
use Rattle.toga_diagnostic.specs.declared.cause.Part.TheVariants as part
use Rattle.toga_draft.specs.declared.word.Word.{Word}

-- the fault of a word
abbrev pub fault_at : ℕ → Word → Cause → Fault
fault_at line word cause = record { line = line; column = word.column; width = length word.text; cause = cause }

-- what is refused because of a word
abbrev pub refused : {A : Type 0} → ℕ → Word → Cause → Result A Fault
refused line word cause = Err (fault_at line word cause)

abbrev pub about : {A : Type 0} → ℕ → Word → About → Result A Fault
about line word a = refused line word (cause.About a)

-- the words of the content of a line, with their columns, from 1
abbrev pub word_in : List ℕ → Place → Word
word_in content place = record { text = word_at content place; column = place.from + 1 }

abbrev pub words_of : List ℕ → List Word
words_of content = map (word_in content) (places_of content)

-- the words, unless a byte is neither a printed ASCII character nor a tab: then the first such byte
abbrev pub bad_byte : ℕ → ℕ → ℕ → Fault
bad_byte line at byte = record { line = line; column = at + 1; width = 1; cause = cause.Part (part.BadByte byte) }

abbrev pub words_unless : ℕ → List ℕ → Option ℕ → Result (List Word) Fault
words_unless line content None = Ok (words_of content)
words_unless line content (Some at) = Err (bad_byte line at (slice_index content at))

unfoldable pub words_in : ℕ → List ℕ → Result (List Word) Fault
words_in line content = words_unless line content (position (λ b. not (is_plain b)) content)

-- the word of this number, from 0
abbrev pub no_word : Word
no_word = record { text = []; column = 0 }

abbrev pub nth : List Word → ℕ → Word
nth words n = slice_index_or words n no_word

-- the fault behind the last word of a line: this should follow
abbrev pub too_few : ℕ → Word → Next → Fault
too_few line last next = record { line = line; column = last.column + length last.text; width = 1; cause = cause.TooFew next }

-- A line has at least so many operands, and at most so many; else the first that is too much, or what should follow the last word.
unfoldable pub count_words : ℕ → Word → List Word → ℕ → ℕ → Next → Result (Unit {0}) Fault
count_words line word operands least most next =
    if nat_lt most (length operands) then refused line (nth operands most) (cause.TooMany most)
    else (if nat_lt (length operands) least then Err (too_few line (slice_index_or operands (length operands - 1) word) next) else Ok tt)

-- there is an operand
unfoldable pub some_words : ℕ → Word → List Word → Next → Result (Unit {0}) Fault
some_words line word [] next = Err (too_few line word next)
some_words line word (operand ∷ operands) next = Ok tt

-- a word without its last byte, the colon of a label
abbrev pub without_colon : Word → Word
without_colon word = record { text = take (length word.text - 1) word.text; column = word.column }
