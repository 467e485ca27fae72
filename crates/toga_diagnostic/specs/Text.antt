-- The whole text of an error.
use Rattle.std.specs.Prelude.{ℕ, ◌+◌, ◌-◌, ◌==◌, ◌&&◌, Bool, nat_lt, if◌then◌else◌, List, [], ◌++◌, length, drop, slice_get, slice_index, codes}
use Rattle.std.specs.Option.{option_map, unwrap_or}
use Rattle.toga_lines.specs.declared.words.Place.{Place}
use Rattle.toga_lines.specs.Content.{content_of}
use Rattle.toga_lines.specs.Words.{places_of, word_at}
use Rattle.toga_diagnostic.specs.declared.cause.Cause.{Cause}
use Rattle.toga_diagnostic.specs.declared.cause.Cause.TheVariants as cause
use Rattle.toga_diagnostic.specs.declared.cause.Part.TheVariants as part
use Rattle.toga_diagnostic.specs.declared.cause.Fault.{Fault}
use Rattle.toga_diagnostic.specs.Listed.{counted}
use Rattle.toga_diagnostic.specs.Sentence.{about_text, wanted_text, twice_text, missing_text, part_text, few_text, many_text}
use Rattle.toga_diagnostic.specs.Shown.{shown_line, carets_text}

-- the word of this number of a line; none where there is no such word
abbrev pub nth_word : List ℕ → List Place → ℕ → List ℕ
nth_word content words number = unwrap_or (option_map (word_at content) (slice_get words number)) []

-- a word ends with a colon
abbrev pub is_label : List ℕ → Bool
is_label word = nat_lt 0 (length word) && (slice_index word (length word - 1) == 58)

-- the words of a line without its label, where others follow that
abbrev pub words_after_label : List ℕ → List Place → List Place
words_after_label content places =
    if nat_lt 1 (length places) && is_label (nth_word content places 0) then drop 1 places else places

-- the sentence of a cause: it is about a word, in a line of these words
abbrev pub cause_text : List ℕ → List Place → Cause → List ℕ → List ℕ
cause_text content words (cause.About about) word = about_text about word
cause_text content words (cause.Wanted wanted) word = wanted_text wanted word
cause_text content words (cause.Twice twice) word = twice_text twice word
cause_text content words (cause.Missing missing) word = missing_text missing word
cause_text content words (cause.Part part) word = part_text part word
cause_text content words (cause.TooFew next) word = few_text next (nth_word content words 0)
cause_text content words (cause.TooMany most) word =
    many_text most word (nth_word content words 0) (nth_word content words 1) (nth_word content words 2)

-- the bytes that an error is about
abbrev pub word_of : List ℕ → Fault → List ℕ
word_of content fault = word_at content (record { from = fault.column - 1; to = fault.column - 1 + fault.width })

unfoldable pub sentence_text : List ℕ → Fault → List ℕ
sentence_text content fault = cause_text content (words_after_label content (places_of content)) fault.cause (word_of content fault)

-- what is shown of a line: all of it where the source is too long, else what is no comment
abbrev pub said_of : Cause → List ℕ → List ℕ
said_of (cause.Part part.TooLong) line = line
said_of _ line = content_of line

-- where an error is
unfoldable pub place_text : List ℕ → Fault → List ℕ
place_text name fault = name ++ counted (codes ":") fault.line (codes ":") ++ counted (codes "") fault.column (codes ": error: ")

-- its line, and the carets below it
unfoldable pub seen_text : List ℕ → Fault → List ℕ
seen_text line fault = shown_line fault.line fault.column line ++ carets_text fault.column fault.width

-- the text of an error: where it is, what it is, and the line with carets below it
unfoldable pub diagnostic_text : List ℕ → List ℕ → Fault → List ℕ
diagnostic_text name line fault =
    place_text name fault ++ sentence_text (content_of line) fault ++ codes "\n" ++ seen_text (said_of fault.cause line) fault
