-- A source with a schedule as its turns.
use Rattle.std.specs.Prelude.{ℕ, ◌-◌, ◌==◌, ◌++◌, Bool, true, false, List, [], ◌∷◌, length, take, if◌then◌else◌, codes, slice_get}
use Rattle.std.specs.Option.{option_map, unwrap_or}
use Rattle.std.specs.Str.{bytes_eq}
use Rattle.sa_base.specs.declared.number.ProcNo.{ProcNo}
use Rattle.sa_text.specs.LineText.{LineText, line_texts, whole_line}
use Rattle.toga_lines.specs.Content.{content_of}
use Rattle.toga_lines.specs.Words.{places_of, word_at}
use Rattle.toga_source.specs.Show.{schedule_text}

-- the first word of a line, and whether the line is one of turns
abbrev pub first_word : List ℕ → List ℕ
first_word content = unwrap_or (option_map (word_at content) (slice_get (places_of content) 0)) []

abbrev pub has_turns : List ℕ → Bool
has_turns line = bytes_eq (first_word (content_of line)) (codes "turns")

-- the lines before the first one of turns
abbrev pub before_turns : List LineText → List ℕ
before_turns [] = []
before_turns (l ∷ ls) = if has_turns l.bytes then [] else whole_line l ++ before_turns ls

-- a text without the line feed at its end
abbrev pub ends_line : List ℕ → Bool
ends_line text = unwrap_or (option_map (λ b. b == 10) (slice_get text (length text - 1))) false

abbrev pub without_feed : List ℕ → List ℕ
without_feed text = if ends_line text then take (length text - 1) text else text

unfoldable pub given_text : List ℕ → List ProcNo → List ℕ
given_text text turns = without_feed (before_turns (line_texts text)) ++ schedule_text [] turns
