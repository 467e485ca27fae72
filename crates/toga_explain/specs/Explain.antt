-- What is said of words: what the table says of them.
use Rattle.std.specs.Prelude.{ℕ, ◌==◌, if◌then◌else◌, List, [], ◌++◌, length, drop, codes, Option, None, Some}
use Rattle.std.specs.List.{flat_map}
use Rattle.std.specs.Str.{bytes_eq}
use Rattle.toga_explain.specs.declared.topic.Topic.{Topic}
use Rattle.toga_explain.specs.declared.topic.TheConstants.{SOURCE, INSTRUCTIONS, RECORDS, RULES, CAUSES, ENDS, STATUSES}
use Rattle.toga_explain.specs.Topic.{word_of, text_of}

-- the line that is said of a word if it is that of the topic, and else none
abbrev pub line_by : List ℕ → Topic → List ℕ
line_by word topic = if bytes_eq (word_of topic) word then text_of topic ++ codes "\n" else []

abbrev pub lines_in : List Topic → List ℕ → List ℕ
lines_in topics word = flat_map (line_by word) topics

-- all that is said of a word, a line for each topic of it
unfoldable pub source_lines : List ℕ → List ℕ
source_lines word = lines_in SOURCE word ++ lines_in INSTRUCTIONS word

unfoldable pub trace_lines : List ℕ → List ℕ
trace_lines word = lines_in RECORDS word ++ lines_in RULES word

unfoldable pub other_lines : List ℕ → List ℕ
other_lines word = lines_in CAUSES word ++ lines_in ENDS word ++ lines_in STATUSES word

unfoldable pub lines_of : List ℕ → List ℕ
lines_of word = source_lines word ++ trace_lines word ++ other_lines word

-- the words of a group in a line, each after two spaces
abbrev pub words_in : List Topic → List ℕ
words_in topics = flat_map (λ (topic : Topic). codes "  " ++ word_of topic) topics

unfoldable pub group : List ℕ → List Topic → List ℕ
group title topics = title ++ words_in topics ++ codes "\n"

-- all words, in groups with an empty line between them
unfoldable pub source_list : List ℕ
source_list = group (codes "The source:\n") SOURCE ++ group (codes "\nInstructions:\n") INSTRUCTIONS

unfoldable pub trace_list : List ℕ
trace_list = group (codes "\nRecords of a trace:\n") RECORDS ++ group (codes "\nRules of a legal run:\n") RULES

unfoldable pub other_list : List ℕ
other_list =
    group (codes "\nWhy a workload text or a trace is refused:\n") CAUSES ++ group (codes "\nEnds:\n") ENDS
    ++ group (codes "\nExit statuses:\n") STATUSES

unfoldable pub list_text : List ℕ
list_text = source_list ++ trace_list ++ other_list

-- words as one, with a space between them
abbrev pub spaced : List (List ℕ) → List ℕ
spaced words = flat_map (λ w. codes " " ++ w) words

abbrev pub joined : List (List ℕ) → List ℕ
joined words = drop 1 (spaced words)

-- what is said of words: of none the list of all, of unknown ones nothing
abbrev pub unless_empty : List ℕ → Option (List ℕ)
unless_empty text = if length text == 0 then None else Some text

abbrev pub explained : List (List ℕ) → Option (List ℕ)
explained words = if length words == 0 then Some list_text else unless_empty (lines_of (joined words))
