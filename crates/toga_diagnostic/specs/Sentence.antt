-- The sentences of errors.
use Rattle.std.specs.Prelude.{ℕ, ◌+◌, ◌-◌, ◌/◌, ◌%◌, ◌==◌, nat_lt, ◌||◌, if◌then◌else◌, List, [], ◌∷◌, ◌++◌, length, codes}
use Rattle.toga_diagnostic.specs.declared.cause.About.{About}
use Rattle.toga_diagnostic.specs.declared.cause.Kind.{Kind}
use Rattle.toga_diagnostic.specs.declared.cause.Limit.{Limit}
use Rattle.toga_diagnostic.specs.declared.cause.Stage.{Stage}
use Rattle.toga_diagnostic.specs.declared.cause.Next.{Next}
use Rattle.toga_diagnostic.specs.declared.cause.Next.TheVariants as next
use Rattle.toga_diagnostic.specs.declared.cause.Missing.{Missing}
use Rattle.toga_diagnostic.specs.declared.cause.Missing.TheVariants as missing
use Rattle.toga_diagnostic.specs.declared.cause.Part.{Part}
use Rattle.toga_diagnostic.specs.declared.cause.Part.TheVariants as part
use Rattle.toga_diagnostic.specs.declared.cause.Twice.{Twice}
use Rattle.toga_diagnostic.specs.declared.cause.Twice.TheVariants as twice
use Rattle.toga_diagnostic.specs.declared.cause.Wanted.{Wanted}
use Rattle.toga_diagnostic.specs.declared.cause.Wanted.TheVariants as wanted
use Rattle.toga_diagnostic.specs.Listed.{cut, between, around, counted, listed}
use Rattle.toga_diagnostic.specs.Tables.{about_before, about_after, kind_word, where_words, stage_words, what_words}

abbrev pub about_text : About → List ℕ → List ℕ
about_text about word = around (about_before about) word (about_after about)

-- a kind between other words
abbrev pub kind_text : List ℕ → Kind → List ℕ → List ℕ
kind_text before kind after = between before (kind_word kind) after

-- what a number is, and its limits
unfoldable pub limit_text : Limit → List ℕ
limit_text limit = what_words limit.what ++ counted (codes ", ") limit.low (codes " to ") ++ counted (codes "") limit.high (codes "")

-- something else is wanted in place of a word: another first word, a number, a number within its limits, a name or a number of a kind, a
-- turn, fewer turns
unfoldable pub unknown_text : Stage → List ℕ → List ℕ
unknown_text stage word = around (codes "unknown word ") word (codes ": expected ") ++ stage_words stage

unfoldable pub limited_text : Limit → List ℕ → List ℕ → List ℕ
limited_text limit word after = around (codes "") word after ++ limit_text limit

unfoldable pub no_operand_text : Kind → List ℕ → List ℕ
no_operand_text kind word = around (codes "") word (codes " is no name and no number: expected a ") ++ kind_word kind

unfoldable pub turn_text : List ℕ → List ℕ → ℕ → List ℕ → List ℕ
turn_text word after n last = around (codes "") word after ++ counted (codes "") n last

unfoldable pub wanted_text : Wanted → List ℕ → List ℕ
wanted_text (wanted.First stage) word = unknown_text stage word
wanted_text (wanted.Number limit) word = limited_text limit word (codes " is no number: expected ")
wanted_text (wanted.Within limit) word = limited_text limit word (codes " is out of range: expected ")
wanted_text (wanted.Operand kind) word = no_operand_text kind word
wanted_text (wanted.Turn last) word =
    turn_text word (codes " is no turn: expected a processor, 0 to ") last (codes ", or as in `0*5` a processor and how many turns")
wanted_text (wanted.Turns left) word = turn_text word (codes " makes more than 65536 turns: expected at most ") left (codes " more")

-- a line has it already; a line has something of a kind and the name; a page goes away already
unfoldable pub again_text : List ℕ → List ℕ → ℕ → List ℕ → List ℕ
again_text before word line after = around before word (codes " a second time: line ") ++ counted (codes "") line after

unfoldable pub named_again_text : List ℕ → ℕ → Kind → List ℕ
named_again_text word line kind = again_text (codes "") word line (codes " has a ") ++ kind_text (codes "") kind (codes " of that name")

unfoldable pub page_again_text : ℕ → List ℕ
page_again_text page = counted (codes "page ") page (codes " a second time: it is absent already")

unfoldable pub event_again_text : ℕ → ℕ → List ℕ
event_again_text page event =
    counted (codes "page ") page (codes " a second time: it goes away at event ") ++ counted (codes "") event (codes " already")

unfoldable pub twice_text : Twice → List ℕ → List ℕ
twice_text (twice.Label line) word = again_text (codes "label ") word line (codes " has it")
twice_text (twice.Setting line) word = again_text (codes "") word line (codes " has it")
twice_text (twice.Name line kind) word = named_again_text word line kind
twice_text (twice.Page page) word = page_again_text page
twice_text (twice.Event page event) word = event_again_text page event

abbrev pub declared_text : Kind → List ℕ
declared_text kind = kind_text (codes "a ") kind (codes " that is declared")

-- the names, or the numbers, of a kind; the labels of a program, or its places
unfoldable pub names_text : Kind → List (List ℕ) → List ℕ
names_text kind names = if length names == 0 then declared_text kind else listed names

unfoldable pub numbered_text : Kind → ℕ → List ℕ
numbered_text kind count = if count == 0 then declared_text kind else counted (codes "0 to ") (count - 1) (codes "")

unfoldable pub places_text : List (List ℕ) → ℕ → List ℕ
places_text labels count =
    if nat_lt 0 (length labels) then listed labels else counted (codes "a place, 0 to ") (count - 1) (codes ", as it has no labels")

-- a word names nothing: no name of its kind, the name of another kind, no number of its kind, no label, no place
unfoldable pub no_name_text : Kind → List ℕ → List ℕ → List (List ℕ) → List ℕ
no_name_text kind word space names =
    kind_text (codes "no ") kind (codes " ") ++ around (codes "") word (codes " in space ") ++ around (codes "") space (codes ": expected ")
    ++ names_text kind names

unfoldable pub other_text : Kind → Kind → List ℕ → List (List ℕ) → List ℕ
other_text is kind word names =
    around (codes "") word (codes " is a ") ++ kind_text (codes "") is (codes " and no ") ++ kind_text (codes "") kind (codes ": expected ")
    ++ names_text kind names

unfoldable pub no_number_text : Kind → ℕ → List ℕ → ℕ → List ℕ
no_number_text kind n space count =
    kind_text (codes "no ") kind (codes " ") ++ counted (codes "") n (codes " in space ") ++ around (codes "") space (codes ": expected ")
    ++ numbered_text kind count

unfoldable pub no_label_text : List ℕ → List ℕ → List (List ℕ) → ℕ → List ℕ
no_label_text word program labels count =
    around (codes "no label ") word (codes " in program ") ++ around (codes "") program (codes ": expected ") ++ places_text labels count

abbrev pub last_place_text : ℕ → List ℕ
last_place_text count = counted (codes "") (count - 1) (codes ", or a label")

unfoldable pub no_place_text : ℕ → List ℕ → ℕ → List ℕ
no_place_text n program count =
    counted (codes "no place ") n (codes " in program ") ++ around (codes "") program (codes ": expected 0 to ")
    ++ last_place_text count

unfoldable pub missing_text : Missing → List ℕ → List ℕ
missing_text (missing.Name kind space names) word = no_name_text kind word space names
missing_text (missing.Other is kind names) word = other_text is kind word names
missing_text (missing.Number kind n space count) word = no_number_text kind n space count
missing_text (missing.Label program labels count) word = no_label_text word program labels count
missing_text (missing.Place n program count) word = no_place_text n program count

-- a hexadecimal digit
abbrev pub hex_digit : ℕ → ℕ
hex_digit n = if nat_lt n 10 then 48 + n else 65 + (n - 10)

abbrev pub bad_byte_text : ℕ → List ℕ
bad_byte_text byte =
    between (codes "the byte 0x") (hex_digit (byte / 16) ∷ hex_digit (byte % 16) ∷ [])
    (codes " is no printed ASCII character: expected such alone outside of comments")

-- a part of a source is not as it has to be
unfoldable pub part_text : Part → List ℕ → List ℕ
part_text part.TooLong word = codes "the source is too long: expected at most 4194304 bytes"
part_text (part.BadByte byte) word = bad_byte_text byte
part_text (part.OneMore kind most) word =
    kind_text (codes "one ") kind (codes " too many: expected at most ") ++ counted (codes "") most (where_words kind)
part_text (part.NoEnd program) word =
    around (codes "") word (codes " is the last instruction of program ") ++ around (codes "") program (codes ": expected `end` after it")
part_text (part.NoProgram space) word = around (codes "space ") space (codes " has no program: expected `program` in it")
part_text part.Empty word = codes "the source has no program: expected `program`"
part_text (part.Size bytes) word = counted (codes "the workload text has ") bytes (codes " bytes: expected at most 1048576")

-- what is missing at the end of a line
unfoldable pub next_text : Next → List ℕ
next_text next.Name = codes "a name"
next_text (next.Number what) = what_words what
next_text next.AnyPage = codes "a page, 0 to 15"
next_text next.AnyEvent = codes "an event, 1 to 1000000"
next_text next.At = codes "`at`"
next_text next.Register = codes "a register"
next_text (next.Of kind) = kind_text (codes "a ") kind (codes "")
next_text next.Turn = codes "a processor, or as in `0*5` a processor and how many turns"

unfoldable pub few_text : Next → List ℕ → List ℕ
few_text next first = around (codes "") first (codes " has too few words: expected ") ++ next_text next

-- a line with one word too many, after its first word and up to two operands
unfoldable pub operands_text : ℕ → List ℕ → List ℕ → List ℕ
operands_text most second third =
    if (most == 0) || nat_lt 2 most then []
    else (if most == 1 then codes " " ++ cut second else codes " " ++ cut second ++ codes " " ++ cut third)

unfoldable pub many_text : ℕ → List ℕ → List ℕ → List ℕ → List ℕ → List ℕ
many_text most word first second third =
    around (codes "") word (codes " is one word too many: expected the end of the line after `") ++ cut first ++ operands_text most second third ++ codes "`"
