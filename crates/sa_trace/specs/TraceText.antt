-- The trace text: a line for each item, and a last line with the end and the number of records of each kind.
use Rattle.std.specs.Prelude.{ℕ, ◌+◌, List, ◌++◌, ◌==◌, Option, Some, None, map, codes, decimal, count_by}
use Rattle.std.specs.List.{flat_map, range_with_len}
use Rattle.sa_trace.specs.declared.kind.TheConstants.{RECORD_KINDS}
use Rattle.sa_base.specs.declared.record.Record.{Record}
use Rattle.sa_base.specs.declared.record.Item.{Item}
use Rattle.sa_base.specs.declared.record.End.{End}
use Rattle.sa_base.specs.declared.record.End.TheVariants.{AllDone, Stuck, Budget}
use Rattle.sa_trace.specs.Kind.{form_of}
use Rattle.sa_trace.specs.Parts.{parts_of}

-- a field after a space: its number in decimal, or a dash where it is absent
abbrev pub field : Option ℕ → List ℕ
field None = codes " -"
field (Some n) = codes " " ++ decimal n

-- a record: the word of its kind, and its fields
abbrev pub record_text : Record → List ℕ
record_text what = (form_of (parts_of what).kind).word ++ flat_map field (parts_of what).fields

-- the number of a record's kind, from 1
abbrev pub kind_number : Record → ℕ
kind_number what = (form_of (parts_of what).kind).number

-- how many items have a record of the kind of this number
abbrev pub count_of_kind : List Item → ℕ → ℕ
count_of_kind items number = count_by (λ (i : Item). kind_number i.what == number) items

-- the counts of the kinds, in the order of their numbers
unfoldable pub counts_of : List Item → List ℕ
counts_of items = map (λ k. count_of_kind items (k + 1)) (range_with_len 0 RECORD_KINDS)

-- an item: its event, its processor, and its record
abbrev pub item_text : Item → List ℕ
item_text i = decimal i.event ++ field (Some i.proc.0) ++ codes " " ++ record_text i.what

-- the line of an item
abbrev pub line_of : Item → List ℕ
line_of i = item_text i ++ codes "\n"

abbrev pub end_word : End → List ℕ
end_word AllDone = codes "alldone"
end_word Stuck = codes "stuck"
end_word Budget = codes "budget"

-- the counts, each as a field
abbrev pub counts_text : List ℕ → List ℕ
counts_text counts = flat_map (λ n. field (Some n)) counts

-- the last line: the end, the number of events, and the counts
abbrev pub last_line_of : List Item → End → ℕ → List ℕ
last_line_of items end events =
    codes "end " ++ end_word end ++ field (Some events) ++ counts_text (counts_of items) ++ codes "\n"

-- the whole text
unfoldable pub trace_text : List Item → End → ℕ → List ℕ
trace_text items end events = flat_map line_of items ++ last_line_of items end events
