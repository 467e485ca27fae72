-- What a line of a trace text says after the items before it, or the first thing that is wrong with it.
use Rattle.std.specs.Prelude.{ℕ, ◌-◌, ◌^◌, ◌==◌, List, [], ◌∷◌, length, slice_get, codes, Option, Some, None, Result, Ok, Err, if◌then◌else◌}
use Rattle.std.specs.Str.{bytes_eq}
use Rattle.sa_trace.specs.declared.kind.Kind.{Kind}
use Rattle.sa_base.specs.declared.record.End.{End}
use Rattle.sa_base.specs.declared.record.Item.{Item}
use Rattle.sa_base.specs.declared.record.Record.{Record}
use Rattle.sa_base.specs.declared.refusal.Cause.{Cause}
use Rattle.sa_base.specs.declared.refusal.Cause.TheVariants.{NotAscii, OutOfRange, Missing}
use Rattle.sa_trace.specs.Kind.{form_of}
use Rattle.sa_trace.specs.Parts.{record_of}
use Rattle.sa_text.specs.LineText.{LineText}
use Rattle.sa_text.specs.Pieces.{pieces_of, is_printed}
use Rattle.sa_trace.specs.TraceText.{counts_of}
use Rattle.sa_trace.specs.declared.so_far.SoFar.{SoFar}
use Rattle.sa_trace.specs.declared.line.Said.{Said}
use Rattle.sa_trace.specs.declared.line.Said.TheVariants.{Next, Last}
use Rattle.sa_trace.specs.Pieces.{and_then, unless, or_cause, number_in, fields_in, wrong_count, kind_at, end_of}

-- the greatest numbers of 16 and of 64 bits
abbrev pub MAX16 : ℕ
MAX16 = 2 ^ 16 - 1

abbrev pub MAX64 : ℕ
MAX64 = 2 ^ 64 - 1

-- the last of the items so far
abbrev pub last_of : List Item → Option Item
last_of items = slice_get items (length items - 1)

-- what a line may depend on of the items before it: the last of them, and how many there are of each kind
abbrev pub so_far : List Item → SoFar
so_far items = record { last = last_of items; counts = counts_of items }

-- the least event that may follow
abbrev pub least_event : Option Item → ℕ
least_event None = 0
least_event (Some last) = last.event

-- the processor of an event: where the event is that of the last item, its processor alone
abbrev pub processor_in : Option Item → ℕ → List ℕ → Result ℕ Cause
processor_in None event piece = number_in 0 MAX16 piece
processor_in (Some last) event piece =
    if event == last.event then number_in last.proc.0 last.proc.0 piece else number_in 0 MAX16 piece

-- a record: the word of its kind, and its fields
abbrev pub record_by : Kind → List (List ℕ) → Result Record Cause
record_by kind pieces =
    and_then (fields_in (form_of kind).fields pieces) (λ fields. or_cause (record_of kind fields) OutOfRange)

abbrev pub record_in : List (List ℕ) → Result Record Cause
record_in pieces = and_then (kind_at pieces) (λ found. record_by found.0 found.1)

-- the record of an event on a processor
abbrev pub item_by : ℕ → ℕ → List (List ℕ) → Result Said Cause
item_by event proc pieces =
    and_then (record_in pieces) (λ what. Ok (Next (record { event = event; proc = record { 0 = proc }; what = what })))

-- after the event: its processor, and the record
abbrev pub item_at : Option Item → ℕ → List (List ℕ) → Result Said Cause
item_at last event [] = Err Missing
item_at last event (piece ∷ rest) = and_then (processor_in last event piece) (λ proc. item_by event proc rest)

-- after the end: the number of events, and the counts
abbrev pub counts_at : ℕ → List ℕ → End → List (List ℕ) → Result Said Cause
counts_at least counts end [] = Err Missing
counts_at least counts end (piece ∷ rest) =
    and_then (number_in least MAX64 piece) (λ events. unless (wrong_count counts rest) (Last end events))

-- after the word `end`: how the run ended, the number of events, and the counts
abbrev pub end_at : SoFar → List (List ℕ) → Result Said Cause
end_at so [] = Err Missing
end_at so (word ∷ rest) = and_then (end_of word) (λ end. counts_at (least_event so.last) so.counts end rest)

-- a line: `end` and what follows it, or an event, its processor, and the record
abbrev pub said_by : SoFar → List (List ℕ) → Result Said Cause
said_by so [] = Err Missing
said_by so (piece ∷ rest) =
    if bytes_eq piece (codes "end") then end_at so rest
    else and_then (number_in (least_event so.last) MAX64 piece) (λ event. item_at so.last event rest)

-- the pieces of a line, if it is printed ASCII alone and is ended
abbrev pub pieces_in : LineText → Result (List (List ℕ)) Cause
pieces_in line = if is_printed line.bytes then (if line.ended then Ok (pieces_of line.bytes) else Err Missing) else Err NotAscii

-- what a line says after what is so far
abbrev pub line_in : SoFar → LineText → Result Said Cause
line_in so line = and_then (pieces_in line) (said_by so)
