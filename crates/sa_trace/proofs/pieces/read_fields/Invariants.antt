use Rattle.std.proofs.Common.{◌≡◌, ◌++◌, length, drop, Ok}
use Rattle.sa_trace.specs.Pieces.{and_then, fields_in}
use Rattle.sa_trace.proofs.pieces.read_fields.Given as goal

-- after the values so far, the fields that are left say what all fields say
abbrev pub invariant-loop-field : goal.invariant-loop-field
invariant-loop-field l =
    (length l.values.items ≡ l.field-index)
    × (fields_in l.fields l.initial.words ≡ and_then (fields_in (drop l.field-index l.fields) l.words) (λ later. Ok (l.values.items ++ later)))
