use Rattle.std.proofs.Common.{◌≡◌, length, map, drop}
use Rattle.sa_workload.specs.Fields.{fields_at}
use Rattle.sa_workload.specs.Stage.{field_of}
use Rattle.sa_workload.proofs.calls.Calls.{Left}
use Rattle.sa_workload.proofs.numbers.read_numbers.Given as goal

-- after the numbers so far, the fields that are left are read as all fields are
abbrev pub invariant-loop-field : goal.invariant-loop-field
invariant-loop-field l =
    (length l.numbers.items ≡ l.field-index)
    × (fields_at (map field_of l.fields) l.initial.words ≡ Left l.numbers.items (fields_at (drop l.field-index (map field_of l.fields)) l.words))
