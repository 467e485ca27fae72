use Rattle.std.proofs.Common.{◌≡◌, ◌+◌, ◌*◌, ◌≤◌, ◌++◌, length, take}
use Rattle.std.specs.List.{flat_map}
use Rattle.sa_trace.specs.TraceText.{field}
use Rattle.sa_trace.proofs.fields.push_fields.Given as goal

abbrev pub invariant-loop-value : goal.invariant-loop-value
invariant-loop-value l =
    (l.out.items ≡ l.initial.out.items ++ flat_map field (take l.value-index l.values))
    × (length l.out.items ≤ length l.initial.out.items + l.value-index * 21)
