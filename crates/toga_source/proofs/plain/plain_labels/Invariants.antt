use Rattle.std.proofs.Common.{◌≡◌, take, map}
use Rattle.std.specs.List.{enumerate_from, range_with_len, flat_map}
use Rattle.toga_source.specs.Plain.{plain_label}
use Rattle.toga_source.proofs.plain.plain_labels.Given as goal

abbrev pub invariant-loop-place : goal.invariant-loop-place
invariant-loop-place l = l.labels.items ≡ flat_map (plain_label l.program) (range_with_len 0 l.place)
