use Rattle.std.proofs.Common.{◌≡◌, take}
use Rattle.std.specs.List.{flat_map, enumerate_from}
use Rattle.toga_say.specs.Values.{record_entry}
use Rattle.toga_say.proofs.values.kind_entries.Given as goal

abbrev pub invariant-loop-place : goal.invariant-loop-place
invariant-loop-place l = l.entries.items ≡ flat_map (λ x. record_entry l.counts x.0 x.1) (enumerate_from 0 (take l.place l.kinds))
