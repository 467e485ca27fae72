use Rattle.std.proofs.Common.{◌≡◌, ◌++◌, take, codes, decimal}
use Rattle.std.specs.List.{flat_map}
use Rattle.toga_source.specs.Show.{with_numbers, place_text}
use Rattle.toga_source.proofs.program.push_places.Given as goal

abbrev pub invariant-loop-place : goal.invariant-loop-place
invariant-loop-place l = l.out.items ≡ l.initial.out.items ++ with_numbers (place_text l.names l.labels) (take l.place l.program)
