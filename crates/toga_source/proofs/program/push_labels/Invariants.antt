use Rattle.std.proofs.Common.{◌≡◌, ◌++◌, take, codes, decimal}
use Rattle.std.specs.List.{flat_map}
use Rattle.toga_source.specs.Show.{label_line}
use Rattle.toga_source.proofs.program.push_labels.Given as goal

abbrev pub invariant-loop-label : goal.invariant-loop-label
invariant-loop-label l = l.out.items ≡ l.initial.out.items ++ flat_map (label_line l.place) (take l.label-index l.labels)
