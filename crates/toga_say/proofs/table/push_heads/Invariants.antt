use Rattle.std.proofs.Common.{◌≡◌, ◌++◌, take}
use Rattle.std.specs.List.{flat_map}
use Rattle.toga_say.specs.Table.{head_cell}
use Rattle.toga_say.proofs.table.push_heads.Given as goal

abbrev pub invariant-loop-column : goal.invariant-loop-column
invariant-loop-column l = l.out.items ≡ l.initial.out.items ++ flat_map (head_cell l.turns l.processors) (take l.column-index l.columns)
