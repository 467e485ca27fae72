use Rattle.std.proofs.Common.{◌≡◌, ◌++◌}
use Rattle.std.specs.List.{flat_map, range_with_len}
use Rattle.toga_say.specs.Table.{row_text}
use Rattle.toga_say.proofs.table.push_rows.Given as goal

abbrev pub invariant-loop-p : goal.invariant-loop-p
invariant-loop-p l = l.out.items ≡ l.initial.out.items ++ flat_map (row_text l.turns l.processors) (range_with_len 0 l.p)
