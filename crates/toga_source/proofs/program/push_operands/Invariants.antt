use Rattle.std.proofs.Common.{◌≡◌, ◌++◌, take, codes, decimal}
use Rattle.std.specs.List.{flat_map}
use Rattle.toga_source.specs.Show.{operand_word}
use Rattle.toga_source.proofs.program.push_operands.Given as goal

abbrev pub invariant-loop-operand : goal.invariant-loop-operand
invariant-loop-operand l = l.out.items ≡ l.initial.out.items ++ flat_map (λ o. codes " " ++ operand_word l.names l.labels o) (take l.operand-index l.operands)
