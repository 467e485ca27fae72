use Rattle.std.proofs.Common.{◌≡◌, ◌∷◌, ◌++◌, take}
use Rattle.std.specs.List.{flat_map}
use Rattle.sa_workload.specs.Text.{operand_word}
use Rattle.sa_workload.proofs.push.push_operands.Given as goal

abbrev pub invariant-loop-operand : goal.invariant-loop-operand
invariant-loop-operand l = l.out.items ≡ l.initial.out.items ++ flat_map (λ o. 32 ∷ operand_word o) (take l.operand-index l.operands)
