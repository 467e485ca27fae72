use Rattle.std.proofs.Common.{◌∷◌, []}
use Rattle.sa_lemmas.proofs.Appends.{list-more, list-all}
use Rattle.sa_workload.specs.Text.{operand_word}
use Rattle.sa_lemmas.proofs.Texts.{appended_twice}
use Rattle.sa_instr.specs.declared.instr.Reg.{Reg}
use Rattle.sa_instr.specs.declared.operand.Operand.TheVariants.{Register}
use Rattle.sa_workload.proofs.push.push_operands.Goals as goal

pub loop-operand-preserved : goal.loop-operand-preserved
loop-operand-preserved c =
    list-more (λ o. 32 ∷ operand_word o) c.args.operands.now c.loop-operand.operand-index (Register Reg.R0) _ _ _
    c.loop-operand-test.true c.loop-operand.invariant
    (appended_twice _ (32 ∷ []) _ _ _ c.in_ok-extend_from_slice.ensures.items c.in_ok-push_operand.ensures)

pub returns : goal.returns
returns c = list-all (λ o. 32 ∷ operand_word o) c.args.operands.now c.loop-operand.operand-index _ _ c.loop-operand-test.false c.loop-operand.invariant
