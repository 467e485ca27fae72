use Rattle.std.proofs.Common.{ap, ◌∙◌, ◌∷◌, ◌++◌}
use Rattle.std.specs.List.{flat_map}
use Rattle.std.proofs.lemmas.Result.{on_ok_weaker}
use Rattle.sa_instr.specs.Operation.{form_of}
use Rattle.sa_instr.specs.Parts.{parts_of}
use Rattle.sa_workload.specs.Text.{operand_word}
use Rattle.sa_workload.proofs.calls.PrintedText.{pushed_line, ok_items}
use Rattle.sa_workload.proofs.push.push_instr.Goals as goal

pub returns : goal.returns
returns c =
    on_ok_weaker c.extend_from_slice-2.result
    (pushed_line operand_word c.args.out.now.items (form_of (parts_of c.args.instr).operation).word (parts_of c.args.instr).operands _ _ _
    (c.in_ok-extend_from_slice.ensures.items
    ∙ ap (λ w. c.args.out.now.items ++ w)
    (c.form.ensures.word ∙ ap (λ o. (form_of o).word) (c.operation.ensures ∙ ap (λ p. p.operation) c.parts-parts.ensures.parts)))
    (c.in_ok-push_operands.ensures
    ∙ ap (λ os. c.extend_from_slice.new.self.items ++ flat_map (λ o. 32 ∷ operand_word o) os)
    (c.operands.ensures.operands ∙ ap (λ p. p.operands) c.parts-parts.ensures.parts)))
    (ok_items c.extend_from_slice-2.result _ _ _ c.extend_from_slice-2.ensures.items)
