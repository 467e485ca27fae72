use Rattle.std.proofs.Common.{ap, ◌∙◌, arith, below_more}
use Rattle.std.proofs.lemmas.Bool.{false≢true}
use Rattle.std.proofs.lemmas.List.{get_or_default}
use Rattle.sa_instr.specs.declared.operation.Operation.TheVariants.{End}
use Rattle.sa_instr.specs.declared.operation.TheConstants.{OPERATIONS}
use Rattle.sa_instr.specs.Operation.{form_of}
use Rattle.sa_instr.proofs.OperationLemmas.{place_of}
use Rattle.sa_instr.proofs.operation.Operation.of_word.Goals as goal

pub loop-operation-preserved : goal.loop-operation-preserved
loop-operation-preserved c = below_more _ _ c.loop-operation.invariant (λ same.
    false≢true (c.if-has_word.ensures.1 (ap (λ o. (form_of o).word) (get_or_default OPERATIONS c.loop-operation.operation-index _ End (omega arith)) ∙ same)))

pub returns-clause-none : goal.returns-clause-none
returns-clause-none c = λ operation same.
    let place = place_of operation in
    c.loop-operation.invariant place.0 (omega (arith, place.1)) (ap (λ o. (form_of o).word) place.2 ∙ same)
