use Rattle.std.proofs.Common.{rules, tests, ap, ◌≡◌, ◌∙◌}
use Rattle.std.proofs.lemmas.Iterator.{cases_from_all, YieldsList-from_slice}
use Rattle.sa_instr.specs.Operand.{IsDeclared}
use Rattle.sa_instr.specs.Parts.{parts_of}
use Rattle.sa_instr.proofs.Operands.{all_each}
use Rattle.sa_instr.proofs.instr.Instr.names_declared.Goals as goal

pub returns : goal.returns
returns c =
    let P = IsDeclared c.args.declared.now.mutexes c.args.declared.now.sems c.args.declared.now.cells c.args.declared.now.programs in
    let os = (parts_of c.args.self.now).operands in
    let same : c.operands.result.now ≡ os = c.operands.ensures.operands ∙ ap (λ p. p.operands) c.parts.ensures.parts in
    all_each P c.all.result os (cases_from_all _ _ _ P (λ o. P o → ⊥) c.all.ensures.ran (YieldsList-from_slice os (c.iter.ensures.rest ∙ same))
    (λ x q k. search (rules, tests)) (λ x q k. search (rules, tests)))
