use Rattle.std.proofs.Common.{rules, tests, ap, ◌≡◌, ◌∙◌}
use Rattle.std.proofs.lemmas.Iterator.{cases_from_all, YieldsList-from_slice}
use Rattle.sa_instr.specs.declared.operand.Operand.{Operand}
use Rattle.sa_instr.specs.Operand.{IsPlaceBelow, InRange}
use Rattle.sa_instr.specs.Parts.{parts_of}
use Rattle.sa_instr.proofs.Operands.{all_each, each_both, both_each}
use Rattle.sa_instr.proofs.instr.Instr.fits.Goals as goal

pub returns : goal.returns
returns c =
    let P : Operand → Type 0 = λ o. IsPlaceBelow c.args.len o × InRange o in
    let os = (parts_of c.args.self.now).operands in
    let same : c.operands.result.now ≡ os = c.operands.ensures.operands ∙ ap (λ p. p.operands) c.parts.ensures.parts in
    let all = all_each P c.all.result os (cases_from_all _ _ _ P (λ o. P o → ⊥) c.all.ensures.ran (YieldsList-from_slice os (c.iter.ensures.rest ∙ same))
    (λ x q k. search (rules, tests)) (λ x q k. search (rules, tests))) in
    (λ is. each_both _ _ os (all.0 is), λ both. all.1 (both_each _ _ os both.0 both.1))
