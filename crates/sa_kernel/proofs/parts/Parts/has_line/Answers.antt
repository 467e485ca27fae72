use Rattle.std.proofs.Common.{◌≡◌, ◌<◌, true, length, is_some, sym, ap, ◌∙◌, arith}
use Rattle.sa_assign.proofs.ChoiceLemmas.{least_below-found}
use Rattle.sa_kernel.specs.View.{state_of}
use Rattle.sa_kernel_model.specs.Seen.{is_raised}
use Rattle.sa_kernel.proofs.parts.Parts.has_line.Goals as goal

pub returns-then-is_some : goal.returns-then-is_some
returns-then-is_some g c =
    let k = state_of c.args.self.now in
    let below : c.loop-q.q < length k.lives = omega (arith, c.requires.owners, c.processors-q-end.ensures.owners) in
    let passes : is_raised k c.loop-q.q ≡ true = ap is_some (sym c.line.ensures) ∙ sym c.is_some.ensures ∙ c.if-is_some.true in
    sym (ap is_some (least_below-found (length k.lives) (is_raised k) c.loop-q.q c.loop-q.invariant passes below))
