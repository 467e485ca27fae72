use Rattle.std.proofs.Common.{ap, ◌∙◌, ◌∷◌, [], ◌++◌, arith}
use Rattle.std.proofs.lemmas.List.{replicate-append-replicate}
use Rattle.std.proofs.lemmas.Grind.{common_steps}
use Rattle.sa_assign.proofs.assign.cells.Goals as goal

pub push-requires : goal.push-requires
push-requires g c = (grind (arith, common_steps), grind (arith, common_steps))

pub loop-preserved : goal.loop-preserved
loop-preserved g c =
    c.push.ensures.items ∙ ap (λ cells. cells ++ c.args.value ∷ []) c.loop.invariant ∙ replicate-append-replicate c.loop.counter 1 c.args.value
