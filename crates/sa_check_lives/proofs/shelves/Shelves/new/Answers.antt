use Rattle.std.proofs.Common.{arith, ◌++◌, ◌∷◌, [], ap, length, replicate, ◌∙◌}
use Rattle.std.proofs.lemmas.List.{length-replicate, replicate_more}
use Rattle.sa_check_lives.specs.Table.{lives_in}
use Rattle.sa_check_lives.proofs.ShelfLemmas.{empty-shelves}
use Rattle.sa_check_lives.proofs.shelves.Shelves.new.Goals as goal

pub invariant_of-result : goal.invariant_of-result
invariant_of-result c = ap length c.loop.invariant ∙ length-replicate _ [] ∙ omega (arith, c.loop.auto.counter-end, c.loop-test.false)

pub returns : goal.returns
returns c = ap lives_in c.loop.invariant ∙ empty-shelves c.loop.counter

pub loop-preserved : goal.loop-preserved
loop-preserved c =
    c.in_ok-push.ensures.items ∙ ap (λ shelves. shelves ++ c.new.result ∷ []) c.loop.invariant
    ∙ ap (λ shelf. replicate c.loop.counter [] ++ shelf ∷ []) c.new.ensures ∙ replicate_more c.loop.counter []
