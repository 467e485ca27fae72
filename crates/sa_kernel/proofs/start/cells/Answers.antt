use Rattle.std.proofs.Common.{◌≡◌, List, [], ◌∷◌, ◌++◌, replicate, ap, ◌∙◌, arith}
use Rattle.std.proofs.lemmas.List.{replicate_more}
use Rattle.sa_kernel.proofs.start.cells.Goals as goal

pub loop-preserved : goal.loop-preserved
loop-preserved g c =
    c.in_ok-push.ensures.items ∙ ap (λ (xs : List g.row.T.Denot). xs ++ c.args.value ∷ []) c.loop.invariant ∙ replicate_more c.loop.counter c.args.value

pub returns : goal.returns
returns g c =
    let most = c.loop.auto.counter-end in
    let least = c.loop-test.false in
    let all : c.loop.counter ≡ c.args.n = omega (arith, most, least) in
    c.loop.invariant ∙ ap (λ n. replicate n c.args.value) all
