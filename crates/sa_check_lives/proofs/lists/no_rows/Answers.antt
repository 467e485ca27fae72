use Rattle.std.proofs.Common.{◌≡◌, ◌++◌, ◌∷◌, [], replicate, ap, ◌∙◌, arith}
use Rattle.std.proofs.lemmas.List.{replicate_more}
use Rattle.std.proofs.lemmas.Result.{IfOk-from_err}
use Rattle.sa_check_lives.proofs.lists.no_rows.Goals as goal

pub loop-init : goal.loop-init
loop-init g c = c.new-rows.ensures.items

pub returns-in_err-push : goal.returns-in_err-push
returns-in_err-push g c = IfOk-from_err c.from_residual.result _ c.from_residual.ensures.0

pub loop-smaller : goal.loop-smaller
loop-smaller g c = omega (arith, c.loop-test.true)

pub loop-preserved : goal.loop-preserved
loop-preserved g c =
    c.in_ok-push.ensures.items ∙ ap (λ rows. rows ++ c.new.result.items ∷ []) c.loop.invariant
    ∙ ap (λ row. replicate c.loop.counter [] ++ row ∷ []) c.new.ensures.items ∙ replicate_more c.loop.counter []

pub returns : goal.returns
returns g c =
    let all : c.loop.counter ≡ c.args.spaces = omega (arith, c.loop.auto.counter-end, c.loop-test.false) in
    c.loop.invariant ∙ ap (λ n. replicate n []) all
