use Rattle.std.proofs.Common.{◌≡◌, Option, None, List, [], ◌∷◌, ◌++◌, replicate, ap, ◌∙◌, arith}
use Rattle.std.proofs.lemmas.List.{replicate_more}
use Rattle.sa_machine.proofs.machine.no_contexts.Goals as goal

pub loop-p-init : goal.loop-p-init
loop-p-init g c = c.new-contexts.ensures.items

pub loop-p-preserved : goal.loop-p-preserved
loop-p-preserved g c =
    c.in_ok-push.ensures.items ∙ ap (λ (xs : List (Option g.row.C.Denot)). xs ++ None ∷ []) c.loop-p.invariant ∙ replicate_more c.loop-p._p None

pub returns : goal.returns
returns g c =
    let same : c.loop-p._p ≡ c.args.processors = omega (arith, c.loop-p-test.false, c.loop-p.auto._p-end) in
    c.loop-p.invariant ∙ ap (λ n. replicate n None) same
