use Rattle.std.proofs.Common.{◌≡◌, List, ◌∷◌, [], ◌++◌, replicate, ap, ◌∙◌, arith}
use Rattle.std.proofs.lemmas.List.{replicate_more}
use Rattle.sa_links.specs.Lists.{Lists}
use Rattle.sa_vp_model.specs.Board.{first_ready}
use Rattle.sa_vp.proofs.Opening.{takes-first, first-pushed}
use Rattle.sa_vp.proofs.start.opening_ready.Goals as goal

pub push-requires : goal.push-requires
push-requires c = takes-first c.in_ok-ready.ready c.args.lists c.in_ok-ready.ensures c.requires.some

pub loop-row-preserved : goal.loop-row-preserved
loop-row-preserved c =
    let first = first_ready c.args.lists in
    c.in_ok-push.ensures.items
    ∙ ap (λ (x : Lists). c.loop-row.rows.items ++ x ∷ []) (c.push.ensures ∙ first-pushed c.in_ok-ready.ready c.args.lists c.in_ok-ready.ensures)
    ∙ ap (λ (xs : List Lists). xs ++ first ∷ []) c.loop-row.invariant ∙ replicate_more c.loop-row.row first

pub returns : goal.returns
returns c =
    let all : c.loop-row.row ≡ c.args.spaces = omega (arith, c.loop-row-test.false, c.loop-row.auto.row-end) in
    c.loop-row.invariant ∙ ap (λ k. replicate k (first_ready c.args.lists)) all
