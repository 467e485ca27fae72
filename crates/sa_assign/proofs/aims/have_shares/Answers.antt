use Rattle.std.proofs.Common.{◌≡◌, length, subst, arith}
use Rattle.sa_assign.proofs.CountLemmas.{AreMissing, missing-more, missing-none, missing-some}
use Rattle.sa_assign.proofs.aims.have_shares.Goals as goal

pub loop-p-preserved : goal.loop-p-preserved
loop-p-preserved c =
    missing-more c.args.shares.now c.args.aims.now c.loop-p.p c.loop-p.missing _ c.loop-p-test.true c.loop-p.invariant c.take_off.ensures

pub returns : goal.returns
returns c =
    let shares = c.args.shares.now in
    let aims = c.args.aims.now in
    let missing = c.loop-p.missing in
    let whole : c.loop-p.p ≡ length aims = omega arith in
    let all : AreMissing shares aims (length aims) missing = subst (λ k. AreMissing shares aims k missing) whole c.loop-p.invariant in (
      λ zero. missing-none shares aims missing all (c.are_zero.ensures.0 zero),
      λ covered. c.are_zero.ensures.1 (λ s _. missing-some shares aims missing all covered s),
    )
