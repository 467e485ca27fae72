use Rattle.std.proofs.Common.{◌≡◌, arith, sym, ◌∙◌, ap}
use Rattle.sa_base.specs.declared.number.ThreadNo.{ThreadNo}
use Rattle.sa_page.specs.Counts.{standing_of, same_standing, one_if, stands_so}
use Rattle.sa_page.proofs.CountLemmas.{sum-none, sum-with}
use Rattle.sa_page.proofs.ended.counts.count_in.Goals.{then-same_standing, else-same_standing}
use Rattle.sa_page.proofs.ended.counts.count_in.Goals as goal

pub loop-t-init : goal.loop-t-init
loop-t-init c = record { is = sym (sum-none (stands_so c.args.replay.now.state c.args.standing c.args.s)); few = omega arith }

pub loop-t-preserved : goal.loop-t-preserved
loop-t-preserved c =
    let f = stands_so c.args.replay.now.state c.args.standing c.args.s in
    let t : ThreadNo = record { 0 = c.loop-t.t } in
    let so : same_standing (standing_of c.args.replay.now.state c.args.s t) c.args.standing ≡ c.same_standing.result =
    sym (c.same_standing.ensures ∙ ap (λ x. same_standing x c.args.standing) c.standing_of.ensures) in
    elim c.if-same_standing.branch [
      | then-same_standing w ↦ record {
        is = sum-with f c.loop-t.t 1 c.loop-t.n c.if-same_standing.n c.loop-t.invariant.is (ap one_if (so ∙ w.if-same_standing.true)) w.n-is;
        few = omega (arith, w.n-is, c.loop-t.invariant.few);
      }
      | else-same_standing w ↦ record {
        is = sum-with f c.loop-t.t 0 c.loop-t.n c.if-same_standing.n c.loop-t.invariant.is (ap one_if (so ∙ w.if-same_standing.false)) (omega (arith, w.n-is));
        few = omega (arith, w.n-is, c.loop-t.invariant.few);
      }
    ]
