use Rattle.std.proofs.Common.{◌≡◌, ℕ, List, suc, ◌+◌, ◌-◌, sym, ap, ◌∙◌, arith}
use Rattle.sa_base.specs.declared.record.Item.{Item}
use Rattle.sa_assign.specs.AssignView.{AssignView}
use Rattle.sa_assign.proofs.ReaimLemmas.{filled, filled-suc}
use Rattle.sa_assign.proofs.assign.Assign.fill.Goals as goal

pub loop-preserved : goal.loop-preserved
loop-preserved c =
    let event = c.args.item.event in
    let proc = c.args.item.proc in
    let shares = c.args.shares.now in
    let s = c.args.s.0 in
    let before : AssignView × List Item = (c.loop.self, c.loop.trace.items) in
    let left = c.saturating_sub-missing.result - (c.loop.counter + 1) in
    let one_less : suc left ≡ c.saturating_sub-missing.result - c.loop.counter = omega arith in
    record {
      carried = ap (filled event proc left shares s) c.aim_one.ensures.carried
          ∙ sym (filled-suc event proc left shares s before)
          ∙ ap (λ (n : ℕ). filled event proc n shares s before) one_less
          ∙ c.loop.invariant.carried;
      cost = omega arith;
      spare = omega arith;
    }
