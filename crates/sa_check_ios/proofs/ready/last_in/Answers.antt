use Rattle.std.proofs.Common.{sym, ◌∙◌}
use Rattle.sa_laws.specs.Readings.{is_in}
use Rattle.sa_check_ios.proofs.ReadyLemmas.{newest-here, newest-other}
use Rattle.sa_check_ios.proofs.ready.last_in.Goals as goal
use Rattle.sa_check_ios.proofs.ready.last_in.Goals.{then-is_in, else-is_in}

pub loop-x-preserved : goal.loop-x-preserved
loop-x-preserved c =
    let x = c.x-item.result in
    elim c.if-is_in.branch [
      | then-is_in w ↦
          w.last-is ∙ sym (newest-here (is_in c.args.l) c.args.listed.now c.loop-x.x-index x c.loop-x-test.true (sym c.x-item.is)
          (sym c.is_in.ensures ∙ w.if-is_in.true))
      | else-is_in w ↦
          w.last-is ∙ c.loop-x.invariant ∙ sym (newest-other (is_in c.args.l) c.args.listed.now c.loop-x.x-index x c.loop-x-test.true (sym c.x-item.is)
          (sym c.is_in.ensures ∙ w.if-is_in.false))
    ]
