use Rattle.std.proofs.Common.{◌++◌, get_or, sym, ap, ◌∙◌, rules}
use Rattle.sa_trace.specs.Losses.{loss_line}
use Rattle.sa_trace.proofs.LossLines.{loss-more}
use Rattle.sa_trace.proofs.losses.print_losses.Goals as goal

pub loop-s-preserved : goal.loop-s-preserved
loop-s-preserved c =
    let lost = c.args.lost.now in
    let s = c.loop-s.s in (
      c.push_loss.ensures.text ∙ ap (λ v. v ++ loss_line s (get_or lost s 0)) c.loop-s.invariant.0 ∙ sym (loss-more (λ k. loss_line k (get_or lost k 0)) s),
      search rules,
    )
