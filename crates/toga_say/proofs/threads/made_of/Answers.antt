use Rattle.std.proofs.Common.{◌++◌, ◌∙◌, sym, ap}
use Rattle.sa_waits.proofs.Numbers.{none-below, one-more}
use Rattle.toga_say.specs.Threads.{made_in}
use Rattle.toga_say.proofs.threads.made_of.Goals as goal

pub loop-s-init : goal.loop-s-init
loop-s-init c = c.new-made.ensures.items ∙ sym (none-below (made_in c.args.replay.now.state))

pub loop-s-preserved : goal.loop-s-preserved
loop-s-preserved c =
    let f = made_in c.args.replay.now.state in
    c.in_ok-push_made.ensures ∙ ap (λ front. front ++ f c.loop-s.s) c.loop-s.invariant ∙ sym (one-more f c.loop-s.s)
