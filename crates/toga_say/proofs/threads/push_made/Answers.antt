use Rattle.std.proofs.Common.{◌++◌, ◌∙◌, sym, ap, append-nil, append_assoc}
use Rattle.sa_waits.specs.Waits.{all_below}
use Rattle.sa_waits.proofs.Numbers.{none-below, one-more}
use Rattle.toga_say.specs.Threads.{one_at}
use Rattle.toga_say.proofs.threads.push_made.Goals as goal

pub loop-t-init : goal.loop-t-init
loop-t-init c =
    let old = c.args.made.now.items in
    sym (ap (λ more. old ++ more) (none-below (one_at c.args.s)) ∙ append-nil old)

pub loop-t-preserved : goal.loop-t-preserved
loop-t-preserved c =
    let f = (one_at c.args.s) in
    c.in_ok-push.ensures.items ∙ ap (λ front. front ++ f c.loop-t.t) c.loop-t.invariant
    ∙ append_assoc c.args.made.now.items (all_below f c.loop-t.t) (f c.loop-t.t)
    ∙ sym (ap (λ more. c.args.made.now.items ++ more) (one-more f c.loop-t.t))
