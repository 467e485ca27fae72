use Rattle.std.proofs.Common.{◌++◌, ◌∙◌, sym, ap, append-nil, append_assoc}
use Rattle.sa_laws.specs.State.{space_at}
use Rattle.sa_waits.specs.Waits.{waiting, all_below}
use Rattle.sa_waits.proofs.Numbers.{none-below, one-more}
use Rattle.sa_waits.proofs.threads.push_space.Goals as goal

pub loop-t-init : goal.loop-t-init
loop-t-init c =
    let old = c.args.waits.now.items in
    sym (ap (λ more. old ++ more) (none-below (waiting c.args.s (space_at c.args.replay.now.state c.args.s))) ∙ append-nil old)

pub loop-t-preserved : goal.loop-t-preserved
loop-t-preserved c =
    let f = waiting c.args.s (space_at c.args.replay.now.state c.args.s) in
    c.in_ok-push_thread.ensures ∙ ap (λ front. front ++ f c.loop-t.t) c.loop-t.invariant
    ∙ append_assoc c.args.waits.now.items (all_below f c.loop-t.t) (f c.loop-t.t)
    ∙ sym (ap (λ more. c.args.waits.now.items ++ more) (one-more f c.loop-t.t))
