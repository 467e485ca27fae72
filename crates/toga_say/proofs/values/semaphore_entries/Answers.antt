use Rattle.std.proofs.Common.{◌++◌, ◌∙◌, sym, ap}
use Rattle.sa_waits.proofs.Numbers.{none-below, one-more}
use Rattle.toga_say.specs.Values.{semaphores_at}
use Rattle.toga_say.proofs.values.semaphore_entries.Goals as goal

pub loop-s-init : goal.loop-s-init
loop-s-init c = c.new-entries.ensures.items ∙ sym (none-below (semaphores_at c.args.scene.now))

pub loop-s-preserved : goal.loop-s-preserved
loop-s-preserved c =
    let f = (semaphores_at c.args.scene.now) in
    c.in_ok-add_semaphores_at.ensures ∙ ap (λ front. front ++ f c.loop-s.s) c.loop-s.invariant ∙ sym (one-more f c.loop-s.s)
