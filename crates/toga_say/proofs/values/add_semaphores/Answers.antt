use Rattle.std.proofs.Common.{◌++◌, ◌∙◌, sym, ap, append-nil, append_assoc}
use Rattle.sa_waits.specs.Waits.{all_below}
use Rattle.sa_waits.proofs.Numbers.{none-below, one-more}
use Rattle.toga_say.specs.Values.{semaphore_entry}
use Rattle.toga_say.proofs.values.add_semaphores.Goals as goal

pub loop-place-init : goal.loop-place-init
loop-place-init c =
    let old = c.args.entries.now.items in
    sym (ap (λ more. old ++ more) (none-below (semaphore_entry c.args.scene.now c.args.s c.args.own.now)) ∙ append-nil old)

pub loop-place-preserved : goal.loop-place-preserved
loop-place-preserved c =
    let f = (semaphore_entry c.args.scene.now c.args.s c.args.own.now) in
    c.in_ok-add_semaphore.ensures ∙ ap (λ front. front ++ f c.loop-place.place) c.loop-place.invariant
    ∙ append_assoc c.args.entries.now.items (all_below f c.loop-place.place) (f c.loop-place.place)
    ∙ sym (ap (λ more. c.args.entries.now.items ++ more) (one-more f c.loop-place.place))
