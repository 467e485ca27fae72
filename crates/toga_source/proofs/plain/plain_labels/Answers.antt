use Rattle.toga_source.specs.Plain.{plain_label}
use Rattle.toga_source.proofs.Loops.{ranged-more}
use Rattle.toga_source.proofs.plain.plain_labels.Goals as goal

pub loop-place-preserved : goal.loop-place-preserved
loop-place-preserved c =
    ranged-more (plain_label c.args.program.now) c.loop-place.place c.loop-place.labels.items c.push_label.new.labels.items
    c.loop-place.invariant c.in_ok-push_label.ensures
