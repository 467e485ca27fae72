use Rattle.toga_source.specs.Plain.{numbered}
use Rattle.toga_source.proofs.Loops.{counted-more}
use Rattle.toga_source.proofs.plain.numbered_names.Goals as goal

pub loop-number-preserved : goal.loop-number-preserved
loop-number-preserved c =
    counted-more (numbered c.args.word.now) c.loop-number.number c.loop-number.names.items c.push.new.self.items c.in_ok-numbered.field-0
    c.loop-number.invariant c.in_ok-numbered.ensures c.in_ok-push.ensures.items
