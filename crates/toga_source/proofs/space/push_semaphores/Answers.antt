use Rattle.toga_source.specs.Show.{semaphore_line}
use Rattle.toga_source.proofs.Loops.{numbered-more, numbered-all}
use Rattle.toga_source.proofs.space.push_semaphores.Goals as goal

pub loop-number-preserved : goal.loop-number-preserved
loop-number-preserved c =
    numbered-more (semaphore_line c.args.names.now) c.args.starts.now c.loop-number.number _ c.args.out.now.items c.loop-number.out.items c.push_semaphore.new.out.items
    c.loop-number-test.true c.loop-number.invariant (c.in_ok-push_semaphore.ensures)

pub returns : goal.returns
returns c =
    numbered-all (semaphore_line c.args.names.now) c.args.starts.now c.loop-number.number c.args.out.now.items c.loop-number.out.items c.loop-number-test.false c.loop-number.invariant
