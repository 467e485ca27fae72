use Rattle.sa_vp.proofs.Opening.{numbers-more}
use Rattle.sa_vp.proofs.queue.opening_numbers.Goals as goal

pub loop-k-preserved : goal.loop-k-preserved
loop-k-preserved c = numbers-more c.loop-k.numbers.items c.add_place.new.numbers.items c.args.spaces c.loop-k.k c.loop-k.invariant c.in_ok-add_place.ensures
