use Rattle.std.proofs.Common.{arith}
use Rattle.sa_debug.proofs.Marking.{one_more}
use Rattle.sa_debug.proofs.points.Points.add.Goals as goal

pub invariant_of-self-2 : goal.invariant_of-self-2
invariant_of-self-2 c =
    one_more c.self.inside.threads c.self.inside.places c.self.inside.points.items c.push.new.self.items c.args.point c.thread_slot.result c.place_slot.result
    c.thread_slot.ensures c.place_slot.ensures (omega arith) (omega arith) c.in_ok-push.ensures.items c.self.invariant
