use Rattle.sa_debug.proofs.Marking.{no_thread, no_place}
use Rattle.sa_debug.proofs.points.Points.has.Goals as goal

pub returns-then-not-self-thread_slot : goal.returns-then-not-self-thread_slot
returns-then-not-self-thread_slot c =
    no_thread c.self.inside.threads c.self.inside.places c.self.inside.points.items c.args.self.now c.args.point c.thread_slot.result
    c.self.view_is c.thread_slot.ensures c.self.invariant c.if-not-self-thread_slot.true

pub returns-then-not-self-place_slot : goal.returns-then-not-self-place_slot
returns-then-not-self-place_slot c =
    no_place c.self.inside.threads c.self.inside.places c.self.inside.points.items c.args.self.now c.args.point c.place_slot.result
    c.self.view_is c.place_slot.ensures c.self.invariant c.if-not-self-place_slot.true
