use Rattle.std.proofs.Common.{sym}
use Rattle.sa_assign.specs.AssignView.{AssignView}
use Rattle.sa_assign.proofs.ReaimLemmas.{one-aim-low, one-aim-raised}
use Rattle.sa_assign.proofs.assign.Assign.aim_one.Goals as goal

pub returns-then-is_none-clause-carried : goal.returns-then-is_none-clause-carried
returns-then-is_none-clause-carried c =
    let inside = c.self.inside in
    let old : AssignView = record { owners = inside.owners.items; aims = inside.aims.items; lines = inside.lines.items; marks = inside.marks.items } in
    rw (← c.self.view_is) (rw (c.put.ensures) (rw (c.put-then-is_none.ensures) (rw (c.say-then-is_none.ensures.items) (rw (c.say.ensures.items)
    (one-aim-low c.args.item.event c.args.item.proc c.args.s c.in-Some.p _ old c.args.trace.now.items
    (sym (rw c.deref-2.ensures.0 at (rw c.deref.ensures.0 at c.in-Some.ensures.choice)))
    (rw c.from.ensures at (rw c.deref-3.ensures.0 at c.if-is_none.ensures)))))))

pub returns-else-is_none-clause-carried : goal.returns-else-is_none-clause-carried
returns-else-is_none-clause-carried c =
    let inside = c.self.inside in
    let old : AssignView = record { owners = inside.owners.items; aims = inside.aims.items; lines = inside.lines.items; marks = inside.marks.items } in
    rw (← c.self.view_is) (rw (c.put.ensures) (rw (c.say.ensures.items)
    (one-aim-raised c.args.item.event c.args.item.proc c.args.s c.in-Some.p _ old c.args.trace.now.items
    (sym (rw c.deref-2.ensures.0 at (rw c.deref.ensures.0 at c.in-Some.ensures.choice)))
    (rw c.from.ensures at (rw c.deref-3.ensures.0 at c.if-is_none.ensures)))))
