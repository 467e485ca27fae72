use Rattle.std.proofs.Common.{◌≡◌, ◌+◌, ◌-◌, ◌*◌, ◌≤◌, length}
use Rattle.sa_assign.specs.Aims.{changes_for}
use Rattle.sa_assign.specs.Reaim.{carried_out}
use Rattle.sa_assign.proofs.assign.Assign.fill.Given as goal

abbrev pub invariant-loop : goal.invariant-loop
invariant-loop l = record {
  carried : carried_out l.item.event l.item.proc (changes_for (l.missing - l.counter) l.shares l.self.marks l.s.0 l.self.aims) (l.self, l.trace.items)
      ≡ carried_out l.item.event l.item.proc (changes_for l.missing l.shares l.fn.self.marks l.s.0 l.fn.self.aims) (l.fn.self, l.fn.trace.items);
  cost : l.fn.trace.spare ≤ l.trace.spare + 2 * l.counter;
  spare : l.trace.spare + length l.trace.items ≡ l.fn.trace.spare + length l.fn.trace.items;
}
