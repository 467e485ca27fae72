use Rattle.std.proofs.Common.{◌≡◌, ◌+◌, ◌-◌, ◌*◌, ◌≤◌, length, sum, take}
use Rattle.sa_assign.specs.Aims.{changes_from}
use Rattle.sa_assign.specs.Reaim.{carried_out}
use Rattle.sa_assign.proofs.assign.Assign.reaim.Given as goal

abbrev pub invariant-loop-s : goal.invariant-loop-s
invariant-loop-s l = record {
  carried : carried_out l.item.event l.item.proc (changes_from l.s (length l.claims - l.s) l.shares l.self.marks l.self.aims) (l.self, l.trace.items)
      ≡ carried_out l.item.event l.item.proc (changes_from 0 (length l.claims) l.shares l.fn.self.marks l.fn.self.aims) (l.fn.self, l.fn.trace.items);
  cost : l.fn.trace.spare ≤ l.trace.spare + 2 * sum (take l.s l.shares);
  spare : l.trace.spare + length l.trace.items ≡ l.fn.trace.spare + length l.fn.trace.items;
}
