use Rattle.std.proofs.Common.{◌≡◌, ◌+◌, ◌-◌, ◌≤◌, ◌++◌, length}
use Rattle.sa_base.specs.Items.{items_at}
use Rattle.sa_assign.specs.Reaim.{proc_no}
use Rattle.sa_kernel_model.specs.Opening.{first_wants}
use Rattle.sa_kernel.proofs.start.say_wants.Given as goal

-- what is left to be said makes up the rest
abbrev pub invariant-loop-s : goal.invariant-loop-s
invariant-loop-s l = record {
  items : l.trace.items ++ items_at 0 (proc_no 0) (first_wants l.s (l.spaces - l.s)) ≡ l.fn.trace.items ++ items_at 0 (proc_no 0) (first_wants 0 l.spaces);
  cost : l.fn.trace.spare ≤ l.trace.spare + l.s;
  same : l.trace.spare + length l.trace.items ≡ l.fn.trace.spare + length l.fn.trace.items;
}
