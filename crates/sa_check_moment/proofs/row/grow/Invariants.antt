use Rattle.std.proofs.Common.{◌≡◌, ℕ, ◌+◌, ◌-◌, ◌≤◌, length}
use Rattle.sa_check_moment.specs.Ranked.{row_stack}
use Rattle.sa_check_moment.proofs.row.grow.Given as goal

abbrev pub invariant-loop-alloc : goal.invariant-loop-alloc
invariant-loop-alloc l = record {
  same : (k : ℕ) → row_stack l.stacks.items k ≡ row_stack l.fn.stacks.items k;
  more : length l.fn.stacks.items ≤ length l.stacks.items;
}

abbrev pub decreases-loop-alloc : goal.decreases-loop-alloc
decreases-loop-alloc l = (l.at + 1) - length l.stacks.items
