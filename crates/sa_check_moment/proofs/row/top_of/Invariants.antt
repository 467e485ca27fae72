use Rattle.std.proofs.Common.{◌≡◌, ℕ, ◌≤◌, []}
use Rattle.sa_check_moment.specs.Ranked.{row_stack}
use Rattle.sa_check_moment.proofs.row.top_of.Given as goal

-- no rank from here on has a thread
abbrev pub invariant-loop-top : goal.invariant-loop-top
invariant-loop-top l = record {
  within : l.top ≤ l.most;
  above : (k : ℕ) → l.top ≤ k → row_stack l.stacks k ≡ [];
}

abbrev pub decreases-loop-top : goal.decreases-loop-top
decreases-loop-top l = l.top
