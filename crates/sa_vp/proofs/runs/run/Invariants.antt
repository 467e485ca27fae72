use Rattle.std.proofs.Common.{◌≡◌, ℕ, ◌+◌, ◌-◌, ◌<◌, ◌≤◌, None}
use Rattle.sa_sched.specs.Kind.{order_of}
use Rattle.sa_sched.specs.Order.{processor_at}
use Rattle.sa_sched.specs.Turns.{start, turned_often}
use Rattle.sa_vp_model.specs.End.{end_of}
use Rattle.sa_vp.proofs.Chain.{board_at}
use Rattle.sa_vp.proofs.runs.run.Given as goal

-- the turns so far were made
abbrev pub invariant-loop-end : goal.invariant-loop-end
invariant-loop-end l = record {
  some : 1 ≤ l.vp.board.number;
  board : l.vp.board ≡ board_at l.fn.workload (order_of l.fn.kind) (l.vp.board.number - 1);
  not_ended : (k : ℕ) → k < l.vp.board.number - 1 → end_of l.fn.budget (board_at l.fn.workload (order_of l.fn.kind) k) ≡ None;
  among : (k : ℕ) → k < l.vp.board.number - 1 → processor_at (order_of l.fn.kind) l.fn.workload.processors (k + 1) < l.fn.workload.processors;
  schedule : l.schedule ≡ turned_often (start (order_of l.fn.kind) l.fn.workload.processors) (l.vp.board.number - 1);
  processors : l.schedule.processors ≡ l.fn.workload.processors;
  workload : l.vp.board.workload ≡ l.fn.workload;
  budget : l.vp.budget ≡ l.fn.budget;
  within : l.vp.board.number ≤ l.fn.budget + 1;
}

abbrev pub decreases-loop-end : goal.decreases-loop-end
decreases-loop-end l = l.fn.budget + 1 - l.vp.board.number
