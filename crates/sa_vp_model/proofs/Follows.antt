-- What is shown of each kind of turn: the board follows what is read.
use Rattle.std.proofs.Common.{◌≡◌, ℕ, ◌+◌, ◌≤◌, ◌++◌, get_or}
use Rattle.sa_base.specs.declared.number.ProcNo.{ProcNo}
use Rattle.sa_base.specs.declared.limits.TheConstants.{MAX_THREADS}
use Rattle.sa_base.specs.Items.{items_at}
use Rattle.sa_spaces.specs.Workload.{WorkloadView}
use Rattle.sa_laws.specs.History.{after_records}
use Rattle.sa_virtual.specs.Virtual.{Virtuals}
use Rattle.sa_virtual.specs.Turn.{Turned}
use Rattle.sa_vp_model.specs.Board.{Board}
use Rattle.sa_vp_model.specs.Mirror.{Own, board_of, Mirrors}

abbrev pub behind : WorkloadView → ProcNo → Virtuals → Turned → Virtuals
behind w p v t = record t.after { base = after_records w v.base.number p v.base t.says }

pub record Follows (w : WorkloadView) (p : ProcNo) (v : Virtuals) (t : Turned) (x : Own) (b : Board) : Type 0 where
  pub own : Own
  pub is : b ≡ board_of w (behind w p v t) own
  pub fits : Mirrors w (behind w p v t) own
  pub lost : own.lost ≡ x.lost
  pub items : own.items ≡ x.items ++ items_at v.base.number p t.says
  pub io_count : (behind w p v t).base.io_count ≤ v.base.io_count + 1
  pub steps : (a : ℕ) → get_or own.steps a 0 ≤ get_or x.steps a 0
  pub blocked : (s : ℕ) → get_or own.blocked s 0 ≤ get_or x.blocked s 0 + 1
  pub due : own.due ≤ x.due + MAX_THREADS

-- the board follows what is read, where one step may have been made before
pub record Goes (w : WorkloadView) (p : ProcNo) (v : Virtuals) (t : Turned) (x : Own) (b : Board) : Type 0 where
  pub own : Own
  pub is : b ≡ board_of w (behind w p v t) own
  pub fits : Mirrors w (behind w p v t) own
  pub lost : own.lost ≡ x.lost
  pub items : own.items ≡ x.items ++ items_at v.base.number p t.says
  pub io_count : (behind w p v t).base.io_count ≤ v.base.io_count + 1
  pub steps : (a : ℕ) → get_or own.steps a 0 ≤ get_or x.steps a 0 + 1
  pub blocked : (s : ℕ) → get_or own.blocked s 0 ≤ get_or x.blocked s 0 + 1
  pub due : own.due ≤ x.due + MAX_THREADS
