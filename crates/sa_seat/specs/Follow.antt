-- How the keeper's lines follow those of a machine.
use Rattle.std.specs.Prelude.{◌≡◌, ℕ, ◌<◌, ◌≤◌, ◌⊎◌, Option, Some, None, IfSome, List, Contains, length}
use Rattle.sa_base.specs.declared.limits.TheConstants.{MAX_EVENTS, MAX_PROCESSORS}
use Rattle.sa_assign.specs.Reaim.{proc_no, line_at}
use Rattle.sa_kernel_model.specs.State.{KernelState, line_of}
use Rattle.sa_core_model.specs.Machine.{Machine}
use Rattle.sa_lines.specs.declared.view.Lane.{Lane}
use Rattle.sa_lines.specs.Words.{lane_at}
use Rattle.sa_lines.specs.Seen.{KeeperSeen, line_value, raised_at, lowered_at}

-- the line of a processor is stored as it is
abbrev pub set_at : ℕ → Option ℕ → KeeperSeen → KeeperSeen
set_at p None keeper = lowered_at p keeper
set_at p (Some e) keeper = raised_at p e keeper

-- the line is stored, unless it is as it was stored last
abbrev pub IsStored : ℕ → Option ℕ → Option ℕ → KeeperSeen → KeeperSeen → Type 0
IsStored p last line old new = ((line ≡ last) × (new ≡ old)) ⊎ (new ≡ set_at p line old)

-- these lines were stored last
abbrev pub AreStored : List (Option ℕ) → List Lane → Type 0
AreStored lines lanes = (p : ℕ) → p < length lanes → (lane_at lanes p).line ≡ line_value (line_at lines p)

-- the line of each processor was raised at an event that a run can have
abbrev pub AreEvents : {C : Type 0} → KernelState C → Type 0
AreEvents k = (p : ℕ) → IfSome (line_of k (proc_no p)) (λ e. e ≤ MAX_EVENTS)

-- what the words need before they follow the lines of a machine, where these were stored last
pub record MayFollow {U C : Type 0} (m : Machine U C) (lines : List (Option ℕ)) (keeper : KeeperSeen) : Type 0 where
  pub lanes : length keeper.lanes ≡ m.workload.processors
  pub few : m.workload.processors ≤ MAX_PROCESSORS
  pub stored : AreStored lines keeper.lanes
  pub events : AreEvents m.kernel

-- what the keeper knows of a processor after that: the line, with the event that raised it, and what it knew before
pub record IsFollowed (line : Option ℕ) (old new : Lane) : Type 0 where
  pub line_is : new.line ≡ line_value line
  pub account : new.account ≡ old.account
  pub raised : (e : ℕ) → Contains new.raised e → Contains old.raised e ⊎ (line ≡ Some e)

pub record HasFollowed {C : Type 0} (k : KernelState C) (processors : ℕ) (old new : KeeperSeen) (lines : List (Option ℕ)) : Type 0 where
  pub table_is : new.table ≡ old.table
  pub size : length new.lanes ≡ length old.lanes
  pub lines_are : (p : ℕ) → p < processors → line_at lines p ≡ line_of k (proc_no p)
  pub followed : (p : ℕ) → p < processors → IsFollowed (line_of k (proc_no p)) (lane_at old.lanes p) (lane_at new.lanes p)
