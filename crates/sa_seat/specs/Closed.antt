-- What a closed machine tells.
use Rattle.std.specs.Prelude.{◌≡◌, ℕ, ◌+◌, ◌<◌, ◌≤◌, ◌⊎◌, Option, Some, None, List, length, Contains, slice_get, slice_index_or}
use Rattle.sa_base.specs.declared.record.Item.{Item}
use Rattle.sa_base.specs.declared.record.End.{End}
use Rattle.sa_spaces.specs.Workload.{WorkloadView}
use Rattle.sa_abstract.specs.Calls.{Calls}
use Rattle.sa_core_model.specs.Machine.{Machine}
use Rattle.sa_core_model.specs.End.{end_of}
use Rattle.sa_core_model.specs.Run.{Move}
use Rattle.sa_lines.specs.declared.view.Lane.{Lane}
use Rattle.sa_lines.specs.Words.{lane_at}
use Rattle.sa_lines.specs.Seen.{KeeperSeen}
use Rattle.sa_seat.specs.Chain.{IsChain, turns_of, HasLine}
use Rattle.sa_seat.specs.Seat.{SeatView}

-- the history of the run, its end if it has one, and how many events each processor had
pub record ClosedView : Type 0 where
  pub items : List Item
  pub end : Option End
  pub turns : List ℕ

-- a seat at the close: its count is the number of its processor's events, its end is none or the run's, and each event that it
-- read in its line word has a record of that line
pub record IsOver (closed : ClosedView) (p : ℕ) (s : SeatView) : Type 0 where
  pub count : s.poller.account.count ≡ slice_index_or closed.turns p 0
  pub end : (s.poller.account.end ≡ None) ⊎ (s.poller.account.end ≡ closed.end)
  pub lines : (e : ℕ) → Contains s.poller.read (e + 1) → HasLine closed.items e p

module _ {U C : Type 0} (f : Calls U C) where
  pub record IsClosed (w : WorkloadView) (budget : ℕ) (seats : List SeatView) (closed : ClosedView) : Type 0 where
    pub moves : List Move
    pub machine : Machine U C
    pub chain : IsChain f budget w moves machine
    pub shows : closed.items ≡ machine.items
    pub end : closed.end ≡ end_of f budget machine
    pub few : machine.event ≤ budget
    pub turns : (p : ℕ) → p < w.processors → slice_index_or closed.turns p 0 ≡ turns_of p moves
    pub none : (p : ℕ) → w.processors ≤ p → slice_index_or closed.turns p 0 ≡ 0
    pub over : (p : ℕ) (s : SeatView) → slice_get seats p ≡ Some s → IsOver closed p s

-- what the keeper knows of a processor, but for the poller that was joined
pub record IsSameLane (old new : Lane) : Type 0 where
  pub account : new.account ≡ old.account
  pub raised : new.raised ≡ old.raised

-- the pollers of the seats were joined to the keeper, and these are the counts of the seats
pub record AreJoined (processors : ℕ) (seats : List SeatView) (old new : KeeperSeen) (turns : List ℕ) : Type 0 where
  pub table_is : new.table ≡ old.table
  pub size : length new.lanes ≡ length old.lanes
  pub lanes : (p : ℕ) → IsSameLane (lane_at old.lanes p) (lane_at new.lanes p)
  pub joined : (p : ℕ) (s : SeatView) → slice_get seats p ≡ Some s
      → (lane_at new.lanes p).joined ≡ Some (record { read = s.poller.read; account = s.poller.account })
  pub counts : (p : ℕ) (s : SeatView) → slice_get seats p ≡ Some s → slice_index_or turns p 0 ≡ s.poller.account.count
  pub none : (p : ℕ) → processors ≤ p → slice_index_or turns p 0 ≡ 0
