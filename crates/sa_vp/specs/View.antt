-- The board that the code keeps, and a run as its callers see it.
use Rattle.std.specs.Prelude.{ℕ}
use Rattle.sa_vp_model.specs.Board.{Board}
use Rattle.sa_vp.specs.declared.board.Parts.{Parts}

-- the board that these parts make up; it says nothing of the room that was made
abbrev pub board_of : Parts → Board
board_of m = record {
  workload = m.replay.workload;
  number = m.number;
  state = m.replay.state;
  devices = record m.devices { ios = record m.devices.ios { spare = 0 } };
  queue = m.queue;
  placed = m.placed.items;
  threads = m.threads.items;
  steps = m.steps.items;
  ready = m.ready.items;
  work = m.work.items;
  due = m.due;
  blocked = m.blocked.items;
  lost = m.lost.items;
  items = m.trace.items;
}

-- what a contract sees of a run
pub record VpView : Type 0 where
  pub board : Board
  -- the number of events at which the run ends
  pub budget : ℕ
  -- for how many more events there is room
  pub spare : ℕ
