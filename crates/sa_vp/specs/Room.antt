-- Room for events, and what always holds of a run.
use Rattle.std.specs.Prelude.{ℕ, ◌+◌, ◌*◌, ◌≤◌}
use Rattle.sa_base.specs.declared.limits.TheConstants.{MAX_EVENTS}
use Rattle.sa_vp_model.specs.Run.{IsRead}
use Rattle.sa_vp.specs.declared.board.Parts.{Parts}
use Rattle.sa_vp.specs.declared.board.TheConstants.{EVENT_ITEMS}
use Rattle.sa_vp.specs.View.{board_of}

-- the trace and the I/Os have room for n events
pub record HasRoom (m : Parts) (n : ℕ) : Type 0 where
  pub items : EVENT_ITEMS * n ≤ m.trace.spare
  pub ios : n ≤ m.devices.ios.spare

-- one event took no more than its share of the room
pub record Spends (old new : Parts) : Type 0 where
  pub items : old.trace.spare ≤ new.trace.spare + EVENT_ITEMS
  pub ios : old.devices.ios.spare ≤ new.devices.ios.spare + 1

-- the board is read off a history of turns, of which there are no more than the budget, and the room is there
pub record IsKept (m : Parts) (budget spare : ℕ) : Type 0 where
  pub read : IsRead m.replay.workload (board_of m)
  pub within : m.number ≤ budget + 1
  pub few : budget ≤ MAX_EVENTS
  pub room : HasRoom m spare
