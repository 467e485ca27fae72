-- A turn on the board is a turn of what is read off the history.
use Rattle.std.specs.Prelude.{◌≡◌, ℕ, ◌+◌, ◌≤◌, ◌<◌, ◌++◌, min, length, slice_index_or}
use Rattle.sa_base.specs.declared.number.ProcNo.{ProcNo}
use Rattle.sa_base.specs.declared.limits.TheConstants.{MAX_EVENTS}
use Rattle.sa_base.specs.Items.{items_at}
use Rattle.sa_instr.specs.declared.limits.TheConstants.{MAX_START}
use Rattle.sa_spaces.specs.Workload.{WorkloadView, IsWorkload}
use Rattle.sa_virtual.specs.Virtual.{Virtuals}
use Rattle.sa_virtual.specs.Turn.{after, turned as turned_of}
use Rattle.sa_virtual.specs.Legal.{blocked_in, ready_in}
use Rattle.sa_virtual.specs.Turning.{Good, IsBelow}
use Rattle.sa_vp_model.specs.Board.{Board}
use Rattle.sa_vp_model.specs.Turn.{turned}
use Rattle.sa_vp_model.specs.Mirror.{Own, board_of, Mirrors, IsBounded}

-- the board is one that turns lead to: it is read off some history, in which all holds
pub record IsRead (w : WorkloadView) (b : Board) : Type 0 where
  pub virtuals : Virtuals
  pub own : Own
  pub is : b ≡ board_of w virtuals own
  pub valid : IsWorkload w
  pub good : Good w virtuals
  pub fits : Mirrors w virtuals own
  pub bounded : IsBounded virtuals own
  pub below : IsBelow (MAX_START + virtuals.base.number) virtuals.base.state.spaces

-- what a space loses in the last event of a history
abbrev pub lost_in : Virtuals → ℕ → ℕ
lost_in v s = min (blocked_in v (record { 0 = s })) (ready_in v (record { 0 = s }))

-- a turn: what is read is that of the rules, the items are what they say, and each space loses what it loses by them
pub record TurnIsRead (w : WorkloadView) (p : ProcNo) (old new : Board) (before : IsRead w old) : Type 0 where
  pub read : IsRead w new
  pub virtuals : read.virtuals ≡ after w before.virtuals p
  pub number : new.number ≡ old.number + 1
  pub items : new.items ≡ old.items ++ items_at before.virtuals.base.number p (turned_of w before.virtuals p).says
  pub lost : (s : ℕ) → s < length w.spaces → slice_index_or new.lost s 0 ≡ slice_index_or old.lost s 0 + lost_in (after w before.virtuals p) s

abbrev pub TurnsAreRead : Type 0
TurnsAreRead =
    (w : WorkloadView) (p : ProcNo) (b : Board) (read : IsRead w b) → p.0 < w.processors → b.number ≤ MAX_EVENTS
    → TurnIsRead w p b (turned p b) read
