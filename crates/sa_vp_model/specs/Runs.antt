-- A run on the board is the run of an order of processors that is legal.
use Rattle.std.specs.Prelude.{◌≡◌, ℕ, ◌+◌, ◌≤◌, ◌<◌, All, List, [], ◌∷◌, length, slice_index_or}
use Rattle.sa_base.specs.declared.number.ProcNo.{ProcNo}
use Rattle.sa_base.specs.declared.limits.TheConstants.{MAX_EVENTS}
use Rattle.sa_spaces.specs.Workload.{WorkloadView, IsWorkload}
use Rattle.sa_laws.specs.Event.{Event, items_of}
use Rattle.sa_virtual.specs.Virtual.{opening}
use Rattle.sa_virtual.specs.Legal.{IsLegalVp, EndsWith, after_all, lost_of, run_from}
use Rattle.sa_vp_model.specs.Board.{Board, opened}
use Rattle.sa_vp_model.specs.Turn.{turned}
use Rattle.sa_vp_model.specs.Run.{IsRead}
use Rattle.sa_vp_model.specs.End.{end_of}

abbrev pub board_after : Board → List ProcNo → Board
board_after b [] = b
board_after b (p ∷ ps) = board_after (turned p b) ps

-- what is read of it is the history of these turns, which is legal; its losses and its end are those of that history
pub record RunIsRead (w : WorkloadView) (ps : List ProcNo) (b : Board) (events : List Event) : Type 0 where
  pub read : IsRead w b
  pub number : b.number ≡ length ps + 1
  pub items : b.items ≡ items_of events
  pub legal : IsLegalVp w b.items
  pub lost : (s : ℕ) → s < length w.spaces → slice_index_or b.lost s 0 ≡ lost_of w events (record { 0 = s })
  pub ends : (budget : ℕ) → EndsWith budget (after_all w (opening w) events) (length ps) (end_of budget b)

abbrev pub RunsAreRead : Type 0
RunsAreRead =
    (w : WorkloadView) (ps : List ProcNo) → IsWorkload w → All (λ (p : ProcNo). p.0 < w.processors) ps → length ps ≤ MAX_EVENTS
    → RunIsRead w ps (board_after (opened w) ps) (run_from w (opening w) ps)
