-- How a run on the board ends.
use Rattle.std.specs.Prelude.{◌≡◌, ℕ, ◌+◌, ◌==◌, Bool, true, false, ◌&&◌, if◌then◌else◌, List, [], ◌∷◌, Option, Some, None}
use Rattle.std.specs.List.{list_all}
use Rattle.sa_base.specs.declared.record.End.{End}
use Rattle.sa_base.specs.declared.record.End.TheVariants.{AllDone, Stuck, Budget}
use Rattle.sa_spaces.specs.Workload.{WorkloadView}
use Rattle.sa_devices.specs.Ios.{Io}
use Rattle.sa_laws.specs.Ends.{are_done, are_at_rest}
use Rattle.sa_virtual.specs.Legal.{EndsWith}
use Rattle.sa_vp_model.specs.Board.{Board}
use Rattle.sa_vp_model.specs.Run.{IsRead}

-- every thread that was made is done
abbrev pub is_done : Board → Bool
is_done b = list_all are_done b.state.spaces

-- no thread is ready, runs, is carried or is due, and no I/O is under way
abbrev pub no_io : List Io → Bool
no_io [] = true
no_io (io ∷ ios) = false

abbrev pub is_stuck : Board → Bool
is_stuck b = list_all are_at_rest b.state.spaces && (b.due == 0 && no_io b.devices.ios.under_way)

abbrev pub end_of : ℕ → Board → Option End
end_of budget b = if is_done b then Some AllDone else (if is_stuck b then Some Stuck else (if b.number == budget + 1 then Some Budget else None))

-- it ends so as a legal run does, after that many events
abbrev pub EndsAreRead : Type 0
EndsAreRead =
    (w : WorkloadView) (budget events : ℕ) (b : Board) (read : IsRead w b) → b.number ≡ events + 1 → EndsWith budget read.virtuals events (end_of budget b)
