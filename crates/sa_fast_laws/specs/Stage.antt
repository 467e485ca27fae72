-- What the activation of a context is to the kernel, as long as its context was not handed over.
use Rattle.std.specs.Prelude.{◌==◌, Bool, true, false, Option, Some, None}
use Rattle.std.specs.List.{list_any}
use Rattle.sa_base.specs.declared.number.ActNo.{ActNo}
use Rattle.sa_base.specs.declared.number.ProcNo.{ProcNo}
use Rattle.sa_base.specs.declared.number.SpaceNo.{SpaceNo}
use Rattle.sa_base.specs.declared.record.Note.TheVariants.{Preempted, Unblocked}
use Rattle.sa_fast.specs.declared.threads.KeptPlace.{KeptPlace}
use Rattle.sa_fast.specs.declared.threads.KeptPlace.TheVariants as kept
use Rattle.sa_laws.specs.Life.{Life}
use Rattle.sa_laws.specs.Readings.{Readings, untold_of, running_of}
use Rattle.sa_laws.specs.Record.{same_note}
use Rattle.sa_laws.specs.declared.place.Place.{Place}
use Rattle.sa_laws.specs.declared.place.Place.TheVariants as place

-- It runs; it is blocked; it was stopped, or came back, and its space was not told of that yet.
pub data Stage : Type 0 where
  Runs : Stage
  InBlock : Stage
  Stopped : Stage
  Returned : Stage

abbrev pub stage_by : (stopped returned runs : Bool) → Stage
stage_by true returned runs = Stopped
stage_by false true runs = Returned
stage_by false false true = Runs
stage_by false false false = InBlock

abbrev pub is_act : ActNo → Option ActNo → Bool
is_act a None = false
is_act a (Some b) = b.0 == a.0

-- the stage of activation a, whose life has processor p, by the untold notices of its space and by who runs on p
abbrev pub stage_on : Readings → SpaceNo → ActNo → ProcNo → Stage
stage_on r s a p =
    stage_by (list_any (same_note (Preempted a)) (untold_of r s)) (list_any (same_note (Unblocked a)) (untold_of r s)) (is_act a (running_of r p))

abbrev pub stage_of : Readings → SpaceNo → ActNo → Life → Stage
stage_of r s a life = stage_on r s a life.proc

-- Where its stop or its return is untold, its own thread is in its hand already.
abbrev pub is_gone : Stage → Bool
is_gone Runs = false
is_gone InBlock = false
is_gone Stopped = true
is_gone Returned = true

abbrev pub is_running : Stage → Bool
is_running Runs = true
is_running _ = false

-- Where the thread is that its context carries, as the history says.
abbrev pub place_of : Stage → ProcNo → Place
place_of Runs p = place.Running p
place_of InBlock p = place.Blocked
place_of Stopped p = place.Carried
place_of Returned p = place.Carried

-- Where it is as the package keeps it, which hears of stops and returns by notices alone.
abbrev pub kept_of : Stage → KeptPlace
kept_of Runs = kept.Running
kept_of InBlock = kept.Blocked
kept_of Stopped = kept.Running
kept_of Returned = kept.Blocked

-- Whether it was idle when it ceased to run: a stopped life is marked so, and one that blocks is not idle.
abbrev pub was_idle : Stage → Life → Bool
was_idle Stopped life = life.idle
was_idle _ life = false
