-- What is untold, in order, and the load of a space.
use Rattle.std.specs.Prelude.{ℕ, ◌+◌, ◌==◌, Bool, true, false, not, if◌then◌else◌, List, [], ◌∷◌, ◌++◌, filter, Option, Some, None}
use Rattle.std.specs.List.{count_by}
use Rattle.sa_base.specs.declared.number.SpaceNo.{SpaceNo}
use Rattle.sa_base.specs.declared.number.ThreadNo.{ThreadNo}
use Rattle.sa_base.specs.declared.record.Note.{Note}
use Rattle.sa_base.specs.declared.record.Note.TheVariants.{Preempted, Blocked, Unblocked}
use Rattle.sa_base.specs.declared.record.Record.{Record}
use Rattle.sa_base.specs.declared.record.Record.TheVariants.{Stop, Block, Unblock, Told}
use Rattle.sa_base.specs.declared.record.Item.{Item}
use Rattle.sa_spaces.specs.Workload.{WorkloadView}
use Rattle.sa_laws.specs.State.{space_at, active_threads}
use Rattle.sa_laws.specs.Record.{same_note}
use Rattle.sa_promises.specs.Along.{along}
use Rattle.sa_promises.specs.Moments.{machine_of}

-- a stop, block or unblock: the note that tells it, and its thread
pub record Untold : Type 0 where
  pub note : Note
  pub thread : Option ThreadNo

abbrev pub untold : Note → Option ThreadNo → Untold
untold n t = record { note = n; thread = t }

abbrev pub is_not_told : Note → Untold → Bool
is_not_told n noted = not (same_note noted.note n)

-- What a space was not told yet: its stops, blocks and unblocks, in order, without those that a record after them tells.
abbrev pub with_noted : SpaceNo → SpaceNo → Untold → List Untold → List Untold
with_noted s of noted all = if of.0 == s.0 then all ++ noted ∷ [] else all

abbrev pub untold_by : SpaceNo → List Untold → Record → List Untold
untold_by s all (Stop of t a) = with_noted s of (untold (Preempted a) t) all
untold_by s all (Block of t a io) = with_noted s of (untold (Blocked a) t) all
untold_by s all (Unblock of t a) = with_noted s of (untold (Unblocked a) t) all
untold_by s all (Told n) = filter (is_not_told n) all
untold_by s all _ = all

abbrev pub untold_at : SpaceNo → List Item → List Untold → Item → List Untold
untold_at s past all x = untold_by s all x.what

abbrev pub untold_in : List Item → SpaceNo → List Untold
untold_in items s = along (untold_at s) [] items

-- The load of a space is the number of its ready and running threads and of the threads of its untold stops.
abbrev pub is_some_thread : Option ThreadNo → Bool
is_some_thread None = false
is_some_thread (Some t) = true

abbrev pub is_stop : Note → Bool
is_stop (Preempted a) = true
is_stop _ = false

abbrev pub stops_thread : Untold → Bool
stops_thread noted = if is_stop noted.note then is_some_thread noted.thread else false

abbrev pub load_in : WorkloadView → List Item → SpaceNo → ℕ
load_in w items s = active_threads (space_at (machine_of w items) s) + count_by stops_thread (untold_in items s)
