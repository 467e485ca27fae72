-- Which cells there are.
use Rattle.std.specs.Prelude.{ℕ, ◌==◌, Bool, List, [], ◌∷◌, ◌++◌, length, if◌then◌else◌}
use Rattle.std.specs.List.{flat_map, range_with_len, list_any}
use Rattle.sa_base.specs.declared.number.ProcNo.{ProcNo}
use Rattle.sa_base.specs.declared.number.SpaceNo.{SpaceNo}
use Rattle.sa_base.specs.declared.number.ActNo.{ActNo}
use Rattle.sa_base.specs.declared.record.Record.{Record}
use Rattle.sa_base.specs.declared.record.Record.TheVariants as the
use Rattle.sa_laws.specs.State.{space_at, space_def}
use Rattle.sa_check_moment.specs.Seen.{Seen}
use Rattle.sa_cells.specs.declared.cell.Cell.{Cell}
use Rattle.sa_cells.specs.declared.cell.Cell.TheVariants.{Owner, Aim, Line, Activation, Runs, Demand, Untold, Holder, Listed, Thread, Mutex, Semaphore, Shared, Where, Locks, Hand}
use Rattle.sa_cells.specs.Space.{act_if, act_of_note}

-- of a processor
abbrev pub processor_cells : ℕ → List Cell
processor_cells n = let p : ProcNo = record { 0 = n } in Owner p ∷ Aim p ∷ Line p ∷ Activation p ∷ Runs p ∷ []

-- of a space: its own, of each list, each thread that was made, and all that it declares
abbrev pub list_cells : SpaceNo → ℕ → List Cell
list_cells s n = let l : ProcNo = record { 0 = n } in Holder s l ∷ Listed s l ∷ []

abbrev pub thread_cell : SpaceNo → ℕ → List Cell
thread_cell s n = Thread s (record { 0 = n }) ∷ []

abbrev pub mutex_cell : SpaceNo → ℕ → List Cell
mutex_cell s n = Mutex s n ∷ []

abbrev pub semaphore_cell : SpaceNo → ℕ → List Cell
semaphore_cell s n = Semaphore s n ∷ []

abbrev pub shared_cell : SpaceNo → ℕ → List Cell
shared_cell s n = Shared s n ∷ []

abbrev pub up_to : (ℕ → List Cell) → ℕ → List Cell
up_to cells n = flat_map cells (range_with_len 0 n)

-- its own and of each list; and all that its threads wait on and share
unfoldable pub own_cells : Seen → SpaceNo → List Cell
own_cells m s = (Demand s ∷ Untold s ∷ []) ++ up_to (list_cells s) m.workload.processors

unfoldable pub sync_cells : Seen → SpaceNo → List Cell
sync_cells m s =
    up_to (mutex_cell s) (space_def m.workload s).mutexes ++ up_to (semaphore_cell s) (length (space_def m.workload s).sems)
    ++ up_to (shared_cell s) (space_def m.workload s).cells

abbrev pub thread_cells : Seen → SpaceNo → List Cell
thread_cells m s = up_to (thread_cell s) (length (space_at m.readings.state s).threads)

unfoldable pub cells_of_space : Seen → SpaceNo → List Cell
cells_of_space m s = own_cells m s ++ thread_cells m s ++ sync_cells m s

abbrev pub space_cells : Seen → ℕ → List Cell
space_cells m n = cells_of_space m (record { 0 = n })

-- of an activation
abbrev pub act_cells : ActNo → List Cell
act_cells a = Where a ∷ Locks a ∷ Hand a ∷ []

-- the activations that an event may change: those that run before it, and those that its records name; each once
abbrev pub acts_in : Record → List ActNo
acts_in (the.Stop s t a) = a ∷ []
acts_in (the.Block s t a io) = a ∷ []
acts_in (the.Unblock s t a) = a ∷ []
acts_in (the.Up s a) = a ∷ []
acts_in (the.Told note) = act_of_note note
acts_in (the.GiveBack a) = a ∷ []
acts_in other = []

abbrev pub all_acts : Seen → List Record → List ActNo
all_acts before records = flat_map act_if before.readings.running ++ flat_map acts_in records

abbrev pub has_act : List ActNo → ActNo → Bool
has_act acts a = list_any (λ (b : ActNo). b.0 == a.0) acts

abbrev pub with_act : List ActNo → ActNo → List ActNo
with_act acts a = if has_act acts a then acts else acts ++ a ∷ []

abbrev pub each_once : List ActNo → List ActNo → List ActNo
each_once found [] = found
each_once found (a ∷ acts) = each_once (with_act found a) acts

abbrev pub acts_of : Seen → List Record → List ActNo
acts_of before records = each_once [] (all_acts before records)

-- the activations of the ups of records
abbrev pub up_in : Record → List ActNo
up_in (the.Up s a) = a ∷ []
up_in other = []

abbrev pub ups_in : List Record → List ActNo
ups_in records = flat_map up_in records

-- the cells of a moment behind an event with these records, and the moment before it
unfoldable pub cells_of : Seen → Seen → List Record → List Cell
cells_of before m records =
    up_to processor_cells m.workload.processors ++ up_to (space_cells m) (length m.workload.spaces) ++ flat_map act_cells (acts_of before records)
