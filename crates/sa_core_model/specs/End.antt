-- How a run ends.
use Rattle.std.specs.Prelude.{ℕ, ◌-◌, ◌%◌, ◌==◌, min, Bool, false, ◌&&◌, not, if◌then◌else◌, Option, Some, None, is_some, length}
use Rattle.std.specs.List.{list_all}
use Rattle.sa_base.specs.declared.number.ProcNo.{ProcNo}
use Rattle.sa_base.specs.declared.number.SpaceNo.{SpaceNo}
use Rattle.sa_base.specs.declared.record.End.{End}
use Rattle.sa_base.specs.declared.record.End.TheVariants.{AllDone, Stuck, Budget}
use Rattle.sa_assign.specs.Aims.{least_below}
use Rattle.sa_assign.specs.Reaim.{proc_no}
use Rattle.sa_abstract.specs.declared.answer.SeatState.{SeatState}
use Rattle.sa_abstract.specs.declared.answer.SeatState.TheVariants.{Away}
use Rattle.sa_abstract.specs.Calls.{Calls}
use Rattle.sa_kernel_model.specs.State.{owner_of}
use Rattle.sa_kernel_model.specs.Seen.{is_quiet}
use Rattle.sa_core_model.specs.Machine.{Machine, user_of, context_on}

module _ {U C : Type 0} (f : Calls U C) where
  -- each thread that the space made is done; none of them is active
  abbrev pub is_done : U → Bool
  is_done u = (f.tally u).done == (f.tally u).made

  abbrev pub is_inactive : U → Bool
  is_inactive u = (f.tally u).active == 0

  -- the context that runs on a processor is inside the package
  abbrev pub owes_by : Option U → Option C → Bool
  owes_by (Some u) (Some c) = f.owes u c
  owes_by _ _ = false

  abbrev pub owes_in : Machine U C → ProcNo → Option SpaceNo → Bool
  owes_in m p None = false
  owes_in m p (Some s) = owes_by (user_of m s) (context_on m p)

  abbrev pub is_inside : Machine U C → ℕ → Bool
  is_inside m p = owes_in m (proc_no p) (owner_of m.kernel (proc_no p))

  abbrev pub is_any_inside : Machine U C → Bool
  is_any_inside m = is_some (least_below (length m.contexts) (is_inside m))

  abbrev pub all_done : Machine U C → Bool
  all_done m = list_all is_done m.users

  -- no thread is active, nothing is under way, and no running context is inside the package
  abbrev pub is_stuck : Machine U C → Bool
  is_stuck m = list_all is_inactive m.users && is_quiet m.kernel && not (is_any_inside m)

  -- the first of these that holds
  abbrev pub end_of : ℕ → Machine U C → Option End
  end_of budget m =
      if all_done m then Some AllDone
      else if is_stuck m then Some Stuck
      else if m.event == budget then Some Budget
      else None

  -- where the context that runs on a processor stands
  abbrev pub local_by : Option U → Option C → SeatState
  local_by (Some u) (Some c) = f.local u c
  local_by _ _ = Away

  abbrev pub local_in : Machine U C → ProcNo → Option SpaceNo → SeatState
  local_in m p None = Away
  local_in m p (Some s) = local_by (user_of m s) (context_on m p)

  abbrev pub local_on : Machine U C → ProcNo → SeatState
  local_on m p = local_in m p (owner_of m.kernel p)

module _ {U C : Type 0} where
  -- how many of n events the budget leaves, and none after the end of a slice
  abbrev pub within_slice : ℕ → Machine U C → ℕ
  within_slice n m = if m.workload.slice == 0 then n else min n (m.workload.slice - m.event % m.workload.slice)

  abbrev pub committable : ℕ → Machine U C → ℕ → ℕ
  committable budget m n = within_slice (min n (budget - m.event)) m
