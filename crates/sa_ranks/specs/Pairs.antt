-- Ranks and pairs. A thread's rank is the number of its program. A pair is a ready thread that outranks a thread that
-- runs on a processor of their space whose line is low.
use Rattle.std.specs.Prelude.{◌≡◌, ℕ, ◌<◌, ◌≤◌, ◌==◌, nat_lt, Bool, true, false, ◌&&◌, Option, Some, None, is_none, is_some}
use Rattle.std.specs.List.{list_any}
use Rattle.sa_base.specs.declared.number.ProcNo.{ProcNo}
use Rattle.sa_base.specs.declared.number.SpaceNo.{SpaceNo}
use Rattle.sa_base.specs.declared.number.ThreadNo.{ThreadNo}
use Rattle.sa_spaces.specs.Workload.{WorkloadView}
use Rattle.sa_assign.specs.Aims.{least_below}
use Rattle.sa_assign.specs.Reaim.{proc_no}
use Rattle.sa_laws.specs.declared.place.Place.{Place}
use Rattle.sa_laws.specs.declared.place.Place.TheVariants.{Ready}
use Rattle.sa_laws.specs.State.{SpaceState, Thread, Runner, space_at, thread_in, runner_on}
use Rattle.sa_laws.specs.Readings.{Readings, line_of}

abbrev pub rank_in : SpaceState → ThreadNo → ℕ
rank_in x t = (thread_in x t).program

-- some ready thread of the space outranks a rank
abbrev pub is_ready : Place → Bool
is_ready Ready = true
is_ready _ = false

abbrev pub outranks : ℕ → Thread → Bool
outranks rank thread = is_ready thread.place && nat_lt rank thread.program

abbrev pub is_outranked : SpaceState → ℕ → Bool
is_outranked x rank = list_any (outranks rank) x.threads

-- the rank of the thread of the space that runs on a processor, if it is in a pair: the processor's line is low
abbrev pub rank_if : Bool → ℕ → Option ℕ
rank_if true rank = Some rank
rank_if false rank = None

abbrev pub outranked_by : Readings → SpaceNo → ProcNo → Option Runner → Option ℕ
outranked_by r s q None = None
outranked_by r s q (Some runner) =
    let x = space_at r.state s in
    let rank = rank_in x runner.thread in
    rank_if (runner.space.0 == s.0 && is_none (line_of r q) && is_outranked x rank) rank

abbrev pub outranked_on : Readings → SpaceNo → ProcNo → Option ℕ
outranked_on r s q = outranked_by r s q (runner_on r.state q)

-- a pair of the space exists
abbrev pub is_pair_on : Readings → SpaceNo → ℕ → Bool
is_pair_on r s q = is_some (outranked_on r s (proc_no q))

abbrev pub has_pair : WorkloadView → Readings → SpaceNo → Bool
has_pair w r s = is_some (least_below w.processors (is_pair_on r s))

-- of the processors whose threads are in pairs, this is the one of the lowest-ranked thread, and of these the one with
-- the lowest number
pub record IsLowest (r : Readings) (s : SpaceNo) (q : ProcNo) : Type 0 where
  pub rank : ℕ
  pub pair : outranked_on r s q ≡ Some rank
  pub lowest : (other : ProcNo) (n : ℕ) → outranked_on r s other ≡ Some n → rank ≤ n
  pub first : (other : ProcNo) (n : ℕ) → other.0 < q.0 → outranked_on r s other ≡ Some n → rank < n
