-- What priorities are for, as a definition: after an event, where nothing is under way in a space that will serve a pair,
-- no ready thread of it outranks a running one. That it holds in each legal run is proved in sa_promises
-- (`legal_runs_outrank_nobody`).
use Rattle.std.specs.Prelude.{◌≡◌, ℕ, ◌≤◌, ◌<◌, ◌⊎◌, false, true, [], Some, None, List, length}
use Rattle.std.specs.List.{list_any}
use Rattle.sa_base.specs.declared.number.ProcNo.{ProcNo}
use Rattle.sa_base.specs.declared.number.SpaceNo.{SpaceNo}
use Rattle.sa_base.specs.declared.number.ThreadNo.{ThreadNo}
use Rattle.sa_base.specs.declared.number.ActNo.{ActNo}
use Rattle.sa_base.specs.declared.record.Item.{Item}
use Rattle.sa_spaces.specs.Workload.{WorkloadView}
use Rattle.sa_laws.specs.declared.place.Place.TheVariants.{Running, Ready}
use Rattle.sa_laws.specs.Event.{events_of}
use Rattle.sa_laws.specs.State.{thread_at, space_at}
use Rattle.sa_laws.specs.Life.{Life}
use Rattle.sa_laws.specs.Readings.{Readings, owner_of, line_of, life_of, running_of, untold_of}
use Rattle.sa_laws.specs.Record.{is_io_of}
use Rattle.sa_laws.specs.Legal.{before}
use Rattle.sa_ranks.specs.Rules.{prio_threads}
use Rattle.sa_ranks.specs.Pairs.{rank_in}

-- a life runs, or an I/O of it is under way
abbrev pub RunsOrIsBlocked : Readings → ActNo → Type 0
RunsOrIsBlocked r a = ((p : ProcNo) × (running_of r p ≡ Some a)) ⊎ (list_any (is_io_of a) r.under_way ≡ true)

-- nothing of the space is on its way: no line of a processor of it is raised, nothing is untold, and no running or
-- blocked life of it is in
pub record IsCalm (r : Readings) (s : SpaceNo) : Type 0 where
  pub lines : (p : ProcNo) → owner_of r p ≡ Some s → line_of r p ≡ None
  pub told : untold_of r s ≡ []
  pub out : (a : ActNo) (life : Life) → life_of r a ≡ Some life → life.space ≡ s → RunsOrIsBlocked r a → life.inside ≡ false

abbrev pub OutranksNobody : Readings → SpaceNo → Type 0
OutranksNobody r s =
    (t u : ThreadNo) (p : ProcNo) → (thread_at r.state s t).place ≡ Ready → (thread_at r.state s u).place ≡ Running p
    → rank_in (space_at r.state s) t ≤ rank_in (space_at r.state s) u

abbrev pub NoneIsOutranked : WorkloadView → List Item → Type 0
NoneIsOutranked w items =
    (n : ℕ) (s : SpaceNo) → s.0 < length w.spaces → IsCalm (before prio_threads w (events_of items) n) s
    → OutranksNobody (before prio_threads w (events_of items) n) s
