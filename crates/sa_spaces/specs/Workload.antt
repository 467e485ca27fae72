-- What a workload is: the machine, its spaces, the evictions of pages and the turns of the processors.
use Rattle.std.specs.Prelude.{◌≡◌, ℕ, ◌<◌, ◌≤◌, ◌⊎◌, List, length, All}
use Rattle.std.specs.List.{AllAdjacentBelow}
use Rattle.sa_base.specs.declared.number.ProcNo.{ProcNo}
use Rattle.sa_base.specs.declared.limits.TheConstants.{MAX_EVENTS, MAX_PROCESSORS, MAX_SPACES}
use Rattle.sa_instr.specs.declared.limits.TheConstants.{LAST_PAGE, MAX_EVICTIONS, MAX_FETCH, MAX_SLICE, MAX_TURNS}
use Rattle.sa_spaces.specs.declared.workload.Evict.{Evict}
use Rattle.sa_spaces.specs.Space.{SpaceView, IsSpace}

-- what a contract sees of a workload
pub record WorkloadView : Type 0 where
  pub processors : ℕ
  -- how many events the fetch of a page takes
  pub fetch : ℕ
  pub spaces : List SpaceView
  pub evictions : List Evict
  pub turns : List ProcNo
  -- after how many events the remainder of the processors rotates; 0: never
  pub slice : ℕ

-- an eviction is of a page of a declared space, at an event that a run can have
pub record IsEviction (spaces : ℕ) (e : Evict) : Type 0 where
  pub first : 1 ≤ e.event
  pub last : e.event ≤ MAX_EVENTS
  pub space : e.space.0 < spaces
  pub page : e.page ≤ LAST_PAGE

-- compared by the event, then by the space, then by the page
abbrev pub IsBefore : Evict → Evict → Type 0
IsBefore a b =
    (a.event < b.event)
    ⊎ ((a.event ≡ b.event) × ((a.space.0 < b.space.0) ⊎ ((a.space.0 ≡ b.space.0) × (a.page < b.page))))

-- a workload keeps to its ranges, its evictions rise, and it names only processors and spaces of its own
pub record IsWorkload (w : WorkloadView) : Type 0 where
  pub some_processor : 1 ≤ w.processors
  pub few_processors : w.processors ≤ MAX_PROCESSORS
  pub some_fetch : 1 ≤ w.fetch
  pub short_fetch : w.fetch ≤ MAX_FETCH
  pub some_space : 1 ≤ length w.spaces
  pub few_spaces : length w.spaces ≤ MAX_SPACES
  pub spaces : All IsSpace w.spaces
  pub few_evictions : length w.evictions ≤ MAX_EVICTIONS
  pub evictions : All (IsEviction (length w.spaces)) w.evictions
  pub evictions_rise : AllAdjacentBelow IsBefore w.evictions (length w.evictions)
  pub few_turns : length w.turns ≤ MAX_TURNS
  pub turns : All (λ proc. proc.0 < w.processors) w.turns
  pub slice : w.slice ≤ MAX_SLICE
