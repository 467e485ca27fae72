-- What a search has done, in code.
use Rattle.std.specs.Prelude.{◌≡◌, ℕ, ◌+◌, ◌<◌, ◌≤◌, ◌⊎◌, Bool, true, false, List, ◌++◌, length, Option, Some, None, slice_get}
use Rattle.sa_base.specs.declared.number.ProcNo.{ProcNo}
use Rattle.sa_base.specs.declared.limits.TheConstants.{MAX_EVENTS}
use Rattle.sa_spaces.specs.Space.{SpaceView}
use Rattle.sa_abstract.specs.Calls.{Calls}
use Rattle.sa_outlook.specs.Outlook.{Outlook}
use Rattle.sa_explore_model.specs.declared.answer.Extent.{Extent}
use Rattle.sa_explore_model.specs.declared.answer.Extent.TheVariants.{All, Part}
use Rattle.sa_explore_model.specs.declared.answer.State.{State}
use Rattle.sa_explore_model.specs.declared.answer.Found.{Found}
use Rattle.sa_explore_model.specs.Search.{way_to}
use Rattle.sa_states.specs.Store.{store_of}
use Rattle.sa_states.specs.Marks.{IsEndlessIn}
use Rattle.sa_explore_runs.specs.Searching.{IsSearching}
use Rattle.sa_explore.specs.Explored.{IsBeyond}
use Rattle.sa_explore.specs.declared.search.Scope.{Scope}
use Rattle.sa_explore.specs.declared.search.Search.{Search}

abbrev pub states_of : Search → List State
states_of search = (store_of search.store).states

-- the turns that lead to a state, with the turn lines before them
abbrev pub turns_to : Scope → Search → ℕ → List ProcNo
turns_to scope search at = scope.begun.items ++ way_to (states_of search) at

-- runs go on at a state
abbrev pub RunsGoOn : Search → ℕ → Type 0
RunsGoOn search at = (s : State) × (slice_get (states_of search) at ≡ Some s) × (s.end ≡ None)

-- `code` is the key of an outlook
module _ {U C D : Type 0} (f : Calls U C) (plain : Option SpaceView → C → D) (code : Outlook U D → List ℕ) (scope : Scope) where
  -- the next turn is that of processor `next` from state `at`, and there is room for the states
  pub record HasDone (search : Search) (at next : ℕ) : Type 0 where
    pub searching : IsSearching f plain code scope.workload scope.begun.items (store_of search.store) search.nexts.items at next
    pub room : length (states_of search) ≤ scope.most

  -- there is no room for where the turns of a state lead to
  pub record IsFull {search : Search} {at next : ℕ} (done : HasDone search at next) : Type 0 where
    pub room : length (states_of search) ≡ scope.most
    pub beyond : IsBeyond f plain scope.workload scope.begun.items done.searching.kept (length (way_to (states_of search) at))

  -- runs go on at a state to which the most events lead
  pub record HasMostEvents (search : Search) (at : ℕ) : Type 0 where
    pub goes : RunsGoOn search at
    pub most : length scope.begun.items + length (way_to (states_of search) at) ≡ MAX_EVENTS

  -- the next turn cannot be made, since the run there has had the most events, or where it leads to cannot be kept
  pub record IsSpent (search : Search) (at : ℕ) : Type 0 where
    pub next : ℕ
    pub some : next < scope.workload.processors
    pub done : HasDone search at next
    pub within : at < length (states_of search)
    pub spent : IsFull done ⊎ HasMostEvents search at

  -- the turn of processor `next` from state `at` was made, which is there as before; or it is the one that cannot be made
  pub record HasMade (old search : Search) (at next : ℕ) : Type 0 where
    pub done : HasDone search at (next + 1)
    pub within : at < length (states_of search)
    pub turns : turns_to scope search at ≡ turns_to scope old at
    pub state : slice_get (states_of search) at ≡ slice_get (states_of old) at

  abbrev pub IsMade : Bool → Search → Search → ℕ → ℕ → Type 0
  IsMade true old search at next = HasMade old search at next
  IsMade false old search at next = IsSpent search at

  -- all turns from a state were made, or not
  abbrev pub AreMade : Bool → Search → ℕ → Type 0
  AreMade true search at = HasDone search (at + 1) 0 × (at < length (states_of search))
  AreMade false search at = IsSpent search at

  -- a search stops behind the last state, or at one where it cannot go on
  abbrev pub HasStopped : Extent → Search → ℕ → Type 0
  HasStopped All search at = HasDone search at 0 × (at ≡ length (states_of search))
  HasStopped Part search at = IsSpent search at

-- what is said of the states from which no order of turns ends
abbrev pub IsEndlessBy : Extent → Scope → Search → Option Found → Type 0
IsEndlessBy All scope search found = IsEndlessIn scope.workload.processors (states_of search) search.nexts.items scope.begun.items found
IsEndlessBy Part scope search found = found ≡ None
