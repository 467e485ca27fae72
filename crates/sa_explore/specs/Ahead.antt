-- The turns that are tried, and those that are made ahead.
use Rattle.std.specs.Prelude.{◌≡◌, ℕ, ◌<◌, ◌⊎◌, Bool, true, List, [], ◌∷◌, ◌++◌, length, All, drop, Option, Some}
use Rattle.sa_base.specs.declared.number.ProcNo.{ProcNo}
use Rattle.sa_base.specs.declared.limits.TheConstants.{MAX_EVENTS}
use Rattle.sa_spaces.specs.Space.{SpaceView}
use Rattle.sa_spaces.specs.Workload.{WorkloadView}
use Rattle.sa_abstract.specs.Calls.{Calls}
use Rattle.sa_core_model.specs.Machine.{Machine}
use Rattle.sa_core.specs.View.{CoreView, machine}
use Rattle.sa_outlook.specs.Outlook.{Outlook, outlook}
use Rattle.sa_explore_model.specs.declared.answer.State.{State}
use Rattle.sa_explore_model.specs.Search.{way_to}
use Rattle.sa_explore_runs.specs.Runs.{end, IsOpenTurn, LeadTo}
use Rattle.sa_explore_runs.specs.Searching.{IsTried}
use Rattle.sa_explore.specs.declared.ahead.Tried.{Tried}
use Rattle.sa_explore.specs.declared.search.Scope.{Scope}
use Rattle.sa_explore.specs.declared.search.Search.{Search}
use Rattle.sa_explore.specs.Doing.{states_of}

-- a run that has made these turns, and may have the most events
pub record IsRun {U C : Type 0} (f : Calls U C) (w : WorkloadView) (turns : List ProcNo) (core : CoreView U C) : Type 0 where
  pub leads : LeadTo f w turns (machine core)
  pub budget : core.budget ≡ MAX_EVENTS

-- the first ones were taken
abbrev pub IsLater : List Tried → List Tried → Type 0
IsLater old new = (n : ℕ) × (new ≡ drop n old)

-- `code` is the key of an outlook
module _ {U C D : Type 0} (f : Calls U C) (plain : Option SpaceView → C → D) (code : Outlook U D → List ℕ) where
  -- where a turn of a processor led to, from a machine that is at state `at`
  pub record IsMadeBy (from after : Machine U C) (p : ProcNo) (at : ℕ) (tried : Tried) : Type 0 where
    pub turn : IsOpenTurn f from p after
    pub key_is : tried.key.items ≡ code (outlook plain after)
    pub state_is : tried.state ≡ record { before = at; proc = p; end = end f after }

  pub record IsMadeFrom (from : Machine U C) (at : ℕ) (tried : Tried) : Type 0 where
    pub after : Machine U C
    pub proc : ProcNo
    pub made : IsMadeBy from after proc at tried

  -- those that were made ahead from state `at` are turns after these ones, which lead there
  abbrev pub AreFrom : WorkloadView → List ProcNo → ℕ → List Tried → Type 0
  AreFrom w turns at ahead =
      All (λ (tried : Tried). tried.state.before ≡ at → IsTried f plain code w turns tried.state.proc at tried.key.items tried.state) ahead

  -- one more was made ahead, from state `to`, which is new, by this run
  pub record IsOneMore (run : Option (CoreView U C)) (is_new : Bool) (to : ℕ) (old new : List Tried) : Type 0 where
    pub core : CoreView U C
    pub is : run ≡ Some core
    pub now : is_new ≡ true
    pub tried : Tried
    pub made : IsMadeFrom (machine core) to tried
    pub items : new ≡ old ++ tried ∷ []

  -- one more, or none
  abbrev pub IsMore : Option (CoreView U C) → Bool → ℕ → List Tried → List Tried → Type 0
  IsMore run is_new to old new = (new ≡ old) ⊎ IsOneMore run is_new to old new

  -- it is the turn that its own state names, from a state that is kept
  pub record IsAhead (scope : Scope) (states : List State) (tried : Tried) : Type 0 where
    pub within : tried.state.before < length states
    pub is : IsTried f plain code scope.workload (scope.begun.items ++ way_to states tried.state.before) tried.state.proc tried.state.before
        tried.key.items tried.state

  -- all that were made ahead
  abbrev pub AreAhead : Scope → Search → Type 0
  AreAhead scope search = All (IsAhead scope (states_of search)) search.ahead.items
