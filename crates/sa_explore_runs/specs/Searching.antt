-- What a search has done, with the store in which it keeps the states.
use Rattle.std.specs.Prelude.{◌≡◌, ℕ, List, Option, Some, slice_get}
use Rattle.sa_base.specs.declared.number.ProcNo.{ProcNo}
use Rattle.sa_spaces.specs.Space.{SpaceView}
use Rattle.sa_spaces.specs.Workload.{WorkloadView}
use Rattle.sa_abstract.specs.Calls.{Calls}
use Rattle.sa_core_model.specs.Machine.{Machine}
use Rattle.sa_outlook.specs.Outlook.{Outlook, outlook}
use Rattle.sa_outlook.specs.Laws.{IsOfRun}
use Rattle.sa_explore_model.specs.declared.answer.State.{State}
use Rattle.sa_explore_model.specs.Search.{IsSearch}
use Rattle.sa_states.specs.Store.{StoreView}
use Rattle.sa_explore_runs.specs.Runs.{end, IsOpenTurn, LeadTo, IsWay}

-- keys tell the outlooks of machines of runs of one workload
abbrev pub KeysTell : {U C D : Type 0} → Calls U C → (Option SpaceView → C → D) → (Outlook U D → List ℕ) → Type 0
KeysTell {U} {C} f plain code =
    (m n : Machine U C) → IsOfRun f m → IsOfRun f n → m.workload ≡ n.workload → code (outlook plain m) ≡ code (outlook plain n)
    → outlook plain m ≡ outlook plain n

-- `code` is the key of an outlook
module _ {U C D : Type 0} (f : Calls U C) (plain : Option SpaceView → C → D) (code : Outlook U D → List ℕ) (w : WorkloadView) where
  abbrev pub key_at : Machine U C → List ℕ
  key_at m = code (outlook plain m)

  -- a turn of a processor, after these turns, which lead to state `at`: the key and the state of where it led to
  pub record IsTried (turns : List ProcNo) (p : ProcNo) (at : ℕ) (key : List ℕ) (state : State) : Type 0 where
    pub from : Machine U C
    pub after : Machine U C
    pub leads : LeadTo f w turns from
    pub turn : IsOpenTurn f from p after
    pub key_is : key ≡ key_at after
    pub state_is : state ≡ record { before = at; proc = p; end = end f after }

  module _ (begun : List ProcNo) where
    -- the machines `kept` are one for each state; each is found by its key, and no other number is
    pub record IsSearching (store : StoreView) (nexts : List ℕ) (at next : ℕ) : Type 0 where
      pub kept : List (Machine U C)
      pub search : IsSearch (outlook plain) (end f) (IsWay f w begun) (IsOpenTurn f) w.processors store.states kept nexts at next
      pub numbered : (k : ℕ) (m : Machine U C) → slice_get kept k ≡ Some m → store.number (key_at m) ≡ Some k
      pub only : (bytes : List ℕ) (n : ℕ) → store.number bytes ≡ Some n → (m : Machine U C) × (slice_get kept n ≡ Some m) × (key_at m ≡ bytes)
