-- The states that are kept, and the number of each by its key.
use Rattle.std.specs.Prelude.{ℕ, nat_lt, if◌then◌else◌, List, [], ◌∷◌, ◌++◌, length, Option, Some, None}
use Rattle.std.specs.Str.{bytes_eq}
use Rattle.std.specs.HashMap.{get_by}
use Rattle.sa_explore_model.specs.declared.answer.State.{State}
use Rattle.sa_states.specs.declared.store.Store.{Store}

pub record StoreView : Type 0 where
  pub states : List State
  pub number : List ℕ → Option ℕ

abbrev pub store_of : Store → StoreView
store_of s = record { states = s.states.items; number = λ bytes. get_by (λ k. bytes_eq bytes k.items) s.numbers }

-- one state more
abbrev pub with_state : List ℕ → State → StoreView → StoreView
with_state key s store = record {
  states = store.states ++ s ∷ [];
  number = λ bytes. if bytes_eq key bytes then Some (length store.states) else store.number bytes;
}

-- a state with this key was come to: it is kept already; or it is new, and there is room for it, or there is not
abbrev pub arrived_by : Option ℕ → ℕ → List ℕ → State → StoreView → StoreView × Option ℕ
arrived_by (Some n) most key s store = (store, Some n)
arrived_by None most key s store =
    if nat_lt (length store.states) most then (with_state key s store, Some (length store.states)) else (store, None)

abbrev pub arrived : ℕ → List ℕ → State → StoreView → StoreView × Option ℕ
arrived most key s store = arrived_by (store.number key) most key s store
