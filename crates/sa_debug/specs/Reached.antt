-- What a session is told of its user level: that the items of its runs can be played.
use Rattle.std.specs.Prelude.{◌≡◌, ℕ, zero, suc, List, [], ◌∷◌, ◌++◌, None}
use Rattle.sa_base.specs.declared.number.ProcNo.{ProcNo}
use Rattle.sa_base.specs.declared.record.Item.{Item}
use Rattle.sa_spaces.specs.Workload.{WorkloadView}
use Rattle.sa_abstract.specs.Calls.{Calls}
use Rattle.sa_replay.specs.Needs.{CanChange}
use Rattle.sa_core_model.specs.Machine.{Machine}
use Rattle.sa_core_model.specs.End.{end_of}
use Rattle.sa_core_model.specs.Run.{opening, IsMove}
use Rattle.sa_core_model.specs.Run.Move.{turn}
use Rattle.sa_laws.specs.State.{State, opening_state}
use Rattle.sa_laws.specs.Machine.{changed}

-- each of these items can change the state after those before it
abbrev pub CanPlay : WorkloadView → State → List Item → Type 0
CanPlay w a [] = Unit {0}
CanPlay w a (x ∷ xs) = CanChange w x.proc a x.what × CanPlay w (changed w x.proc a x.what) xs

module _ {U C : Type 0} (f : Calls U C) where
  -- that many turns, of any processors, lead from the opening of the workload to the machine, and none comes after an end
  abbrev pub Reaches : WorkloadView → (budget turns : ℕ) → Machine U C → Type 0
  Reaches w budget zero m = m ≡ opening f w
  Reaches w budget (suc n) m =
      (before : Machine U C) × (p : ProcNo) × Reaches w budget n before × (end_of f budget before ≡ None) × IsMove f before (turn p) m

  -- each turn of a run adds items to its trace, and each item is one that the abstract machine can do
  pub record IsPlayable (w : WorkloadView) (budget : ℕ) : Type 0 where
    pub adds : (n : ℕ) (m after : Machine U C) (p : ProcNo) → Reaches w budget n m → end_of f budget m ≡ None → IsMove f m (turn p) after
        → (more : List Item) × (after.items ≡ m.items ++ more)
    pub plays : (n : ℕ) (m : Machine U C) → Reaches w budget n m → CanPlay w (opening_state w) m.items
