-- What is found of the states from which no turns lead to an end.
use Rattle.std.specs.Prelude.{◌≡◌, ℕ, ◌*◌, ◌<◌, Bool, List, length, Option, Some, slice_get}
use Rattle.sa_base.specs.declared.number.ProcNo.{ProcNo}
use Rattle.sa_explore_model.specs.declared.answer.State.{State}
use Rattle.sa_explore_model.specs.declared.answer.Found.{Found}
use Rattle.sa_explore_model.specs.Search.{AreMarked, AreUnmarked}

-- the numbers of the states to which turns lead, one for each turn of each processor from each state
pub record AreTurns (processors : ℕ) (states : List State) (nexts : List ℕ) : Type 0 where
  pub turns : length nexts ≡ length states * processors
  pub inside : (i to : ℕ) → slice_get nexts i ≡ Some to → to < length states

-- the first state from which no turns lead to an end, and how many there are
pub record IsEndlessIn (processors : ℕ) (states : List State) (nexts : List ℕ) (begun : List ProcNo) (found : Option Found) : Type 0 where
  pub marks : List Bool
  pub are : AreMarked processors states nexts marks
  pub first : AreUnmarked states begun marks found
