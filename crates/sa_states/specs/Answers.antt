-- What is answered of the states when a search stops.
use Rattle.std.specs.Prelude.{◌≡◌, ℕ, ◌<◌, List, length}
use Rattle.sa_base.specs.declared.number.ProcNo.{ProcNo}
use Rattle.sa_base.specs.declared.record.End.TheVariants.{AllDone, Stuck}
use Rattle.sa_explore_model.specs.declared.answer.State.{State}
use Rattle.sa_explore_model.specs.declared.answer.Extent.{Extent}
use Rattle.sa_explore_model.specs.declared.answer.Extent.TheVariants.{All, Part}
use Rattle.sa_explore_model.specs.declared.answer.Explored.{Explored}
use Rattle.sa_explore_model.specs.Search.{IsFoundIn, IsStopped}

-- a search of these states stops at one of them, or behind the last
abbrev pub IsAt : Extent → List State → ℕ → Type 0
IsAt All states at = (0 < length states) × (at ≡ length states)
IsAt Part states at = at < length states

pub record Answers (begun : List ProcNo) (states : List State) (extent : Extent) (at : ℕ) (x : Explored) : Type 0 where
  pub extent_is : x.extent ≡ extent
  pub size : x.states ≡ length states
  pub stopped : IsStopped extent x.depth states at
  pub done : IsFoundIn states begun AllDone x.all_done
  pub stuck : IsFoundIn states begun Stuck x.stuck
