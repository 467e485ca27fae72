-- Turns of which none comes after an end: those that a search over all orders of turns goes through.
use Rattle.std.specs.Prelude.{◌≡◌, Bool, false, ◌||◌, List, [], ◌∷◌}
use Rattle.sa_base.specs.declared.number.ProcNo.{ProcNo}
use Rattle.sa_abstract.specs.Calls.{Calls}
use Rattle.sa_core_model.specs.Machine.{Machine}
use Rattle.sa_core_model.specs.End.{all_done, is_stuck}
use Rattle.sa_core_model.specs.Run.{CanTurn, IsTurn}

module _ {U C : Type 0} (f : Calls U C) where
  abbrev pub is_over : Machine U C → Bool
  is_over m = all_done f m || is_stuck f m

  -- turns of these processors, none after an end
  abbrev pub AreOpenTurns : List ProcNo → Machine U C → Machine U C → Type 0
  AreOpenTurns [] m after = after ≡ m
  AreOpenTurns (p ∷ ps) m after =
      (between : Machine U C) × (is_over m ≡ false) × CanTurn f m p × IsTurn f m p between × AreOpenTurns ps between after
