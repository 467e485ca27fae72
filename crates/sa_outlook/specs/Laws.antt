-- The laws of outlooks, of the machines that turns lead to from the opening of a workload. A turn takes any number for its activation
-- that is not in use.
use Rattle.std.specs.Prelude.{◌≡◌, List, [], ◌∷◌, Option}
use Rattle.sa_base.specs.declared.number.ProcNo.{ProcNo}
use Rattle.sa_spaces.specs.Space.{SpaceView}
use Rattle.sa_spaces.specs.Workload.{WorkloadView, IsWorkload}
use Rattle.sa_abstract.specs.Calls.{Calls}
use Rattle.sa_core_model.specs.Machine.{Machine}
use Rattle.sa_core_model.specs.End.{all_done, is_stuck}
use Rattle.sa_core_model.specs.Run.{opening, CanTurn, IsTurn}
use Rattle.sa_outlook.specs.Outlook.{outlook}
use Rattle.sa_outlook.specs.Outs.{outs_of}

module _ {U C : Type 0} (f : Calls U C) where
  -- turns of these processors lead from m to `after`
  abbrev pub AreTurns : List ProcNo → Machine U C → Machine U C → Type 0
  AreTurns [] m after = after ≡ m
  AreTurns (p ∷ ps) m after = (between : Machine U C) × CanTurn f m p × IsTurn f m p between × AreTurns ps between after

  -- turns lead to m from the opening of some workload
  pub record IsOfRun (m : Machine U C) : Type 0 where
    pub of : WorkloadView
    pub ok : IsWorkload of
    pub turns : List ProcNo
    pub are : AreTurns turns (opening f of) m

  -- two machines end alike, or go on both
  pub record SameEnds (m n : Machine U C) : Type 0 where
    pub done : all_done f m ≡ all_done f n
    pub stuck : is_stuck f m ≡ is_stuck f n

  -- which numbers the turns took does not matter to the end
  abbrev pub EndsIgnoreNumbers : Type 0
  EndsIgnoreNumbers =
      (w : WorkloadView) (ps : List ProcNo) (m n : Machine U C) → IsWorkload w → AreTurns ps (opening f w) m → AreTurns ps (opening f w) n → SameEnds m n

module _ {U C D : Type 0} (f : Calls U C) (plain : Option SpaceView → C → D) where
  -- equal outlooks lead to equal outlooks by the same turns
  abbrev pub TurnsKeepOutlooks : Type 0
  TurnsKeepOutlooks =
      (m n after later : Machine U C) (ps : List ProcNo) → IsOfRun f m → IsOfRun f n → outlook plain m ≡ outlook plain n
      → AreTurns f ps m after → AreTurns f ps n later → outlook plain after ≡ outlook plain later

  -- from equal outlooks the same turns put out the same
  abbrev pub TurnsPutOutAlike : Type 0
  TurnsPutOutAlike =
      (m n after later : Machine U C) (ps : List ProcNo) → IsOfRun f m → IsOfRun f n → outlook plain m ≡ outlook plain n
      → outs_of m.items ≡ outs_of n.items → AreTurns f ps m after → AreTurns f ps n later → outs_of after.items ≡ outs_of later.items

  -- the ends depend on the outlook alone
  abbrev pub EndsFollowOutlooks : Type 0
  EndsFollowOutlooks = (m n : Machine U C) → IsOfRun f m → IsOfRun f n → outlook plain m ≡ outlook plain n → SameEnds f m n
