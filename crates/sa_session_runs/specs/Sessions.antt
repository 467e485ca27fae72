-- A session: moves of a machine, and replies between them.
use Rattle.std.specs.Prelude.{◌≡◌, ℕ, None, Some, List, [], ◌∷◌}
use Rattle.sa_base.specs.declared.number.SpaceNo.{SpaceNo}
use Rattle.sa_spaces.specs.Workload.{WorkloadView}
use Rattle.sa_abstract.specs.Calls.{Calls, Contexts}
use Rattle.sa_abstract.specs.Setting.{Setting}
use Rattle.sa_laws.specs.Readings.{Readings}
use Rattle.sa_core_model.specs.Machine.{Machine, user_of}
use Rattle.sa_core_model.specs.End.{end_of}
use Rattle.sa_core_model.specs.Run.{Move, IsMove}
use Rattle.sa_user_laws.specs.Level.{UserLevel}
use Rattle.sa_asked.specs.Questions.{with_user}

-- what stands and what fits does so of a value that is alike
pub record KeepsAlike {U C : Type 0} (level : UserLevel U C) (alike : U → U → Type 0) : Type 0 where
  pub stands_alike : (s : Setting) (e : ℕ) (u v : U) (cs : Contexts C) → alike u v → level.stands s e u cs → level.stands s e v cs
  pub fits_alike : (w : WorkloadView) (s : Setting) (r : Readings) (u v : U) (cs : Contexts C) → alike u v
      → level.fits w s r u cs → level.fits w s r v cs

-- the machine does a move, or the value of a space becomes another
pub data SessionMove (U : Type 0) : Type 0 where
  does : Move → SessionMove U
  puts : SpaceNo → U → SessionMove U

-- the value of a space becomes one that is alike, and nothing else changes
pub record IsPut {U C : Type 0} (alike : U → U → Type 0) (s : SpaceNo) (u : U) (m after : Machine U C) : Type 0 where
  pub before : U
  pub is_before : user_of m s ≡ Some before
  pub is_alike : alike before u
  pub is : after ≡ with_user s u m

module _ {U C : Type 0} (f : Calls U C) (alike : U → U → Type 0) where
  abbrev pub IsSessionMove : Machine U C → SessionMove U → Machine U C → Type 0
  IsSessionMove m (does move) after = IsMove f m move after
  IsSessionMove m (puts s u) after = IsPut alike s u m after

  -- the moves of a session, in order
  abbrev pub IsSession : Machine U C → List (SessionMove U) → Machine U C → Type 0
  IsSession m [] after = after ≡ m
  IsSession m (move ∷ moves) after = (between : Machine U C) × IsSessionMove m move between × IsSession between moves after

  -- before each move of the machine it had not ended
  abbrev pub NotEnded : ℕ → (m : Machine U C) (moves : List (SessionMove U)) (after : Machine U C) → IsSession m moves after → Type 0
  NotEnded budget m [] after session = Unit {0}
  NotEnded budget m (does move ∷ moves) after session = (end_of f budget m ≡ None) × NotEnded budget session.0 moves after session.2
  NotEnded budget m (puts s u ∷ moves) after session = NotEnded budget session.0 moves after session.2

-- the moves of the machine alone
abbrev pub moves_of : {U : Type 0} → List (SessionMove U) → List Move
moves_of [] = []
moves_of (does move ∷ moves) = move ∷ moves_of moves
moves_of (puts s u ∷ moves) = moves_of moves

-- moves of the machine as a session without a reply
abbrev pub session_of : {U : Type 0} → List Move → List (SessionMove U)
session_of [] = []
session_of (move ∷ moves) = does move ∷ session_of moves
