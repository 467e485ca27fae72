-- A session goes on by one move more; and a run is a session.
use Rattle.std.proofs.Common.{◌≡◌, ℕ, None, refl, ap, subst, List, [], ◌∷◌, ◌++◌}
use Rattle.sa_abstract.specs.Calls.{Calls}
use Rattle.sa_core_model.specs.Machine.{Machine}
use Rattle.sa_core_model.specs.End.{end_of}
use Rattle.sa_core_model.specs.Run.{Move, IsRun}
use Rattle.sa_session_runs.specs.Sessions.{SessionMove, IsSessionMove, IsSession, NotEnded, moves_of, session_of}
use Rattle.sa_session_runs.specs.Sessions.SessionMove.{does, puts}

module _ {U C : Type 0} (f : Calls U C) (alike : U → U → Type 0) where
  pub session-push : (m : Machine U C) (moves : List (SessionMove U)) (between : Machine U C) (move : SessionMove U) (after : Machine U C)
      → IsSession f alike m moves between → IsSessionMove f alike between move after → IsSession f alike m (moves ++ move ∷ []) after
  session-push m [] between move after session made =
      (after, subst (λ (z : Machine U C). IsSessionMove f alike z move after) session made, refl)
  session-push m (x ∷ moves) between move after session made =
      (session.0, session.1, session-push session.0 moves between move after session.2 made)

  -- the machine had not ended before the move, if it is one of the machine
  abbrev pub GoesOnBefore : ℕ → Machine U C → SessionMove U → Type 0
  GoesOnBefore budget m (does move) = end_of f budget m ≡ None
  GoesOnBefore budget m (puts s u) = Unit {0}

  pub not-ended-push : (budget : ℕ) (m : Machine U C) (moves : List (SessionMove U)) (between : Machine U C) (move : SessionMove U) (after : Machine U C)
      (session : IsSession f alike m moves between) (made : IsSessionMove f alike between move after) → NotEnded f alike budget m moves between session
      → GoesOnBefore budget between move
      → NotEnded f alike budget m (moves ++ move ∷ []) after (session-push m moves between move after session made)
  unfolding session-push
  not-ended-push budget m [] between (does move) after session made none on = (subst (λ (z : Machine U C). end_of f budget z ≡ None) session on, tt)
  not-ended-push budget m [] between (puts s u) after session made none on = tt
  not-ended-push budget m (does x ∷ moves) between move after session made none on =
      (none.0, not-ended-push budget session.0 moves between move after session.2 made none.1 on)
  not-ended-push budget m (puts s u ∷ moves) between move after session made none on =
      not-ended-push budget session.0 moves between move after session.2 made none on

  pub run-is-session : (m : Machine U C) (moves : List Move) (after : Machine U C) → IsRun f m moves after
      → IsSession f alike m (session_of {U = U} moves) after
  run-is-session m [] after run = run
  run-is-session m (move ∷ moves) after run = (run.0, run.1, run-is-session run.0 moves after run.2)

-- the moves of the machine in a session that goes on
pub moves-push : {U : Type 0} (moves more : List (SessionMove U)) → moves_of (moves ++ more) ≡ moves_of moves ++ moves_of more
moves-push [] more = refl
moves-push (does move ∷ moves) more = ap (λ (xs : List Move). move ∷ xs) (moves-push moves more)
moves-push (puts s u ∷ moves) more = moves-push moves more
