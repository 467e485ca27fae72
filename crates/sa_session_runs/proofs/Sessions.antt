-- Each session is a legal run by its user level's rules.
use Rattle.std.proofs.Common.{◌≡◌, ℕ, ◌+◌, ◌<◌, refl, sym, ap, ◌∙◌, subst, Some, List, [], ◌∷◌, ◌++◌, length, slice_get, replicate, append_assoc}
use Rattle.std.proofs.lemmas.List.{append-nil, map-append}
use Rattle.sa_base.specs.declared.number.ProcNo.{ProcNo}
use Rattle.sa_base.specs.declared.number.SpaceNo.{SpaceNo}
use Rattle.sa_base.specs.declared.record.End.{End}
use Rattle.sa_spaces.specs.Workload.{WorkloadView, IsWorkload}
use Rattle.sa_assign.specs.Reaim.{proc_no}
use Rattle.sa_laws.specs.Event.{Event, events_of}
use Rattle.sa_laws.specs.Ends.{GoesOn}
use Rattle.sa_laws.specs.Legal.{IsLegal, IsStrictRun, IsRight, EndOf, before}
use Rattle.sa_core_model.specs.Machine.{Machine}
use Rattle.sa_core_model.specs.End.{end_of}
use Rattle.sa_core_model.specs.Run.{opening, Move}
use Rattle.sa_core_model.specs.Run.Move.{turn, commit}
use Rattle.sa_user_laws.specs.Level.{UserLevel}
use Rattle.sa_legal_runs.specs.Moves.{AreTurns, processors_of, procs_of}
use Rattle.sa_legal_runs.proofs.runs.Homes.{AreHomed}
use Rattle.sa_legal_runs.proofs.runs.LegalRuns.{IsReached, reached-opening, reached-move, legal-of, end-of, number-of, count-of, processors-are, IsStrictly, strictly-opening, strictly-turn, strict-of}
use Rattle.sa_legal_runs.proofs.runs.RightTraces.{IsDriven, driven-opening, driven-move, go-on-of, right-of}
use Rattle.sa_session_runs.specs.Sessions.{KeepsAlike, SessionMove, IsPut, IsSession, NotEnded, moves_of}
use Rattle.sa_session_runs.specs.Sessions.SessionMove.{does, puts}
use Rattle.sa_session_runs.proofs.Puts.{composed-put}

module _ {U C : Type 0} (level : UserLevel U C) (alike : U → U → Type 0) (keep : KeepsAlike level alike) where
  -- A VALUE THAT IS ALIKE changes nothing of what was reached.
  pub reached-put : (w : WorkloadView) (events : List Event) (m : Machine U C) (s : SpaceNo) (u : U) (after : Machine U C)
      → IsReached level w events m → IsPut alike s u m after → IsReached level w events after
  reached-put w events m s u after c put = record {
    composed = composed-put level alike keep w events m s u after c.composed put;
    home = subst (λ (z : Machine U C). AreHomed (length w.spaces) z.kernel.acts) (sym put.is) c.home;
  }

  pub strictly-put : (w : WorkloadView) (events : List Event) (m : Machine U C) (s : SpaceNo) (u : U) (after : Machine U C)
      → IsStrictly level w events m → IsPut alike s u m after → IsStrictly level w events after
  strictly-put w events m s u after c put =
      record { composed = composed-put level alike keep w events m s u after c.composed put; strict = c.strict }

  pub driven-put : (w : WorkloadView) (events : List Event) (m : Machine U C) (s : SpaceNo) (u : U) (after : Machine U C)
      → IsDriven level w events m → IsPut alike s u m after → IsDriven level w events after
  driven-put w events m s u after c put = record { reached = reached-put w events m s u after c.reached put; on = c.on }

  first-and : (move : Move) (moves : List Move) → processors_of (move ∷ []) ++ processors_of moves ≡ processors_of (move ∷ moves)
  first-and (turn p) moves = refl
  first-and (commit p n) moves = append_assoc (replicate n p) [] (processors_of moves)

  reached-session : (w : WorkloadView) (events : List Event) (m : Machine U C) (moves : List (SessionMove U)) (after : Machine U C)
      → IsReached level w events m → IsSession level.calls alike m moves after
      → (more : List Event) × IsReached level w (events ++ more) after × (procs_of more ≡ processors_of (moves_of moves))
  reached-session w events m [] after c session = (
    [],
    subst (λ (es : List Event). IsReached level w es after) (sym (append-nil events))
        (subst (λ (z : Machine U C). IsReached level w events z) (sym session) c),
    refl,
  )
  reached-session w events m (does move ∷ moves) after c session =
      let first = reached-move level w events m move session.0 c session.1 in
      let rest = reached-session w (events ++ first.0) session.0 moves after first.1 session.2 in (
        first.0 ++ rest.0,
        subst (λ (es : List Event). IsReached level w es after) (append_assoc events first.0 rest.0) rest.1,
        map-append (λ (e : Event). e.proc) first.0 rest.0
            ∙ ap (λ (ps : List ProcNo). ps ++ procs_of rest.0) first.3
            ∙ ap (λ (ps : List ProcNo). processors_of (move ∷ []) ++ ps) rest.2
            ∙ first-and move (moves_of moves),
      )
  reached-session w events m (puts s u ∷ moves) after c session =
      reached-session w events session.0 moves after (reached-put w events m s u session.0 c session.1) session.2

  strict-session : (w : WorkloadView) (events : List Event) (m : Machine U C) (moves : List (SessionMove U)) (after : Machine U C)
      → IsStrictly level w events m → AreTurns (moves_of moves) → IsSession level.calls alike m moves after
      → (all : List Event) × IsStrictly level w all after
  strict-session w events m [] after c turns session = (events, subst (λ (z : Machine U C). IsStrictly level w events z) (sym session) c)
  strict-session w events m (does (turn p) ∷ moves) after c turns session =
      let go = strictly-turn level w events m p session.0 c session.1 in
      strict-session w (events ++ go.0 ∷ []) session.0 moves after go.1 turns session.2
  strict-session w events m (does (commit p n) ∷ moves) after c turns session = absurd turns
  strict-session w events m (puts s u ∷ moves) after c turns session =
      strict-session w events session.0 moves after
      (strictly-put w events m s u session.0 c session.1) turns session.2

  driven-session : (w : WorkloadView) (events : List Event) (budget : ℕ) (m : Machine U C) (moves : List (SessionMove U)) (after : Machine U C)
      (session : IsSession level.calls alike m moves after) → IsDriven level w events m → NotEnded level.calls alike budget m moves after session
      → (all : List Event) × IsDriven level w all after
  driven-session w events budget m [] after session c none = (events, subst (λ (z : Machine U C). IsDriven level w events z) (sym session) c)
  driven-session w events budget m (does move ∷ moves) after session c none =
      let go = driven-move level w events budget m move session.0 c none.0 session.1 in
      driven-session w (events ++ go.0) budget session.0 moves after session.2 go.1 none.1
  driven-session w events budget m (puts s u ∷ moves) after session c none =
      driven-session w events budget session.0 moves after session.2
      (driven-put w events m s u session.0 c session.1) none

  module _ (w : WorkloadView) (moves : List (SessionMove U)) (after : Machine U C) (ok : IsWorkload w)
      (session : IsSession level.calls alike (opening level.calls w) moves after) where
    -- What a session from the opening has reached.
    pub session-reached : (events : List Event) × IsReached level w events after × (procs_of events ≡ processors_of (moves_of moves))
    session-reached = reached-session w [] (opening level.calls w) moves after (reached-opening level w ok) session

    -- ITS TRACE IS LEGAL.
    pub session-is-legal : IsLegal level.rules w after.items
    session-is-legal = legal-of level w session-reached.0 after session-reached.1

    -- IT ENDS AS THE MACHINE SAYS, both ways.
    pub session-ends : (budget : ℕ) → EndOf level.rules w budget after.items (end_of level.calls budget after)
    session-ends budget = end-of level w session-reached.0 after budget session-reached.1

    -- IT IS STRICT, where its moves are turns alone.
    pub session-is-strict : AreTurns (moves_of moves) → IsStrictRun level.rules w after.items
    session-is-strict turns =
        let done = strict-session w [] (opening level.calls w) moves after (strictly-opening level w ok) turns session in
        strict-of level w done.0 after done.1

    -- ITS EVENTS are those of its moves, in order, and are numbered so.
    pub session-follows : procs_of (events_of after.items) ≡ proc_no 0 ∷ processors_of (moves_of moves)
    session-follows =
        processors-are level w session-reached.0 after session-reached.1 ∙ ap (λ (ps : List ProcNo). proc_no 0 ∷ ps) session-reached.2

    pub session-numbers : (k : ℕ) (e : Event) → slice_get (events_of after.items) k ≡ Some e → e.number ≡ k
    session-numbers = number-of level w session-reached.0 after session-reached.1

    pub session-counts : length (events_of after.items) ≡ after.event + 1
    session-counts = count-of level w session-reached.0 after session-reached.1

    module _ (budget : ℕ) (none : NotEnded level.calls alike budget (opening level.calls w) moves after session) where
      session-driven : (events : List Event) × IsDriven level w events after
      session-driven = driven-session w [] budget (opening level.calls w) moves after session (driven-opening level w ok) none

      -- IT GOES ON after each event but the last.
      pub session-goes-on : (n : ℕ) → n + 1 < length (events_of after.items) → GoesOn (before level.rules w (events_of after.items) (n + 1))
      session-goes-on = go-on-of level w session-driven.0 after session-driven.1

      -- ITS TRACE IS RIGHT, with the last line that tells its end.
      pub session-is-right : (end : End) → end_of level.calls budget after ≡ Some end
          → IsRight level.rules w after.items (record { end = end; events = after.event })
      session-is-right end ended = right-of level w session-driven.0 budget after end session-driven.1 ended
