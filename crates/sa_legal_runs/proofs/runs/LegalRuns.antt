-- Each run from the opening, by any list of turns and commits, is a legal run by its user level's rules.
use Rattle.sa_base.specs.declared.number.ProcNo.{ProcNo}
use Rattle.sa_histories.specs.Lawful.{AreLawful}
use Rattle.std.proofs.lemmas.List.{map-append}
use Rattle.std.proofs.Common.{replicate, refl, ◌≡◌, ℕ, zero, suc, ◌+◌, ◌-◌, arith, ap, ◌∙◌, Option, Some, length, slice_get, take, sym, subst, List, [], ◌∷◌, ◌++◌, append_assoc}
use Rattle.std.proofs.lemmas.Option.{same_Some, none-some}
use Rattle.std.proofs.lemmas.List.{append-nil}
use Rattle.sa_base.specs.Items.{items_at}
use Rattle.sa_base.specs.declared.record.Item.{Item}
use Rattle.sa_spaces.specs.Workload.{WorkloadView, IsWorkload}
use Rattle.sa_acts.specs.declared.acts.Act.{Act}
use Rattle.sa_assign.specs.Reaim.{proc_no}
use Rattle.sa_laws.specs.Readings.{Readings, opening_readings}
use Rattle.sa_laws.specs.History.{after_event, after_events, readings}
use Rattle.sa_laws.specs.Turns.{IsStrict}
use Rattle.sa_laws.specs.Event.{events_of, Event}
use Rattle.sa_laws.specs.Ends.{EndsWith}
use Rattle.sa_laws.specs.Legal.{IsStrictRun, EndOf, before, IsLegal}
use Rattle.sa_laws.specs.Opening.{opening_event}
use Rattle.sa_laws.specs.Rules.{UserRules}
use Rattle.sa_histories.proofs.Appended.{events-items, lawful-numbered, legal-items}
use Rattle.sa_histories.proofs.Numbers.{number-next}
use Rattle.sa_histories.proofs.Legality.{legal-along}
use Rattle.sa_kernel_model.specs.Sound.{AreSpaces}
use Rattle.sa_kernel_model.specs.State.{Scene}
use Rattle.sa_kernel_model.specs.Opening.{opening_state, first_wants}
use Rattle.sa_kernel_laws.proofs.entries.Walks.{not-empty}
use Rattle.sa_core_model.specs.End.{end_of}
use Rattle.sa_core_model.proofs.Effects.{same-closed}
use Rattle.sa_core_model.specs.Machine.{Machine}
use Rattle.sa_core_model.specs.Turn.{turned}
use Rattle.sa_core_model.specs.Run.{opening, Move, IsMove, IsRun}
use Rattle.sa_core_model.specs.Run.Move.{turn, commit}
use Rattle.sa_user_laws.specs.Level.{UserLevel}
use Rattle.sa_legal_runs.proofs.matching.Composed.{read, IsComposed, composed-goes}
use Rattle.sa_legal_runs.proofs.user.GoingOn.{GoOn}
use Rattle.sa_legal_runs.specs.Moves.{AreTurns, processors_of, procs_of}
use Rattle.sa_legal_runs.proofs.runs.Homes.{AreHomed, home-move}
use Rattle.sa_legal_runs.proofs.runs.Ending.{ends-with}
use Rattle.sa_legal_runs.proofs.user.Commits.{composed-commit}
use Rattle.sa_legal_runs.proofs.user.Turns.{composed-turn}
use Rattle.sa_legal_runs.proofs.runs.Opening.{composed-opening}

-- Each event is strict.
abbrev AreStrict : UserRules → WorkloadView → Readings → List Event → Type 0
AreStrict u w r [] = Unit {0}
AreStrict u w r (e ∷ es) = IsStrict r e × AreStrict u w (after_event u.inside w r e) es

strict-push : (u : UserRules) (w : WorkloadView) (r : Readings) (es : List Event) (e : Event) → AreStrict u w r es
    → IsStrict (after_events u.inside w r es) e → AreStrict u w r (es ++ e ∷ [])
strict-push u w r [] e all last = (last, tt)
strict-push u w r (x ∷ es) e all last = (all.0, strict-push u w (after_event u.inside w r x) es e all.1 last)

strict-at : (u : UserRules) (w : WorkloadView) (r : Readings) (es : List Event) → AreStrict u w r es → (n : ℕ) (e : Event)
    → slice_get es n ≡ Some e → IsStrict (after_events u.inside w r (take n es)) e
strict-at u w r [] all n e is = absurd (none-some e is)
strict-at u w r (x ∷ es) all zero e is = subst (λ (y : Event). IsStrict r y) (same_Some x e is) all.0
strict-at u w r (x ∷ es) all (suc n) e is = strict-at u w (after_event u.inside w r x) es all.1 n e is

-- The readings count the events.
pub numbers-count : (u : UserRules) (w : WorkloadView) (r : Readings) (es : List Event)
    → (after_events u.inside w r es).number ≡ r.number + length es
numbers-count u w r [] = omega arith
numbers-count u w r (e ∷ es) = let rest = numbers-count u w (after_event u.inside w r e) es in let one =
    number-next u w r e in omega (arith, rest, one)

-- Each event has the number of its place.
numbered-at : (u : UserRules) (w : WorkloadView) (r : Readings) (es : List Event) → AreLawful u w r es → (k : ℕ) (e : Event)
    → slice_get es k ≡ Some e → e.number ≡ r.number + k
numbered-at u w r [] law k e is = absurd (none-some e is)
numbered-at u w r (x ∷ es) law zero e is =
    let same : e.number ≡ x.number = ap (λ (y : Event). y.number) (sym (same_Some x e is)) in
    let here : x.number ≡ r.number = law.0.numbered.number in
    omega (arith, same, here)
numbered-at u w r (x ∷ es) law (suc k) e is = let rest = numbered-at u w (after_event u.inside w r x) es law.1 k e is in let one =
    number-next u w r x in omega (arith, rest, one)

module _ {U C : Type 0} (level : UserLevel U C) where
  -- Each move leads on.
  composed-move : (w : WorkloadView) (events : List Event) (m : Machine U C) (move : Move) (after : Machine U C)
      → IsComposed level w events m → IsMove level.calls m move after
      → (more : List Event) × IsComposed level w (events ++ more) after × GoOn level.rules.inside w (read level w events) more
      × (procs_of more ≡ processors_of (move ∷ []))
  composed-move w events m (turn p) after c made =
      let go = composed-turn level w events m p made.1.fresh c made.0 made.1.unused in (
        go.0 ∷ [],
        subst (λ (z : Machine U C). IsComposed level w (events ++ go.0 ∷ []) z) (sym made.1.is)
            (composed-goes level w events m p (turned level.calls p made.1.fresh m) go.0 c go.1),
        tt,
        ap (λ (q : ProcNo). q ∷ []) go.1.proc,
      )
  composed-move w events m (commit p n) after c made =
      let go = composed-commit level w events m p n c made.0 in (
        go.0,
        subst (λ (z : Machine U C). IsComposed level w (events ++ go.0) z) (sym made.1) go.1,
        go.2,
        go.3
            ∙ sym (append-nil (replicate n p)),
      )

  -- What a run has reached.
  pub record IsReached (w : WorkloadView) (events : List Event) (m : Machine U C) : Type 0 where
    pub composed : IsComposed level w events m
    pub home : AreHomed (length w.spaces) m.kernel.acts

  pub reached-move : (w : WorkloadView) (events : List Event) (m : Machine U C) (move : Move) (after : Machine U C)
      → IsReached w events m → IsMove level.calls m move after
      → (more : List Event) × IsReached w (events ++ more) after × GoOn level.rules.inside w (read level w events) more
      × (procs_of more ≡ processors_of (move ∷ []))
  reached-move w events m move after c made =
      let go = composed-move w events m move after c.composed made in
      let formed = c.composed.between.standing.sound.formed in
      let spaces : length m.kernel.demands ≡ length w.spaces = c.composed.history.kept.of.spaces in (
        go.0,
        record {
          composed = go.1;
          home = home-move level.calls (length w.spaces) m move after
              (subst (λ (i : ℕ). AreSpaces i m.kernel.assign.owners) spaces formed.owners)
              (subst (λ (i : ℕ). AreSpaces i m.kernel.assign.aims) spaces formed.aims) made c.home;
        },
        go.2,
        go.3,
      )

  pub reached-run : (w : WorkloadView) (events : List Event) (m : Machine U C) (moves : List Move) (after : Machine U C)
      → IsReached w events m → IsRun level.calls m moves after
      → (more : List Event) × IsReached w (events ++ more) after × (procs_of more ≡ processors_of moves)
  reached-run w events m [] after c run = (
    [],
    subst (λ (es : List Event). IsReached w es after) (sym (append-nil events))
        (subst (λ (z : Machine U C). IsReached w events z) (sym run) c),
    refl,
  )
  reached-run w events m (move ∷ moves) after c run =
      let first = reached-move w events m move run.0 c run.1 in
      let rest = reached-run w (events ++ first.0) run.0 moves after first.1 run.2 in
      let split : procs_of (first.0 ++ rest.0) ≡ procs_of first.0 ++ procs_of rest.0 = map-append (λ (e : Event). e.proc) first.0 rest.0 in
      let one : procs_of first.0 ++ procs_of rest.0 ≡ processors_of (move ∷ []) ++ procs_of rest.0 =
      ap (λ (ps : List ProcNo). ps ++ procs_of rest.0) first.3 in
      let two : processors_of (move ∷ []) ++ procs_of rest.0 ≡ processors_of (move ∷ []) ++ processors_of moves =
      ap (λ (ps : List ProcNo). processors_of (move ∷ []) ++ ps) rest.2 in
      let procs : procs_of (first.0 ++ rest.0) ≡ processors_of (move ∷ moves) = split ∙ one ∙ two ∙ both move moves in (
        first.0 ++ rest.0,
        subst (λ (es : List Event). IsReached w es after) (append_assoc events first.0 rest.0) rest.1,
        procs,
      )
    where
      both : (move : Move) (moves : List Move) → processors_of (move ∷ []) ++ processors_of moves ≡ processors_of (move ∷ moves)
      both (turn p) moves = refl
      both (commit p n) moves = append_assoc (replicate n p) [] (processors_of moves)

  pub reached-opening : (w : WorkloadView) → IsWorkload w → IsReached w [] (opening level.calls w)
  reached-opening w ok = record {
    composed = composed-opening level w ok;
    home = subst (λ (fs : ℕ → Option (Act C)). AreHomed (length w.spaces) fs)
        (sym (same-closed 0 (proc_no 0)
        (let x : Scene C = record { state = opening_state w; items = items_at 0 (proc_no 0) (first_wants 0 (length w.spaces)) } in x)).acts)
        (λ a act is. absurd (none-some act is));
  }

  -- The items of what was reached are those of its events.
  pub events-are : (w : WorkloadView) (events : List Event) (m : Machine U C) → IsComposed level w events m
      → events_of m.items ≡ opening_event w ∷ events
  events-are w events m c =
      ap events_of c.history.items
      ∙ events-items 0 (opening_event w ∷ events)
      (lawful-numbered level.rules w (opening_readings w) (opening_event w ∷ events) c.lawful)

  -- WHAT WAS REACHED has a legal trace.
  pub legal-of : (w : WorkloadView) (events : List Event) (m : Machine U C) → IsReached w events m → IsLegal level.rules w m.items
  legal-of w events m c =
      let all = opening_event w ∷ events in
      subst (λ (items : List Item). IsLegal level.rules w items) (sym c.composed.history.items)
      (legal-items level.rules w all (legal-along level.rules w all (not-empty (opening_event w) events) c.composed.lawful))

  pub count-of : (w : WorkloadView) (events : List Event) (m : Machine U C) → IsReached w events m → length (events_of m.items) ≡ m.event + 1
  count-of w events m c =
      let count = numbers-count level.rules w (opening_readings w) (opening_event w ∷ events) in
      let number = c.composed.number in
      let size : length (opening_event w ∷ events) ≡ m.event + 1 = omega (arith, count, number) in
      ap (λ (es : List Event). length es) (events-are w events m c.composed) ∙ size

  pub end-of : (w : WorkloadView) (events : List Event) (m : Machine U C) (budget : ℕ) → IsReached w events m
      → EndOf level.rules w budget m.items (end_of level.calls budget m)
  end-of w events m budget c =
      let count = count-of w events m c in
      let size : length (events_of m.items) - 1 ≡ m.event = omega (arith, count) in
      subst (λ (i : ℕ). EndsWith budget (readings level.rules.inside w (events_of m.items)) i (end_of level.calls budget m)) (sym size)
      (subst (λ (es : List Event). EndsWith budget (readings level.rules.inside w es) m.event (end_of level.calls budget m))
      (sym (events-are w events m c.composed)) (ends-with level w events m budget c.composed c.home))

  pub number-of : (w : WorkloadView) (events : List Event) (m : Machine U C) → IsReached w events m
      → (k : ℕ) (e : Event) → slice_get (events_of m.items) k ≡ Some e → e.number ≡ k
  number-of w events m c k e is =
      let at : slice_get (opening_event w ∷ events) k ≡ Some e =
      ap (λ (es : List Event). slice_get es k) (sym (events-are w events m c.composed)) ∙ is in
      let there : e.number ≡ 0 + k =
      numbered-at level.rules w (opening_readings w) (opening_event w ∷ events) c.composed.lawful k e at in
      omega (arith, there)

  pub processors-are : (w : WorkloadView) (events : List Event) (m : Machine U C) → IsReached w events m
      → procs_of (events_of m.items) ≡ proc_no 0 ∷ procs_of events
  processors-are w events m c = ap procs_of (events-are w events m c.composed)

  -- EACH RUN IS LEGAL.
  pub runs-are-legal : (w : WorkloadView) (moves : List Move) (after : Machine U C) → IsWorkload w
      → IsRun level.calls (opening level.calls w) moves after → IsLegal level.rules w after.items
  runs-are-legal w moves after ok run =
      let done = reached-run w [] (opening level.calls w) moves after (reached-opening w ok) run in
      legal-of w done.0 after done.1

  -- IT ENDS AS THE MACHINE SAYS, both ways.
  pub runs-end : (w : WorkloadView) (moves : List Move) (after : Machine U C) (budget : ℕ) → IsWorkload w
      → IsRun level.calls (opening level.calls w) moves after → EndOf level.rules w budget after.items (end_of level.calls budget after)
  runs-end w moves after budget ok run =
      let done = reached-run w [] (opening level.calls w) moves after (reached-opening w ok) run in
      end-of w done.0 after budget done.1

  -- WHAT TURNS ALONE HAVE REACHED is strict.
  pub record IsStrictly (w : WorkloadView) (events : List Event) (m : Machine U C) : Type 0 where
    pub composed : IsComposed level w events m
    pub strict : AreStrict level.rules w (opening_readings w) (opening_event w ∷ events)

  pub strictly-opening : (w : WorkloadView) → IsWorkload w → IsStrictly w [] (opening level.calls w)
  strictly-opening w ok =
      record { composed = composed-opening level w ok; strict = (record { strict = λ io later due low. absurd (omega (arith, later)) }, tt) }

  pub strictly-turn : (w : WorkloadView) (events : List Event) (m : Machine U C) (p : ProcNo) (after : Machine U C) → IsStrictly w events m
      → IsMove level.calls m (turn p) after → (ev : Event) × IsStrictly w (events ++ ev ∷ []) after
  strictly-turn w events m p after c made =
      let go = composed-turn level w events m p made.1.fresh c.composed made.0 made.1.unused in (
        go.0,
        record {
          composed = subst (λ (z : Machine U C). IsComposed level w (events ++ go.0 ∷ []) z) (sym made.1.is)
              (composed-goes level w events m p (turned level.calls p made.1.fresh m) go.0 c.composed go.1);
          strict = strict-push level.rules w (opening_readings w) (opening_event w ∷ events) go.0 c.strict go.1.strict;
        },
      )

  pub strict-of : (w : WorkloadView) (events : List Event) (m : Machine U C) → IsStrictly w events m → IsStrictRun level.rules w m.items
  strict-of w events m c = record {
    each = subst (λ (es : List Event). (n : ℕ) (e : Event) → slice_get es n ≡ Some e → IsStrict (before level.rules w es n) e)
        (sym (events-are w events m c.composed)) (strict-at level.rules w (opening_readings w) (opening_event w ∷ events) c.strict);
  }

  -- A RUN OF TURNS ALONE IS STRICT.
  strict-run : (w : WorkloadView) (events : List Event) (m : Machine U C) (moves : List Move) (after : Machine U C)
      → IsStrictly w events m → AreTurns moves → IsRun level.calls m moves after → (all : List Event) × IsStrictly w all after
  strict-run w events m [] after c turns run = (events, subst (λ (z : Machine U C). IsStrictly w events z) (sym run) c)
  strict-run w events m (turn p ∷ moves) after c turns run =
      let go = strictly-turn w events m p run.0 c run.1 in
      strict-run w (events ++ go.0 ∷ []) run.0 moves after go.1 turns run.2
  strict-run w events m (commit p n ∷ moves) after c turns run = absurd turns

  pub turns-are-strict : (w : WorkloadView) (moves : List Move) (after : Machine U C) → IsWorkload w → AreTurns moves
      → IsRun level.calls (opening level.calls w) moves after → IsStrictRun level.rules w after.items
  turns-are-strict w moves after ok turns run =
      let done = strict-run w [] (opening level.calls w) moves after (strictly-opening w ok) turns run in
      strict-of w done.0 after done.1

  -- EVENT k IS OF THE PROCESSOR OF THE k-TH MOVE, where a commit of n instructions counts as n moves; it has that number;
  -- and the number of events is the last one's.
  pub runs-follow : (w : WorkloadView) (moves : List Move) (after : Machine U C) → IsWorkload w
      → IsRun level.calls (opening level.calls w) moves after
      → procs_of (events_of after.items) ≡ proc_no 0 ∷ processors_of moves
  runs-follow w moves after ok run =
      let done = reached-run w [] (opening level.calls w) moves after (reached-opening w ok) run in
      processors-are w done.0 after done.1 ∙ ap (λ (ps : List ProcNo). proc_no 0 ∷ ps) done.2

  pub runs-number : (w : WorkloadView) (moves : List Move) (after : Machine U C) → IsWorkload w
      → IsRun level.calls (opening level.calls w) moves after
      → (k : ℕ) (e : Event) → slice_get (events_of after.items) k ≡ Some e → e.number ≡ k
  runs-number w moves after ok run =
      let done = reached-run w [] (opening level.calls w) moves after (reached-opening w ok) run in
      number-of w done.0 after done.1

  pub runs-count : (w : WorkloadView) (moves : List Move) (after : Machine U C) → IsWorkload w
      → IsRun level.calls (opening level.calls w) moves after
      → length (events_of after.items) ≡ after.event + 1
  runs-count w moves after ok run =
      let done = reached-run w [] (opening level.calls w) moves after (reached-opening w ok) run in
      count-of w done.0 after done.1
