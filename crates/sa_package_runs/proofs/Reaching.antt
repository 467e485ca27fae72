-- What a session reaches, over any user level that meets its laws.
use Rattle.std.proofs.Common.{◌≡◌, ℕ, zero, suc, ◌+◌, List, [], ◌∷◌, ◌++◌, sym, ap, ◌∙◌, subst}
use Rattle.sa_base.specs.declared.number.ProcNo.{ProcNo}
use Rattle.sa_base.specs.declared.record.Item.{Item}
use Rattle.sa_base.specs.Items.{items_at}
use Rattle.sa_spaces.specs.Workload.{WorkloadView, IsWorkload}
use Rattle.sa_laws.specs.Event.{Event}
use Rattle.sa_laws.specs.Readings.{opening_readings}
use Rattle.sa_laws.specs.State.{opening_state}
use Rattle.sa_laws.specs.Opening.{opening_event}
use Rattle.sa_laws.proofs.Records.{items-push}
use Rattle.sa_core_model.specs.Machine.{Machine}
use Rattle.sa_core_model.specs.Run.{IsMove}
use Rattle.sa_core_model.specs.Run.Move.{turn}
use Rattle.sa_core_model.specs.Turn.{turned}
use Rattle.sa_user_laws.specs.Level.{UserLevel}
use Rattle.sa_legal_runs.proofs.matching.Composed.{IsComposed, composed-goes}
use Rattle.sa_legal_runs.proofs.user.Turns.{composed-turn}
use Rattle.sa_legal_runs.proofs.runs.Opening.{composed-opening}
use Rattle.sa_debug.specs.Reached.{CanPlay, Reaches, IsPlayable}
use Rattle.sa_package_runs.proofs.Playable.{events-play}

module _ {U C : Type 0} (level : UserLevel U C) where
  -- a turn makes the history longer by an event
  pub turn-goes : (w : WorkloadView) (events : List Event) (m : Machine U C) (p : ProcNo) (after : Machine U C)
      → IsComposed level w events m → IsMove level.calls m (turn p) after
      → (ev : Event) × (ev.proc ≡ p) × (ev.number ≡ m.event + 1) × IsComposed level w (events ++ ev ∷ []) after
  turn-goes w events m p after c made =
      let go = composed-turn level w events m p made.1.fresh c made.0 made.1.unused in (
        go.0,
        go.1.proc,
        go.1.number,
        subst (λ (z : Machine U C). IsComposed level w (events ++ go.0 ∷ []) z) (sym made.1.is)
            (composed-goes level w events m p (turned level.calls p made.1.fresh m) go.0 c go.1),
      )

  pub reached-composed : (w : WorkloadView) (budget n : ℕ) (m : Machine U C) → IsWorkload w
      → Reaches level.calls w budget n m → (events : List Event) × IsComposed level w events m
  reached-composed w budget zero m ok is = ([], subst (λ (z : Machine U C). IsComposed level w [] z) (sym is) (composed-opening level w ok))
  reached-composed w budget (suc n) m ok is =
      let before = reached-composed w budget n is.0 ok is.2 in
      let go = turn-goes w before.0 is.0 is.1 m before.1 is.4 in
      (before.0 ++ go.0 ∷ [], go.3)

  -- THE ITEMS CAN BE PLAYED
  adds-items : (w : WorkloadView) (events : List Event) (ev : Event) (m after : Machine U C)
      → IsComposed level w events m → IsComposed level w (events ++ ev ∷ []) after
      → after.items ≡ m.items ++ items_at ev.number ev.proc ev.records
  adds-items w events ev m after c d =
      d.history.items ∙ items-push (opening_event w ∷ events) ev
      ∙ ap (λ (xs : List Item). xs ++ items_at ev.number ev.proc ev.records) (sym c.history.items)

  pub can-be-debugged : (w : WorkloadView) (budget : ℕ) → IsWorkload w → IsPlayable level.calls w budget
  can-be-debugged w budget ok = record {
    adds = λ n m after p is none made.
        let before = reached-composed w budget n m ok is in
        let go = turn-goes w before.0 m p after before.1 made in
        (items_at go.0.number go.0.proc go.0.records, adds-items w before.0 go.0 m after before.1 go.3);
    plays = λ n m is.
        let here = reached-composed w budget n m ok is in
        subst (λ (items : List Item). CanPlay w (opening_state w) items) (sym here.1.history.items)
        (events-play level.rules w (opening_readings w) (opening_event w ∷ here.0) here.1.lawful);
  }
