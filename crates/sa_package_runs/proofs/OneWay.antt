-- A history goes one way: it has one end, and each of its turns is one event more.
use Rattle.std.proofs.Common.{◌≡◌, ℕ, List, [], ◌∷◌, ◌++◌, Option, Some, None, refl, sym, ap, ◌∙◌, append_assoc}
use Rattle.std.proofs.lemmas.List.{append-nil, append_cancel_left}
use Rattle.sa_base.specs.declared.number.ProcNo.{ProcNo}
use Rattle.sa_base.specs.declared.record.End.{End}
use Rattle.sa_base.specs.declared.record.End.TheVariants.{AllDone, Stuck, Budget}
use Rattle.sa_base.specs.declared.record.Item.{Item}
use Rattle.sa_spaces.specs.Workload.{WorkloadView}
use Rattle.sa_laws.specs.Ends.{EndsWith}
use Rattle.sa_laws.specs.Event.{Event, events_of, items_of}
use Rattle.sa_laws.specs.Readings.{Readings}
use Rattle.sa_laws.specs.Rules.{UserRules}
use Rattle.sa_histories.proofs.Traces.{items-events}
use Rattle.sa_debug.specs.OverHistories.{AddsTurn, over_histories, read}
use Rattle.sa_package_runs.proofs.Only.{GoesOneWay}

-- one history begins with another
abbrev pub Begins : List Item → List Item → Type 0
Begins items x = (more : List Event) × (events_of x ≡ events_of items ++ more)

-- A history has one end.
one-end : (budget n : ℕ) (r : Readings) (one other : Option End) → EndsWith budget r n one → EndsWith budget r n other → one ≡ other
one-end budget n r (Some AllDone) (Some Stuck) a b = absurd (b.some a)
one-end budget n r (Some AllDone) (Some Budget) a b = absurd (b.0.done a)
one-end budget n r (Some AllDone) None a b = absurd (b.0.done a)
one-end budget n r (Some Stuck) (Some AllDone) a b = absurd (a.some b)
one-end budget n r (Some Stuck) (Some Budget) a b = absurd (b.0.stuck a)
one-end budget n r (Some Stuck) None a b = absurd (b.0.stuck a)
one-end budget n r (Some Budget) (Some AllDone) a b = absurd (a.0.done b)
one-end budget n r (Some Budget) (Some Stuck) a b = absurd (a.0.stuck b)
one-end budget n r (Some Budget) None a b = absurd (b.1 a.1)
one-end budget n r None (Some AllDone) a b = absurd (a.0.done b)
one-end budget n r None (Some Stuck) a b = absurd (a.0.stuck b)
one-end budget n r None (Some Budget) a b = absurd (a.1 b.1)
one-end budget n r _ _ a b = refl

module _ (u : UserRules) (w : WorkloadView) (budget : ℕ) where
  -- Two turns after one history, with both of which a longer one begins, leave the same history.
  one-turn : (items : List Item) (p r : ProcNo) (after other x : List Item) → AddsTurn u w items p after → AddsTurn u w items r other
      → Begins after x → Begins other x → after ≡ other
  one-turn items p r after other x one two first second =
      let whole : events_of items ++ (one.event ∷ first.0) ≡ events_of items ++ (two.event ∷ second.0) =
      sym (first.1 ∙ ap (λ (es : List Event). es ++ first.0) one.adds ∙ append_assoc (events_of items) (one.event ∷ []) first.0)
      ∙ (second.1 ∙ ap (λ (es : List Event). es ++ second.0) two.adds ∙ append_assoc (events_of items) (two.event ∷ []) second.0) in
      let rest : one.event ∷ first.0 ≡ two.event ∷ second.0 =
      append_cancel_left (events_of items) (one.event ∷ first.0) (two.event ∷ second.0) whole in
      let event : one.event ≡ two.event = cc rest in
      sym (items-events after)
      ∙ ap items_of (one.adds ∙ ap (λ (e : Event). events_of items ++ e ∷ []) event ∙ sym two.adds)
      ∙ items-events other

  pub histories-go : GoesOneWay (over_histories u w budget) Begins
  histories-go = record {
    ends = λ items one other. one-end budget _ (read u w items) one other;
    here = λ items. ([], sym (append-nil (events_of items)));
    later = λ a b c first second. (
      first.0 ++ second.0,
      second.1 ∙ ap (λ (es : List Event). es ++ second.0) first.1 ∙ append_assoc (events_of a) first.0 second.0,
    );
    turns = λ items p after turn. (turn.event ∷ [], turn.adds);
    one = one-turn;
  }
