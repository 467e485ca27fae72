-- Runs by a user level's rules: all rules hold at each event and the run goes on after it; and the event that breaks a rule first.
use Rattle.std.proofs.Common.{◌≡◌, ℕ, zero, suc, List, [], ◌∷◌, ◌++◌, length, take, None, false}
use Rattle.std.specs.List.{list_all}
use Rattle.sa_base.specs.declared.record.Record.{Record}
use Rattle.sa_spaces.specs.Workload.{WorkloadView}
use Rattle.sa_laws.specs.declared.rule.Rule.{Rule}
use Rattle.sa_laws.specs.Event.{Event}
use Rattle.sa_laws.specs.Readings.{Readings, opening_readings}
use Rattle.sa_laws.specs.History.{after_event, after_events}
use Rattle.sa_laws.specs.Ends.{GoesOn, are_done, are_at_rest}
use Rattle.sa_laws.specs.Rules.{UserRules, IsLawful, Breaks}
use Rattle.sa_laws.specs.Legal.{BreaksAt, line_at}
use Rattle.sa_histories.specs.Lawful.{AreLawful, AreRight}
use Rattle.sa_histories.specs.Short.{at}
use Rattle.sa_histories.proofs.Legality.{with-end, break-behind}
use Rattle.sa_promises.specs.Examples.{stops_at}

pub record IsRightAt (u : UserRules) (w : WorkloadView) (r : Readings) (e : Event) : Type 0 where
  pub lawful : IsLawful u w r e
  pub goes_on : GoesOn (after_event u.inside w r e)

pub data RightAlong (u : UserRules) (w : WorkloadView) : Readings → List Event → Type 0 where
  over : {r : Readings} → RightAlong u w r []
  ◌►◌ : {r : Readings} {e : Event} {es : List Event} → IsRightAt u w r e → RightAlong u w (after_event u.inside w r e) es → RightAlong u w r (e ∷ es)

infixr 20 ◌►◌
-- one rule after another
pub ◌&◌ : {A B : Type 0} → A → B → A × B
a & b = (a, b)

infixr 20 ◌&◌
-- while some thread is ready or runs, the run goes on
pub goes-on : (r : Readings) → list_all are_done r.state.spaces ≡ false → list_all are_at_rest r.state.spaces ≡ false → GoesOn r
goes-on r done rest = record { done = λ no. cc; stuck = λ no. let h = no.rest in cc }

pub lawfully : {u : UserRules} {w : WorkloadView} {r : Readings} {e : Event} → IsLawful u w r e
    → list_all are_done (after_event u.inside w r e).state.spaces ≡ false → list_all are_at_rest (after_event u.inside w r e).state.spaces ≡ false
    → IsRightAt u w r e
lawfully {u} {w} {r} {e} law done rest = record { lawful = law; goes_on = goes-on (after_event u.inside w r e) done rest }

pub are-right : {u : UserRules} {w : WorkloadView} {r : Readings} {es : List Event} → RightAlong u w r es → AreRight u w r es
are-right over = tt
are-right {u} {w} (◌►◌ {r} {e} x xs) = (with-end u w r e None x.lawful x.goes_on, are-right xs)

-- a run and what follows it
pub and-then : {u : UserRules} {w : WorkloadView} {r : Readings} {es fs : List Event} → RightAlong u w r es
    → RightAlong u w (after_events u.inside w r es) fs → RightAlong u w r (es ++ fs)
and-then over after = after
and-then (x ► xs) after = x ► and-then xs after

-- the first events of a run
pub first-right : {u : UserRules} {w : WorkloadView} (n : ℕ) {r : Readings} {es : List Event} → RightAlong u w r es → RightAlong u w r (take n es)
first-right zero xs = over
first-right (suc n) over = over
first-right (suc n) (x ► xs) = x ► first-right n xs

-- a run and its last event, after which it need not go on
pub lawful-to : {u : UserRules} {w : WorkloadView} {r : Readings} {es : List Event} (e : Event) → RightAlong u w r es
    → IsLawful u w (after_events u.inside w r es) e → AreLawful u w r (es ++ e ∷ [])
lawful-to e over last = (last, tt)
lawful-to e (x ► xs) last = (x.lawful, lawful-to e xs last)

-- A run's first events with another event after them break a rule first where that event does.
pub breaks-then : {u : UserRules} {w : WorkloadView} {run : List Event} (n : ℕ) (records : List Record) {rule : Rule}
    → RightAlong u w (opening_readings w) run
    → Breaks u w (after_events u.inside w (opening_readings w) (take n run)) (at n records)
    (line_at (take n run ++ at n records ∷ []) (stops_at n) (length (take n run))) rule
    → BreaksAt u w (take n run ++ at n records ∷ []) (stops_at n) n rule
breaks-then {u} {w} {run} n records {rule} right breaks =
    break-behind u w (take n run) (at n records) (stops_at n) rule (are-right (first-right n right)) breaks
