-- After each event of a legal run a closing would add no want and no aim.
use Rattle.std.proofs.Common.{◌≡◌, ℕ, zero, suc, ◌+◌, refl, sym, ◌∙◌, ap, subst, arith, Some, List, [], ◌∷◌, ◌++◌, take, map}
use Rattle.std.specs.Prelude.{slice_get}
use Rattle.std.proofs.lemmas.Option.{none-some, same_Some}
use Rattle.sa_base.specs.declared.record.Item.{Item}
use Rattle.sa_spaces.specs.Workload.{WorkloadView}
use Rattle.sa_lemmas.proofs.Searches.{none-left}
use Rattle.sa_share.specs.Rounds.{shares_of}
use Rattle.sa_assign.proofs.AimLemmas.{none-missing}
use Rattle.sa_assign.specs.Aims.{changes}
use Rattle.sa_laws.specs.Event.{Event, events_of}
use Rattle.sa_laws.specs.Readings.{Readings}
use Rattle.sa_laws.specs.History.{Test, after_event, after_events}
use Rattle.sa_laws.specs.Closing.{spaces_of, want_one, must_want, claims_of, shares_at}
use Rattle.sa_laws.specs.Rules.{UserRules, IsLawful}
use Rattle.sa_laws.specs.Legal.{IsLegal, before}
use Rattle.sa_promises.specs.Closings.{NothingIsDue, ClosingsAddNothing}

pub nothing-due : (rules : UserRules) → (w : WorkloadView) (r : Readings) (e : Event) → IsLawful rules w r e
    → NothingIsDue w e.number (after_event rules.inside w r e)
nothing-due rules w r e law =
    let after = after_event rules.inside w r e in
    record {
      wants = ap (map want_one) (none-left (must_want after) (spaces_of w) law.want_cause.none);
      aims = λ next same.
          ap (λ first. changes (Rattle.std.specs.Prelude.length w.spaces) (shares_of w.processors first (claims_of w after)) after.marks after.aims) same
          ∙ none-missing 0 (Rattle.std.specs.Prelude.length w.spaces) (shares_at w e.number after) after.marks after.aims law.shares_covered.covered;
    }

-- what is read before the next event
pub take-next : (events : List Event) (n : ℕ) (e : Event) → slice_get events n ≡ Some e → take (n + 1) events ≡ take n events ++ e ∷ []
take-next [] n e at = absurd (none-some e at)
take-next (x ∷ xs) zero e at = ap (λ y. y ∷ []) (same_Some x e at)
take-next (x ∷ xs) (suc n) e at =
    ap (λ (k : ℕ). take k (x ∷ xs)) (let k : suc n + 1 ≡ suc (n + 1) = omega arith in k) ∙ ap (λ ys. x ∷ ys) (take-next xs n e at)

pub after-append : (test : Test) → (w : WorkloadView) (r : Readings) (es : List Event) (e : Event)
    → after_events test w r (es ++ e ∷ []) ≡ after_event test w (after_events test w r es) e
after-append test w r [] e = refl
after-append test w r (x ∷ es) e = after-append test w (after_event test w r x) es e

pub closings-add-nothing : (rules : UserRules) → (w : WorkloadView) (items : List Item) → IsLegal rules w items → ClosingsAddNothing rules w items
closings-add-nothing rules w items legal n e at =
    let events = events_of items in
    let start = Rattle.sa_laws.specs.Readings.opening_readings w in
    let next : before rules w events (n + 1) ≡ after_event rules.inside w (before rules w events n) e =
    ap (after_events rules.inside w start) (take-next events n e at) ∙ after-append rules.inside w start (take n events) e in
    subst (NothingIsDue w e.number) (sym next) (nothing-due rules w (before rules w events n) e (legal.each n e at))
