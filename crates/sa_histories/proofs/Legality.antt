-- Legality at each place of a history is legality along it.
use Rattle.std.proofs.Common.{◌≡◌, ◌≢◌, ℕ, zero, suc, ◌+◌, ◌<◌, refl, sym, ◌∙◌, ap, subst, arith, Some, None, List, [], ◌∷◌, ◌++◌, length, take, false, length-append}
use Rattle.std.specs.Prelude.{slice_get, Option, ◌==◌, if◌then◌else◌}
use Rattle.std.proofs.lemmas.Bool.Decides.{nat_tests}
use Rattle.std.proofs.lemmas.Option.{same_Some, none-some}
use Rattle.sa_lemmas.proofs.ListUpdates.{slice_get-append_left, slice_get-append_seam}
use Rattle.sa_spaces.specs.Workload.{WorkloadView}
use Rattle.sa_laws.specs.declared.rule.Rule.{Rule}
use Rattle.sa_laws.specs.declared.rule.Rule.TheVariants.{EndTold}
use Rattle.sa_laws.specs.Event.{Event}
use Rattle.sa_laws.specs.Readings.{Readings, opening_readings}
use Rattle.sa_laws.specs.History.{after_event, after_events}
use Rattle.sa_laws.specs.Ends.{LastLine, EndIsTold}
use Rattle.sa_laws.specs.Rules.{UserRules, IsLawful, Holds, HoldEach, Breaks, laws, rules}
use Rattle.sa_laws.specs.Legal.{IsLegalHistory, BreaksAt, line_at}
use Rattle.sa_histories.specs.Lawful.{AreLawful, AreRight}

pub lawful-at : (u : UserRules) (w : WorkloadView) (r : Readings) (events : List Event) → AreLawful u w r events
    → (n : ℕ) (e : Event) → slice_get events n ≡ Some e → IsLawful u w (after_events u.inside w r (take n events)) e
lawful-at u w r [] all n e at = absurd (none-some e at)
lawful-at u w r (x ∷ xs) all zero e at = subst (λ y. IsLawful u w r y) (same_Some x e at) all.0
lawful-at u w r (x ∷ xs) all (suc n) e at = lawful-at u w (after_event u.inside w r x) xs all.1 n e at

pub lawful-along : (u : UserRules) (w : WorkloadView) (r : Readings) (events : List Event)
    → ((n : ℕ) (e : Event) → slice_get events n ≡ Some e → IsLawful u w (after_events u.inside w r (take n events)) e)
    → AreLawful u w r events
lawful-along u w r [] each = tt
lawful-along u w r (x ∷ xs) each = (each 0 x refl, lawful-along u w (after_event u.inside w r x) xs (λ n e at. each (suc n) e at))

pub legal-along : (u : UserRules) (w : WorkloadView) (events : List Event) → events ≢ [] → AreLawful u w (opening_readings w) events
    → IsLegalHistory u w events
legal-along u w events some all = record { some = some; each = lawful-at u w (opening_readings w) events all }

pub right-at : (u : UserRules) (w : WorkloadView) (r : Readings) (events : List Event) → AreRight u w r events
    → (n : ℕ) (e : Event) → slice_get events n ≡ Some e → HoldEach u w rules (after_events u.inside w r (take n events)) e None
right-at u w r [] all n e at = absurd (none-some e at)
right-at u w r (x ∷ xs) all zero e at = subst (λ y. HoldEach u w rules r y None) (same_Some x e at) all.0
right-at u w r (x ∷ xs) all (suc n) e at = right-at u w (after_event u.inside w r x) xs all.1 n e at

-- each of the laws holds at a lawful event, whatever its last line
pub laws-hold : (u : UserRules) (w : WorkloadView) (r : Readings) (e : Event) (last : Option LastLine) → IsLawful u w r e
    → HoldEach u w laws r e last
laws-hold u w r e last l = (
  l.numbered,
  (
    l.stepwise,
    (
      l.told_once,
      (
        l.told_in_time,
        (
          l.where_owned,
          (
            l.all_told,
            (
              l.upcall_given,
              (
                l.interrupt_next,
                (l.line_cause, (l.want_cause, (l.shares_covered, (l.demand_announced, (l.turns_taken, (l.locks_kept, (l.order_kept, tt))))))),
              ),
            ),
          ),
        ),
      ),
    ),
  ),
)

-- a rule that holds beside others
pub hold-more : (u : UserRules) (w : WorkloadView) (r : Readings) (e : Event) (last : Option LastLine) (list : List Rule) (rule : Rule)
    → HoldEach u w list r e last → Holds u w rule r e last → HoldEach u w (list ++ rule ∷ []) r e last
hold-more u w r e last [] rule all one = (one, tt)
hold-more u w r e last (x ∷ xs) rule all one = (all.0, hold-more u w r e last xs rule all.1 one)

-- the laws, and what the last line says of the end, are the rules
pub with-end : (u : UserRules) (w : WorkloadView) (r : Readings) (e : Event) (last : Option LastLine) → IsLawful u w r e
    → EndIsTold (after_event u.inside w r e) e.number last → HoldEach u w rules r e last
with-end u w r e last law told = hold-more u w r e last laws EndTold (laws-hold u w r e last law) told

take-front : (xs : List Event) (n : ℕ) (e : Event) → n < length xs → take n (xs ++ e ∷ []) ≡ take n xs
take-front [] n e below = absurd (omega arith)
take-front (x ∷ xs) zero e below = refl
take-front (x ∷ xs) (suc n) e below = ap (λ ys. x ∷ ys) (take-front xs n e (omega arith))

take-whole : (xs : List Event) (e : Event) → take (length xs) (xs ++ e ∷ []) ≡ xs
take-whole [] e = refl
take-whole (x ∷ xs) e = ap (λ ys. x ∷ ys) (take-whole xs e)

pub not-equal : (a b : ℕ) → a < b → (a == b) ≡ false
not-equal a b below = grind (arith, nat_tests)

no-line : (xs : List Event) (e : Event) (line : LastLine) (n : ℕ) → n < length xs → line_at (xs ++ e ∷ []) line n ≡ None
no-line xs e line n below =
    let len : length (xs ++ e ∷ []) ≡ length xs + 1 = length-append xs (e ∷ []) in
    ap (λ b. if b then Some line else None) (not-equal (n + 1) (length (xs ++ e ∷ [])) (omega arith))

-- where all rules hold along a history, the event after it that breaks a rule is the first break
pub break-behind : (u : UserRules) (w : WorkloadView) (events : List Event) (e : Event) (line : LastLine) (rule : Rule)
    → AreRight u w (opening_readings w) events
    → Breaks u w (after_events u.inside w (opening_readings w) events) e (line_at (events ++ e ∷ []) line (length events)) rule
    → BreaksAt u w (events ++ e ∷ []) line e.number rule
break-behind u w events e line rule all breaks = record {
  place = length events;
  event = e;
  at = slice_get-append_seam events [] e;
  numbered = refl;
  earlier = λ k f below at.
      let there = sym (slice_get-append_left events (e ∷ []) k below) ∙ at in
      let held = right-at u w (opening_readings w) events all k f there in
      subst (λ (past : List Event). HoldEach u w rules (after_events u.inside w (opening_readings w) past) f (line_at (events ++ e ∷ []) line k))
      (sym (take-front events k e below))
      (subst (λ last. HoldEach u w rules (after_events u.inside w (opening_readings w) (take k events)) f last) (sym (no-line events e line k below)) held);
  breaks =
      subst (λ (past : List Event). Breaks u w (after_events u.inside w (opening_readings w) past) e (line_at (events ++ e ∷ []) line (length events)) rule)
      (sym (take-whole events e)) breaks;
}
