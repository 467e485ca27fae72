-- What was found before an event, at its records and after it tells which rules hold.
use Rattle.std.proofs.Common.{◌≡◌, ◌≢◌, ◌↔◌, ℕ, zero, suc, ◌≤◌, refl, ap, subst, arith, List, [], ◌∷◌, Bool, true, false, Option}
use Rattle.std.specs.Prelude.{IsTrue, not, ◌==◌, ◌&&◌, ◌||◌}
use Rattle.std.proofs.lemmas.Bool.Decides.{nat_tests}
use Rattle.sa_laws.specs.declared.rule.Rule.{Rule}
use Rattle.sa_laws.specs.declared.rule.Rule.TheVariants.{Numbered, Stepwise, ToldOnce, ToldInTime, WhereOwned, AllTold, UpcallGiven, InterruptNext, LineCause, WantCause, SharesCovered, DemandAnnounced, TurnsTaken, LocksKept, OrderKept, EndTold}
use Rattle.sa_laws.specs.Event.{Event}
use Rattle.sa_laws.specs.History.{event_begun}
use Rattle.sa_laws.specs.Opening.{IsNumbered}
use Rattle.sa_laws.specs.Step.{AreSteps}
use Rattle.sa_laws.specs.Ends.{LastLine}
use Rattle.sa_laws.specs.Rules.{Law, Holds}
use Rattle.sa_base.specs.declared.number.ActNo.{ActNo}
use Rattle.sa_base.specs.declared.package.RulesName.{RulesName}
use Rattle.sa_ranks.specs.Packages.{rules_named}
use Rattle.sa_check_moment.specs.Seen.{Seen, at_event}
use Rattle.sa_check.specs.declared.begin.Beginning.{Beginning}
use Rattle.sa_check.specs.declared.end.Ending.{Ending}
use Rattle.sa_check.specs.declared.places.DueFound.{DueFound}
use Rattle.sa_check.specs.declared.records.RecordsFound.{RecordsFound}
use Rattle.sa_check.specs.Findings.{found_of}
use Rattle.sa_check.specs.Judged.{findings_of, after}
use Rattle.sa_check.specs.Records.{IsFoundOf, IsDueFound}
use Rattle.sa_check.specs.Sides.{IsBeginning, IsEnding}

and-left : (a b : Bool) → IsTrue (a && b) → IsTrue a
and-left true b is = refl
and-left false b is = is

and-right : (a b : Bool) → IsTrue (a && b) → IsTrue b
and-right true b is = is
and-right false b is = absurd (cc)

and-both : (a b : Bool) → IsTrue a → IsTrue b → IsTrue (a && b)
and-both true b x y = y
and-both false b x y = x

-- a test that is left out at event 0
behind-0 : (n : ℕ) (b : Bool) → IsTrue (n == 0 || b) → 1 ≤ n → IsTrue b
behind-0 n true is later = refl
behind-0 n false is later = absurd (grind (arith, nat_tests))

or-0 : (n : ℕ) (b : Bool) → (1 ≤ n → IsTrue b) → IsTrue (n == 0 || b)
or-0 n true holds = grind (arith, nat_tests)
or-0 zero false holds = refl
or-0 (suc n) false holds = absurd (no (holds (omega arith))) where
  no : IsTrue false → ⊥
  no is = cc

-- the moment as an event begins
abbrev pub beginning_of : Seen → Event → Seen
beginning_of m e = record m { readings = event_begun m.workload e m.readings }

module _ (m : Seen) (e : Event) (last : Option LastLine) (b : Beginning) (laws : RecordsFound) (running : Option ActNo) (due : DueFound) (ending : Ending)
    (numbered : IsNumbered m.workload m.readings e) (steps : AreSteps m.workload e.number e.proc (event_begun m.workload e m.readings) e.records)
    (begins : IsBeginning m e b) (read : IsFoundOf (beginning_of m e) e laws) (places : IsDueFound (beginning_of m e) e running due)
    (ends : IsEnding (after m e) e.number last ending) where
  pub each : (rule : Rule) → IsTrue (found_of (findings_of e.number b laws due ending) rule) ↔ Holds (rules_named m.rules) m.workload rule m.readings e last
  each Numbered = (λ _. numbered, λ _. refl)
  each Stepwise = (λ _. record { steps = steps }, λ _. refl)
  each ToldOnce = (λ yes. record { told = read.told_once.0 yes }, λ holds. read.told_once.1 holds.told)
  each ToldInTime = (λ yes. record { prompt = ends.told_in_time.0 yes }, λ holds. ends.told_in_time.1 holds.prompt)
  each WhereOwned = (
    λ yes. record { named = read.named.0 (and-left laws.named ending.owned yes); owned = ends.owned.0 (and-right laws.named ending.owned yes) },
    λ holds. and-both laws.named ending.owned (read.named.1 holds.named) (ends.owned.1 holds.owned),
  )
  each AllTold = (λ yes. record { told = read.all_told.0 yes }, λ holds. read.all_told.1 holds.told)
  each UpcallGiven = (λ yes. record { blocks = read.upcall_given.0 yes }, λ holds. read.upcall_given.1 holds.blocks)
  each InterruptNext = begins.interrupt_next
  each LineCause = (
    λ yes.
        let front = and-left (laws.heard && b.lines) due.lines yes in
        let place = begins.lines.0 (and-right laws.heard b.lines front) in
        record {
          heard = read.heard.0 (and-left laws.heard b.lines front);
          first = place.first;
          order = place.order;
          due = (places.lines.0 (and-right (laws.heard && b.lines) due.lines yes)).due;
        },
    λ holds. and-both (laws.heard && b.lines) due.lines
        (and-both laws.heard b.lines (read.heard.1 holds.heard) (begins.lines.1 (record { first = holds.first; order = holds.order })))
        (places.lines.1 (record { due = holds.due })),
  )
  each WantCause = (
    λ yes. record {
      due = λ later. (places.wants.0 (behind-0 e.number due.wants (and-left (e.number == 0 || due.wants) ending.wants yes) later)).due;
      none = ends.wants.0 (and-right (e.number == 0 || due.wants) ending.wants yes);
    },
    λ holds. and-both (e.number == 0 || due.wants) ending.wants
        (or-0 e.number due.wants (λ later. places.wants.1 (record { due = holds.due later }))) (ends.wants.1 holds.none),
  )
  each SharesCovered = (
    λ yes. record { covered = ends.shares.0 (and-left ending.shares due.aims yes); due = (places.aims.0 (and-right ending.shares due.aims yes)).due },
    λ holds. and-both ending.shares due.aims (ends.shares.1 holds.covered) (places.aims.1 (record { due = holds.due })),
  )
  each DemandAnnounced = begins.demand_announced
  each TurnsTaken = begins.turns_taken
  each LocksKept = begins.locks_kept
  each OrderKept = begins.order_kept
  each EndTold = ends.end_told

-- a list in which nothing was found is empty
pub nothing-found : {A : Type 0} (xs : List A) (found : Bool) → (IsTrue found ↔ (xs ≢ [])) → IsTrue (not found) → xs ≡ []
nothing-found [] found is none = refl
nothing-found (x ∷ xs) found is none =
    let yes : found ≡ true = is.1 (λ no. cc) in
    let no : not found ≡ not true = ap not yes in cc

pub something-found : {A : Type 0} (xs : List A) (found : Bool) → (IsTrue found ↔ (xs ≢ [])) → xs ≡ [] → IsTrue (not found)
something-found xs true is none = absurd (is.0 refl none)
something-found xs false is none = refl

-- what is decided as an event begins, of the moment before it
pub at-beginning : (L : RulesName → Law) (m next : Seen) (e : Event) (found : Bool) → next ≡ at_event e.number e.proc m
    → (next.readings ≡ event_begun next.workload e m.readings → (IsTrue found ↔ L next.rules next.workload m.readings e))
    → IsTrue found ↔ L m.rules m.workload m.readings e
at-beginning L m next e found begins decided =
    subst (λ (s : Seen). (s.readings ≡ event_begun s.workload e m.readings → (IsTrue found ↔ L s.rules s.workload m.readings e))) begins decided refl
