-- One event is judged.
use Rattle.std.proofs.Common.{◌≡◌, ◌↔◌, sym, ◌∙◌, ap, subst, Bool, false, Option, Some, None}
use Rattle.std.specs.Prelude.{not, find, IsTrue, MatchOption}
use Rattle.sa_spaces.specs.Workload.{WorkloadView}
use Rattle.sa_laws.specs.declared.rule.Rule.{Rule}
use Rattle.sa_laws.specs.declared.rule.Rule.TheVariants.{Numbered, Stepwise}
use Rattle.sa_laws.specs.Event.{Event}
use Rattle.sa_laws.specs.Readings.{Readings, running_of}
use Rattle.sa_laws.specs.Opening.{IsNumbered}
use Rattle.sa_laws.specs.Step.{AreSteps}
use Rattle.sa_laws.specs.Ends.{LastLine}
use Rattle.sa_laws.specs.Rules.{UserRules, HoldEach, Breaks, rules}
use Rattle.sa_base.specs.declared.number.ActNo.{ActNo}
use Rattle.sa_ranks.specs.Packages.{rules_named}
use Rattle.sa_check_moment.specs.Ending.{IsOver}
use Rattle.sa_check_moment.specs.Seen.{Seen, seen, at_event, at_end}
use Rattle.sa_check.specs.declared.begin.Beginning.{Beginning}
use Rattle.sa_check.specs.declared.end.Ending.{Ending}
use Rattle.sa_check.specs.declared.findings.Findings.{Findings}
use Rattle.sa_check.specs.declared.judge.Between.{Between}
use Rattle.sa_check.specs.declared.records.ReadThrough.{ReadThrough}
use Rattle.sa_check.specs.Findings.{found_of}
use Rattle.sa_check.specs.Judged.{findings_of, judged_by, after, Judges}
use Rattle.sa_check.specs.Quiet.{IsCalmIf, IsQuietAt, IsQuietFrom, IsKnownAfter, WasSettled}
use Rattle.sa_check.specs.Places.{HasShares}
use Rattle.sa_check.specs.Records.{behind_some, IsReadThrough, ReadsRecords}
use Rattle.sa_check.specs.Sides.{IsBeginning, IsEnding}
use Rattle.sa_check.proofs.FindLemmas.{first-is}
use Rattle.sa_check.proofs.QuietLemmas.{quiet-records, quiet-settled, quiet-wants-due, quiet-aims-due}
use Rattle.sa_check.proofs.QuietLines.{quiet-lines-due, still-calm}
use Rattle.sa_check.proofs.FoundLemmas.{beginning_of, each}
use Rattle.sa_check.proofs.UrgedLemmas.{over-is}

pub numbering-breaks : (u : UserRules) (w : WorkloadView) (r : Readings) (e : Event) (last : Option LastLine) (found : Bool) → (IsTrue found ↔ IsNumbered w r e) → found ≡ false
    → Breaks u w r e last Numbered
numbering-breaks u w r e last found is fails = record { earlier = tt; broken = λ holds. let yes = is.1 holds in cc }

pub step-breaks : (m start : Seen) (e : Event) (last : Option LastLine) → IsNumbered m.workload m.readings e → start ≡ at_event e.number e.proc m
    → (AreSteps start.workload e.number e.proc start.readings e.records → ⊥) → Breaks (rules_named m.rules) m.workload m.readings e last Stepwise
step-breaks m start e last numbered begins none =
    let none' = subst (λ (s : Seen). AreSteps s.workload e.number e.proc s.readings e.records → ⊥) begins none in
    record { earlier = (numbered, tt); broken = λ holds. none' holds.steps }

-- the moment at the end of an event is the one after it
pub ended-is : (m start through next : Seen) (e : Event) → start ≡ at_event e.number e.proc m → through ≡ behind_some start e e.records
    → next ≡ at_end m.readings e.number e.proc e.records through → next ≡ after m e
ended-is m start through next e begins reads ends =
    ends ∙ ap (at_end m.readings e.number e.proc e.records) (reads ∙ ap (λ (s : Seen). behind_some s e e.records) begins)

-- what the first rule that was not found says, or that there is none
abbrev pub FirstIs : UserRules → WorkloadView → Readings → Event → Option LastLine → Option Rule → Type 0
FirstIs u w r e last first = MatchOption first (HoldEach u w rules r e last) (Breaks u w r e last)

pub outcome : (m start next : Seen) (e : Event) (last : Option LastLine) (b : Beginning) (running : Option ActNo) (through : ReadThrough) (ending : Ending)
    → IsNumbered m.workload m.readings e → IsBeginning m e b → start ≡ at_event e.number e.proc m → IsReadThrough start e running through
    → next ≡ after m e → IsEnding next e.number last ending
    → FirstIs (rules_named m.rules) m.workload m.readings e last (find (λ rule. not (found_of (findings_of e.number b through.laws through.due ending) rule)) rules)
outcome m start next e last b running through ending numbered begins starts read ends after_it =
    let read' : IsReadThrough (beginning_of m e) e running through = subst (λ (s : Seen). IsReadThrough s e running through) starts read in
    let after' : IsEnding (after m e) e.number last ending = subst (λ (s : Seen). IsEnding s e.number last ending) ends after_it in
    first-is (rules_named m.rules) m.workload m.readings e last (λ rule. found_of (findings_of e.number b through.laws through.due ending) rule)
    (each m e last b through.laws running through.due ending numbered read'.steps begins read'.laws read'.due after')

-- the first rule that breaks is this one, or none, where these findings give it
pub judged-so : (m start next : Seen) (e : Event) (last : Option LastLine) (b : Beginning) (running : Option ActNo) (through : ReadThrough) (ending : Ending)
    → IsNumbered m.workload m.readings e → IsBeginning m e b → start ≡ at_event e.number e.proc m → IsReadThrough start e running through
    → next ≡ after m e → IsEnding next e.number last ending
    → (f : Findings) (first : Option Rule) → f ≡ findings_of e.number b through.laws through.due ending → first ≡ find (λ rule. not (found_of f rule)) rules
    → FirstIs (rules_named m.rules) m.workload m.readings e last first
judged-so m start next e last b running through ending numbered begins starts read ends after_it f first is found =
    subst (λ (o : Option Rule). FirstIs (rules_named m.rules) m.workload m.readings e last o)
    (sym (found ∙ ap (λ (g : Findings). find (λ rule. not (found_of g rule)) rules) is))
    (outcome m start next e last b running through ending numbered begins starts read ends after_it)

-- so an event is judged by its findings
pub judges : (m : Seen) (e : Event) (last : Option LastLine) (first : Option Rule) (now : Between) → FirstIs (rules_named m.rules) m.workload m.readings e last first
    → seen now.moment ≡ after m e → IsCalmIf now.calm (seen now.moment).workload (seen now.moment).readings → Judges m e last (judged_by first now)
judges m e last None now holds next calm = record { right = record { holds = holds; next = next }; calm = calm }
judges m e last (Some rule) now breaks next calm = breaks

pub quiet-from : (m start : Seen) (e : Event) → IsNumbered m.workload m.readings e → WasSettled m.workload m.readings → start ≡ at_event e.number e.proc m
    → IsQuietAt m e → IsQuietFrom start e
quiet-from m start e numbered settled begins at =
    subst (λ (s : Seen). IsQuietFrom s e) (sym begins) (record {
      quiet = quiet-records m.workload m.readings e at.quiet;
      none = record {
        wants = record { due = quiet-wants-due m.workload m.readings e numbered.number settled at.quiet };
        aims = record { due = quiet-aims-due m.workload m.readings e numbered.number settled at.quiet };
        lines = record { due = quiet-lines-due m.workload m.readings e at.quiet at.calm };
      };
    })

-- all records of an event are read, and this is the moment after it
pub record IsReadOn (m start now : Seen) (e : Event) (running : Option ActNo) (through : ReadThrough) : Type 0 where
  pub read : IsReadThrough start e running through
  pub next : now ≡ after m e

pub read-on : (m start next : Seen) (e : Event) (running : Option ActNo) (found : Option ReadThrough) (through : ReadThrough)
    → start ≡ at_event e.number e.proc m → running ≡ running_of m.readings e.proc → found ≡ Some through → ReadsRecords start e running found
    → (IsOver m.readings e through.due.urged (seen through.moment) → next ≡ at_end m.readings e.number e.proc e.records (seen through.moment))
    → IsReadOn m start next e running through
read-on m start next e running found through begins runs is reads ends =
    let read : IsReadThrough start e running through = subst (λ (o : Option ReadThrough). ReadsRecords start e running o) is reads in
    record {
      read = read;
      next =
          ended-is m start (seen through.moment) next e begins read.moment
          (ends (over-is m start (seen through.moment) e running through.due.urged begins runs read.moment read.due.urged));
    }

-- so the end of an event that is known to be quiet is calm, and where the shares are covered after the records, they are after the event
pub known-after : (m start next : Seen) (e : Event) (running : Option ActNo) (through : ReadThrough) (quiet : Bool) → IsNumbered m.workload m.readings e
    → (IsTrue quiet → WasSettled m.workload m.readings) → (IsTrue quiet → IsQuietAt m e) → start ≡ at_event e.number e.proc m
    → IsReadOn m start next e running through → IsKnownAfter quiet through.due.covered next e.number
known-after m start next e running through quiet numbered settled at begins on =
    subst (λ (s : Seen). IsKnownAfter quiet through.due.covered s e.number) (sym on.next) (record {
      calm = λ yes. record {
        settled = quiet-settled m.workload m.readings e numbered.number (settled yes) (at yes).quiet (rules_named m.rules).inside;
        calm = still-calm m.workload m.readings e (at yes).quiet (rules_named m.rules).inside (at yes).calm;
      };
      shares = λ yes.
          let all : HasShares (behind_some (beginning_of m e) e e.records) e.number =
          subst (λ (s : Seen). HasShares (behind_some s e e.records) e.number) begins (on.read.due.covered yes) in all;
    })
