-- The record that breaks a rule.
use Rattle.std.specs.Prelude.{◌≡◌, ◌≢◌, ◌⊎◌, ℕ, ◌+◌, Bool, true, false, List, [], ◌∷◌, ◌++◌, codes, decimal, Option, Some, None}
use Rattle.sa_base.specs.declared.number.ProcNo.{ProcNo}
use Rattle.sa_base.specs.declared.record.Record.{Record}
use Rattle.sa_trace.specs.TraceText.{line_of}
use Rattle.sa_spaces.specs.Workload.{WorkloadView}
use Rattle.sa_laws.specs.declared.rule.Rule.{Rule}
use Rattle.sa_laws.specs.declared.rule.Rule.TheVariants.{Stepwise, ToldOnce, WhereOwned, AllTold, UpcallGiven, LineCause}
use Rattle.sa_laws.specs.Event.{Event}
use Rattle.sa_laws.specs.Step.{Needs, IsStepwise}
use Rattle.sa_laws.specs.Upcalls.{RecordLaw, TellsOnce, NamesTheLife, TellsAllThen, GivesUpcallThen, RaisesLine}
use Rattle.sa_check_moment.specs.Seen.{Seen, at_event, behind_record}
use Rattle.sa_check.specs.Judged.{after}
use Rattle.sa_check.specs.declared.verdict.Verdict.{Verdict}
use Rattle.sa_check.specs.declared.verdict.Verdict.TheVariants.{Legal, Broken}
use Rattle.sa_page.specs.declared.failing.Failing.{Failing}
use Rattle.sa_page.specs.declared.failing.TheConstants.{NO_RECORD, BREAKS_IT}

-- what a rule asks of each record of an event, given the moment before it and the records after it; nothing, if the rule is of the event as
-- a whole
abbrev pub HoldsOf : Rule → WorkloadView → ProcNo → RecordLaw
HoldsOf Stepwise w p r x rest = Needs w p r x
HoldsOf ToldOnce w p r x rest = TellsOnce r x rest
HoldsOf WhereOwned w p r x rest = NamesTheLife p r x rest
HoldsOf AllTold w p r x rest = TellsAllThen p r x rest
HoldsOf UpcallGiven w p r x rest = GivesUpcallThen p r x rest
HoldsOf LineCause w p r x rest = RaisesLine r x rest
HoldsOf _ w p r x rest = Unit {0}

-- a rule that asks nothing more
abbrev pub is_of_records : Rule → Bool
is_of_records Stepwise = true
is_of_records ToldOnce = true
is_of_records AllTold = true
is_of_records UpcallGiven = true
is_of_records _ = false

-- a record of an event, at this place among its records
abbrev pub failing_record : Event → ℕ → Record → Failing
failing_record e place x = record { place = place; item = record { event = e.number; proc = e.proc; what = x } }

-- of these records of an event, the first of which has this place, the first that is not as the rule asks, from the moment before them on;
-- none if there is no such one, or if one before it is no step of the machine
abbrev pub FailsFrom : Rule → Seen → Event → ℕ → List Record → Option Failing → Type 0
FailsFrom rule m e place [] found = found ≡ None
FailsFrom rule m e place (x ∷ xs) found =
    ((HoldsOf rule m.workload e.proc m.readings x xs → ⊥) × (found ≡ Some (failing_record e place x)))
    ⊎ (HoldsOf rule m.workload e.proc m.readings x xs
    × (((Needs m.workload e.proc m.readings x → ⊥) × (found ≡ None))
    ⊎ (Needs m.workload e.proc m.readings x × FailsFrom rule (behind_record e.number e.proc x m) e (place + 1) xs found)))

-- of an event, from the moment before it on
abbrev pub FailsIn : Rule → Seen → Event → Option Failing → Type 0
FailsIn rule m e found = FailsFrom rule (at_event e.number e.proc m) e 0 e.records found

-- of the first of these events that has this number, from the moment before them on; none if there is no such one, or if one before it is
-- not stepwise
abbrev pub FailsAt : Rule → ℕ → Seen → List Event → Option Failing → Type 0
FailsAt rule number m [] found = found ≡ None
FailsAt rule number m (e ∷ es) found =
    ((e.number ≡ number) × FailsIn rule m e found)
    ⊎ ((e.number ≢ number)
    × ((IsStepwise m.workload m.readings e × FailsAt rule number (after m e) es found)
    ⊎ ((IsStepwise m.workload m.readings e → ⊥) × (found ≡ None))))

-- what is said of it: its line, and its words; and what is said if there is none
unfoldable pub record_line : Failing → List ℕ
record_line x = codes "record " ++ decimal x.place ++ codes "\n"

unfoldable pub record_words : Failing → List ℕ
record_words x = BREAKS_IT.now ++ line_of x.item

abbrev pub record_said : Option Failing → List ℕ
record_said None = NO_RECORD.now
record_said (Some x) = record_line x ++ record_words x

pub record SaysRecord (rule : Rule) (number : ℕ) (m : Seen) (events : List Event) (text : List ℕ) : Type 0 where
  pub found : Option Failing
  pub fails : FailsAt rule number m events found
  pub is : text ≡ record_said found

abbrev pub SaysFailing : Seen → Verdict → List Event → List ℕ → Type 0
SaysFailing m Legal events text = text ≡ []
SaysFailing m (Broken number rule) events text = SaysRecord rule number m events text
