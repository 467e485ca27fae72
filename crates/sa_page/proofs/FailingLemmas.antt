-- The record that breaks a rule: at most one is named, it breaks it, and a rule that is of records alone has one.
use Rattle.std.proofs.Common.{◌≡◌, ◌≢◌, ℕ, zero, suc, ◌+◌, ◌<◌, ◌≤◌, true, List, [], ◌∷◌, take, Option, Some, None, sym, ◌∙◌, ap, subst, inl, inr, refl, arith}
use Rattle.std.specs.Prelude.{slice_get}
use Rattle.std.proofs.lemmas.Bool.{false≢true}
use Rattle.std.proofs.lemmas.Option.{none-some, same_Some}
use Rattle.sa_base.specs.declared.number.ProcNo.{ProcNo}
use Rattle.sa_base.specs.declared.record.Record.{Record}
use Rattle.sa_base.specs.declared.record.Item.{Item}
use Rattle.sa_base.specs.declared.package.RulesName.{RulesName}
use Rattle.sa_spaces.specs.Workload.{WorkloadView}
use Rattle.sa_ranks.specs.Packages.{rules_named}
use Rattle.sa_laws.specs.declared.rule.Rule.{Rule}
use Rattle.sa_laws.specs.declared.rule.Rule.TheVariants.{Numbered, Stepwise, ToldOnce, ToldInTime, WhereOwned, AllTold, UpcallGiven, InterruptNext, LineCause, WantCause, SharesCovered, DemandAnnounced, TurnsTaken, LocksKept, OrderKept, EndTold}
use Rattle.sa_laws.specs.Event.{Event, events_of}
use Rattle.sa_laws.specs.Readings.{Readings}
use Rattle.sa_laws.specs.Record.{after_record}
use Rattle.sa_laws.specs.History.{event_begun, after_records, after_events}
use Rattle.sa_laws.specs.Opening.{IsNumbered}
use Rattle.sa_laws.specs.Legal.{line_at, FirstBreakIn, FirstBreak}
use Rattle.sa_laws.specs.Ends.{LastLine}
use Rattle.sa_laws.specs.Rules.{Holds, Breaks}
use Rattle.sa_laws.specs.Step.{Needs, AreSteps, IsStepwise}
use Rattle.sa_laws.specs.Upcalls.{EachRecord}
use Rattle.sa_check_moment.specs.Seen.{Seen, opened, at_event, behind_record}
use Rattle.sa_check.specs.Judged.{after}
use Rattle.sa_check.specs.declared.verdict.Verdict.{Verdict}
use Rattle.sa_check.specs.declared.verdict.Verdict.TheVariants.{Legal, Broken}
use Rattle.sa_page.specs.Advance.{IsAdvanced}
use Rattle.sa_page.specs.declared.failing.Failing.{Failing}
use Rattle.sa_page.specs.Failing.{HoldsOf, is_of_records, failing_record, FailsFrom, FailsIn, FailsAt, record_said, SaysFailing}

-- RECORD BY RECORD. So far each was as the rule asks, and what is found of the rest is what is found of all
abbrev pub Seeks : Rule → Seen → Seen → Event → ℕ → List Record → Type 0
Seeks rule start now e place rest = (found : Option Failing) → FailsFrom rule now e place rest found → FailsFrom rule start e 0 e.records found

pub finds : (rule : Rule) (start now : Seen) (e : Event) (place : ℕ) (rest xs : List Record) (x : Record) → rest ≡ x ∷ xs
    → (HoldsOf rule now.workload e.proc now.readings x xs → ⊥) → Seeks rule start now e place rest
    → FailsFrom rule start e 0 e.records (Some (failing_record e place x))
finds rule start now e place rest xs x at fails so =
    so (Some (failing_record e place x))
    (subst (λ (rs : List Record). FailsFrom rule now e place rs (Some (failing_record e place x))) (sym at) (inl (fails, refl)))

pub finds-none : (rule : Rule) (start now : Seen) (e : Event) (place : ℕ) (rest xs : List Record) (x : Record) → rest ≡ x ∷ xs
    → HoldsOf rule now.workload e.proc now.readings x xs → (Needs now.workload e.proc now.readings x → ⊥) → Seeks rule start now e place rest
    → FailsFrom rule start e 0 e.records None
finds-none rule start now e place rest xs x at holds stuck so =
    so None (subst (λ (rs : List Record). FailsFrom rule now e place rs None) (sym at) (inr (holds, inl (stuck, refl))))

pub seeks-on : (rule : Rule) (start now next : Seen) (e : Event) (place : ℕ) (rest xs : List Record) (x : Record) → rest ≡ x ∷ xs
    → HoldsOf rule now.workload e.proc now.readings x xs → Needs now.workload e.proc now.readings x → next ≡ behind_record e.number e.proc x now
    → Seeks rule start now e place rest → Seeks rule start next e (place + 1) xs
seeks-on rule start now next e place rest xs x at holds needs goes so found later =
    so found
    (subst (λ (rs : List Record). FailsFrom rule now e place rs found) (sym at)
    (inr (holds, inr (needs, subst (λ (s : Seen). FailsFrom rule s e (place + 1) xs found) goes later))))

pub seeks-none : (rule : Rule) (start now : Seen) (e : Event) (place : ℕ) (rest : List Record) → rest ≡ [] → Seeks rule start now e place rest
    → FailsFrom rule start e 0 e.records None
seeks-none rule start now e place rest none so = so None (subst (λ (rs : List Record). FailsFrom rule now e place rs None) (sym none) refl)

-- EVENT BY EVENT
abbrev pub Looks : Rule → ℕ → Seen → List Event → Seen → List Event → Type 0
Looks rule number start events now rest = (found : Option Failing) → FailsAt rule number now rest found → FailsAt rule number start events found

pub looks-here : (rule : Rule) (number : ℕ) (start now : Seen) (events all es : List Event) (e : Event) (found : Option Failing) → all ≡ e ∷ es
    → e.number ≡ number → FailsIn rule now e found → Looks rule number start events now all → FailsAt rule number start events found
looks-here rule number start now events all es e found at here fails so =
    so found (subst (λ (rest : List Event). FailsAt rule number now rest found) (sym at) (inl (here, fails)))

pub looks-on : (rule : Rule) (number : ℕ) (start now next : Seen) (events all es : List Event) (e : Event) → all ≡ e ∷ es → e.number ≢ number
    → IsAdvanced now e next → Looks rule number start events now all → Looks rule number start events next es
looks-on rule number start now next events all es e at apart goes so found later =
    so found
    (subst (λ (rest : List Event). FailsAt rule number now rest found) (sym at)
    (inr (apart, inl (goes.steps, subst (λ (s : Seen). FailsAt rule number s es found) goes.moment later))))

pub looks-nowhere : (rule : Rule) (number : ℕ) (start now : Seen) (events all es : List Event) (e : Event) → all ≡ e ∷ es → e.number ≢ number
    → (IsStepwise now.workload now.readings e → ⊥) → Looks rule number start events now all → FailsAt rule number start events None
looks-nowhere rule number start now events all es e at apart stuck so =
    so None (subst (λ (rest : List Event). FailsAt rule number now rest None) (sym at) (inr (apart, inr (stuck, refl))))

pub looks-past : (rule : Rule) (number : ℕ) (start now : Seen) (events all : List Event) → all ≡ [] → Looks rule number start events now all
    → FailsAt rule number start events None
looks-past rule number start now events all none so =
    so None (subst (λ (rest : List Event). FailsAt rule number now rest None) (sym none) refl)

-- ONLY ONE IS FOUND
from-one : (rule : Rule) (m : Seen) (e : Event) (place : ℕ) (xs : List Record) (a b : Option Failing) → FailsFrom rule m e place xs a
    → FailsFrom rule m e place xs b → a ≡ b
from-one rule m e place [] a b p q = p ∙ sym q
from-one rule m e place (x ∷ xs) a b (inl p) (inl q) = p.1 ∙ sym q.1
from-one rule m e place (x ∷ xs) a b (inl p) (inr q) = absurd (p.0 q.0)
from-one rule m e place (x ∷ xs) a b (inr p) (inl q) = absurd (q.0 p.0)
from-one rule m e place (x ∷ xs) a b (inr (_, inl p)) (inr (_, inl q)) = p.1 ∙ sym q.1
from-one rule m e place (x ∷ xs) a b (inr (_, inl p)) (inr (_, inr q)) = absurd (p.0 q.0)
from-one rule m e place (x ∷ xs) a b (inr (_, inr p)) (inr (_, inl q)) = absurd (q.0 p.0)
from-one rule m e place (x ∷ xs) a b (inr (_, inr p)) (inr (_, inr q)) =
    from-one rule (behind_record e.number e.proc x m) e (place + 1) xs a b p.1 q.1

at-one : (rule : Rule) (number : ℕ) (m : Seen) (events : List Event) (a b : Option Failing) → FailsAt rule number m events a
    → FailsAt rule number m events b → a ≡ b
at-one rule number m [] a b p q = p ∙ sym q
at-one rule number m (e ∷ es) a b (inl p) (inl q) = from-one rule (at_event e.number e.proc m) e 0 e.records a b p.1 q.1
at-one rule number m (e ∷ es) a b (inl p) (inr q) = absurd (q.0 p.0)
at-one rule number m (e ∷ es) a b (inr p) (inl q) = absurd (p.0 q.0)
at-one rule number m (e ∷ es) a b (inr (_, inl p)) (inr (_, inl q)) = at-one rule number (after m e) es a b p.1 q.1
at-one rule number m (e ∷ es) a b (inr (_, inl p)) (inr (_, inr q)) = absurd (q.0 p.0)
at-one rule number m (e ∷ es) a b (inr (_, inr p)) (inr (_, inl q)) = absurd (p.0 q.0)
at-one rule number m (e ∷ es) a b (inr (_, inr p)) (inr (_, inr q)) = p.1 ∙ sym q.1

pub failing-one : (m : Seen) (verdict : Verdict) (events : List Event) (a b : List ℕ) → SaysFailing m verdict events a → SaysFailing m verdict events b
    → a ≡ b
failing-one m Legal events a b p q = p ∙ sym q
failing-one m (Broken number rule) events a b p q =
    p.is ∙ ap record_said (at-one rule number m events p.found q.found p.fails q.fails) ∙ sym q.is

-- IT BREAKS THE RULE. If each record is as the rule asks, none is found
none-fails : (rule : Rule) (m : Seen) (e : Event) (place : ℕ) (xs : List Record) (x : Failing)
    → EachRecord (HoldsOf rule m.workload e.proc) m.workload e.number e.proc m.readings xs → FailsFrom rule m e place xs (Some x) → ⊥
none-fails rule m e place [] x each p = none-some x (sym p)
none-fails rule m e place (y ∷ ys) x each (inl p) = p.0 each.0
none-fails rule m e place (y ∷ ys) x each (inr (_, inl p)) = none-some x (sym p.1)
none-fails rule m e place (y ∷ ys) x each (inr (_, inr p)) = none-fails rule (behind_record e.number e.proc y m) e (place + 1) ys x each.1 p.1

-- a rule that holds asks what holds of each record
nothing-asked : (w : WorkloadView) (n : ℕ) (p : ProcNo) (r : Readings) (xs : List Record) → EachRecord (λ r x rest. Unit {0}) w n p r xs
nothing-asked w n p r [] = tt
nothing-asked w n p r (x ∷ xs) = (tt, nothing-asked w n p (after_record w n p r x) xs)

each-step : (w : WorkloadView) (n : ℕ) (p : ProcNo) (r : Readings) (xs : List Record) → AreSteps w n p r xs → EachRecord (HoldsOf Stepwise w p) w n p r xs
each-step w n p r [] all = tt
each-step w n p r (x ∷ xs) all = (all.0, each-step w n p (after_record w n p r x) xs all.1)

each-asked : (rules : RulesName) (m : Seen) (e : Event) (last : Option LastLine) (rule : Rule) → Holds (rules_named rules) m.workload rule m.readings e last
    → let s = at_event e.number e.proc m in EachRecord (HoldsOf rule s.workload e.proc) s.workload e.number e.proc s.readings e.records
each-asked rules m e last Numbered holds = let s = at_event e.number e.proc m in nothing-asked s.workload e.number e.proc s.readings e.records
each-asked rules m e last Stepwise holds = let s = at_event e.number e.proc m in each-step s.workload e.number e.proc s.readings e.records holds.steps
each-asked rules m e last ToldOnce holds = holds.told
each-asked rules m e last ToldInTime holds = let s = at_event e.number e.proc m in nothing-asked s.workload e.number e.proc s.readings e.records
each-asked rules m e last WhereOwned holds = holds.named
each-asked rules m e last AllTold holds = holds.told
each-asked rules m e last UpcallGiven holds = holds.blocks
each-asked rules m e last InterruptNext holds = let s = at_event e.number e.proc m in nothing-asked s.workload e.number e.proc s.readings e.records
each-asked rules m e last LineCause holds = holds.heard
each-asked rules m e last WantCause holds = let s = at_event e.number e.proc m in nothing-asked s.workload e.number e.proc s.readings e.records
each-asked rules m e last SharesCovered holds = let s = at_event e.number e.proc m in nothing-asked s.workload e.number e.proc s.readings e.records
each-asked rules m e last DemandAnnounced holds = let s = at_event e.number e.proc m in nothing-asked s.workload e.number e.proc s.readings e.records
each-asked rules m e last TurnsTaken holds = let s = at_event e.number e.proc m in nothing-asked s.workload e.number e.proc s.readings e.records
each-asked rules m e last LocksKept holds = let s = at_event e.number e.proc m in nothing-asked s.workload e.number e.proc s.readings e.records
each-asked rules m e last OrderKept holds = let s = at_event e.number e.proc m in nothing-asked s.workload e.number e.proc s.readings e.records
each-asked rules m e last EndTold holds = let s = at_event e.number e.proc m in nothing-asked s.workload e.number e.proc s.readings e.records

pub it-breaks : (rules : RulesName) (m : Seen) (e : Event) (last : Option LastLine) (rule : Rule) (x : Failing) → FailsIn rule m e (Some x)
    → Holds (rules_named rules) m.workload rule m.readings e last → ⊥
it-breaks rules m e last rule x fails holds = none-fails rule (at_event e.number e.proc m) e 0 e.records x (each-asked rules m e last rule holds) fails

-- ONE IS FOUND. If none is, each record up to the last step is as the rule asks
all-hold : (rule : Rule) (m : Seen) (e : Event) (place : ℕ) (xs : List Record) → AreSteps m.workload e.number e.proc m.readings xs
    → FailsFrom rule m e place xs None → EachRecord (HoldsOf rule m.workload e.proc) m.workload e.number e.proc m.readings xs
all-hold rule m e place [] steps p = tt
all-hold rule m e place (x ∷ xs) steps (inl p) = absurd (none-some (failing_record e place x) p.1)
all-hold rule m e place (x ∷ xs) steps (inr (_, inl p)) = absurd (p.0 steps.0)
all-hold rule m e place (x ∷ xs) steps (inr (holds, inr p)) = (holds, all-hold rule (behind_record e.number e.proc x m) e (place + 1) xs steps.1 p.1)

all-steps : (m : Seen) (e : Event) (place : ℕ) (xs : List Record) → FailsFrom Stepwise m e place xs None → AreSteps m.workload e.number e.proc m.readings xs
all-steps m e place [] p = tt
all-steps m e place (x ∷ xs) (inl p) = absurd (none-some (failing_record e place x) p.1)
all-steps m e place (x ∷ xs) (inr (holds, inl p)) = absurd (p.0 holds)
all-steps m e place (x ∷ xs) (inr (holds, inr p)) = (holds, all-steps (behind_record e.number e.proc x m) e (place + 1) xs p.1)

all-asked : (m : Seen) (e : Event) (rule : Rule) → IsStepwise m.workload m.readings e → FailsIn rule m e None
    → let s = at_event e.number e.proc m in EachRecord (HoldsOf rule s.workload e.proc) s.workload e.number e.proc s.readings e.records
all-asked m e rule steps none = all-hold rule (at_event e.number e.proc m) e 0 e.records steps.steps none

has-one : (rules : RulesName) (m : Seen) (e : Event) (last : Option LastLine) (rule : Rule) → is_of_records rule ≡ true
    → Breaks (rules_named rules) m.workload m.readings e last rule → FailsIn rule m e None → ⊥
has-one rules m e last Numbered never breaks none = cc
has-one rules m e last Stepwise so breaks none = breaks.broken (record { steps = all-steps (at_event e.number e.proc m) e 0 e.records none })
has-one rules m e last ToldOnce so breaks none = breaks.broken (record { told = all-asked m e ToldOnce breaks.earlier.1.0 none })
has-one rules m e last ToldInTime never breaks none = cc
has-one rules m e last WhereOwned never breaks none = cc
has-one rules m e last AllTold so breaks none = breaks.broken (record { told = all-asked m e AllTold breaks.earlier.1.0 none })
has-one rules m e last UpcallGiven so breaks none = breaks.broken (record { blocks = all-asked m e UpcallGiven breaks.earlier.1.0 none })
has-one rules m e last InterruptNext never breaks none = cc
has-one rules m e last LineCause never breaks none = cc
has-one rules m e last WantCause never breaks none = cc
has-one rules m e last SharesCovered never breaks none = cc
has-one rules m e last DemandAnnounced never breaks none = cc
has-one rules m e last TurnsTaken never breaks none = cc
has-one rules m e last LocksKept never breaks none = cc
has-one rules m e last OrderKept never breaks none = cc
has-one rules m e last EndTold never breaks none = cc

-- THE VERDICT'S EVENT. No event before it has its number, and all of them are stepwise
numbered-first : (rules : RulesName) (w : WorkloadView) (r : Readings) (e : Event) (last : Option LastLine) (rule : Rule) → is_of_records rule ≡ true
    → Breaks (rules_named rules) w r e last rule → IsNumbered w r e
numbered-first rules w r e last Numbered never breaks = cc
numbered-first rules w r e last Stepwise so breaks = breaks.earlier.0
numbered-first rules w r e last ToldOnce so breaks = breaks.earlier.0
numbered-first rules w r e last ToldInTime never breaks = cc
numbered-first rules w r e last WhereOwned never breaks = cc
numbered-first rules w r e last AllTold so breaks = breaks.earlier.0
numbered-first rules w r e last UpcallGiven so breaks = breaks.earlier.0
numbered-first rules w r e last InterruptNext never breaks = cc
numbered-first rules w r e last LineCause never breaks = cc
numbered-first rules w r e last WantCause never breaks = cc
numbered-first rules w r e last SharesCovered never breaks = cc
numbered-first rules w r e last DemandAnnounced never breaks = cc
numbered-first rules w r e last TurnsTaken never breaks = cc
numbered-first rules w r e last LocksKept never breaks = cc
numbered-first rules w r e last OrderKept never breaks = cc
numbered-first rules w r e last EndTold never breaks = cc

same-number : (w : WorkloadView) (n : ℕ) (p : ProcNo) (r : Readings) (xs : List Record) → (after_records w n p r xs).number ≡ r.number
same-number w n p r [] = refl
same-number w n p r (x ∷ xs) = same-number w n p (after_record w n p r x) xs

next-number : (m : Seen) (e : Event) → (after m e).readings.number ≡ m.readings.number + 1
next-number m e = ap (λ n. n + 1) (same-number m.workload e.number e.proc (event_begun m.workload e m.readings) e.records)

abbrev pub Steady : Seen → List Event → ℕ → Type 0
Steady m events n =
    (k : ℕ) (e : Event) → k < n → slice_get events k ≡ Some e
    → let r = after_events (rules_named m.rules).inside m.workload m.readings (take k events) in IsNumbered m.workload r e × IsStepwise m.workload r e

-- from a moment on, where the break comes later, and here
pub record HasOne (rule : Rule) (number : ℕ) (m : Seen) (events : List Event) : Type 0 where
  pub later : m.readings.number ≤ number
  pub named : FailsAt rule number m events None → ⊥

has-later : (m : Seen) (e : Event) (es : List Event) (rule : Rule) (number : ℕ) → IsNumbered m.workload m.readings e → IsStepwise m.workload m.readings e
    → HasOne rule number (after m e) es → HasOne rule number m (e ∷ es)
has-later m e es rule number numbered steps has = record { later = omega (arith, has.later, next-number m e); named = none } where
  none : FailsAt rule number m (e ∷ es) None → ⊥
  none (inl found) = absurd (omega (arith, has.later, next-number m e, numbered.number, found.0))
  none (inr (_, inl found)) = has.named found.1
  none (inr (_, inr found)) = found.0 steps

has-here : (m : Seen) (e : Event) (es : List Event) (last : Option LastLine) (rule : Rule) → is_of_records rule ≡ true
    → Breaks (rules_named m.rules) m.workload m.readings e last rule → HasOne rule e.number m (e ∷ es)
has-here m e es last rule of breaks =
    let numbered = numbered-first m.rules m.workload m.readings e last rule of breaks in
    record { later = omega (arith, numbered.number); named = none } where
      none : FailsAt rule e.number m (e ∷ es) None → ⊥
      none (inl found) = has-one m.rules m e last rule of breaks found.1
      none (inr found) = found.0 refl

has-from : (m : Seen) (events : List Event) (place : ℕ) (e : Event) (last : Option LastLine) (rule : Rule) → is_of_records rule ≡ true
    → slice_get events place ≡ Some e → Steady m events place
    → Breaks (rules_named m.rules) m.workload (after_events (rules_named m.rules).inside m.workload m.readings (take place events)) e last rule
    → HasOne rule e.number m events
has-from m [] place e last rule of at steady breaks = absurd (none-some e at)
has-from m (f ∷ es) zero e last rule of at steady breaks =
    let same : f ≡ e = same_Some f e at in
    subst (λ (g : Event). HasOne rule e.number m (g ∷ es)) (sym same) (has-here m e es last rule of breaks)
has-from m (f ∷ es) (suc n) e last rule of at steady breaks =
    let here = steady 0 f (omega arith) refl in
    has-later m f es rule e.number here.0 here.1
    (has-from (after m f) es n e last rule of at (λ k g below found. steady (suc k) g (omega (arith, below)) found) breaks)

pub break-named : (rules : RulesName) (w : WorkloadView) (items : List Item) (line : LastLine) (number : ℕ) (rule : Rule) → is_of_records rule ≡ true
    → FirstBreak (rules_named rules) w items line number rule → FailsAt rule number (opened rules w) (events_of items) None → ⊥
break-named rules w items line number rule of first = by (events_of items) first where
  by : (events : List Event) → FirstBreakIn (rules_named rules) w events line number rule → FailsAt rule number (opened rules w) events None → ⊥
  by [] none found = absurd (false≢true (sym (ap is_of_records none.1) ∙ of))
  by (e ∷ es) at found =
      let has : HasOne rule at.event.number (opened rules w) (e ∷ es) =
      has-from (opened rules w) (e ∷ es) at.place at.event (line_at (e ∷ es) line at.place) rule of at.at
      (λ k f below found. let held = at.earlier k f below found in (held.0, held.1.0)) at.breaks in
      has.named (subst (λ n. FailsAt rule n (opened rules w) (e ∷ es) None) (sym at.numbered) found)
