-- The rules of legal runs in their order, each as what must hold at an event, given what was read before it.
use Rattle.std.specs.Prelude.{ℕ, List, [], ◌∷◌, take, Option}
use Rattle.sa_spaces.specs.Workload.{WorkloadView}
use Rattle.sa_laws.specs.declared.rule.Rule.{Rule}
use Rattle.sa_laws.specs.declared.rule.Rule.TheVariants.{Numbered, Stepwise, ToldOnce, ToldInTime, WhereOwned, AllTold, UpcallGiven, InterruptNext, LineCause, WantCause, SharesCovered, DemandAnnounced, TurnsTaken, LocksKept, OrderKept, EndTold}
use Rattle.sa_laws.specs.Event.{Event}
use Rattle.sa_laws.specs.Readings.{Readings}
use Rattle.sa_laws.specs.History.{Test, is_inside, after_event}
use Rattle.sa_laws.specs.Opening.{IsNumbered}
use Rattle.sa_laws.specs.Step.{IsStepwise}
use Rattle.sa_laws.specs.Upcalls.{OwnLines, IsToldOnce, IsToldInTime, RunsWhereOwned, AllIsTold, UpcallIsGiven, InterruptIsNext, LineHasCause, WantHasCause, SharesAreCovered}
use Rattle.sa_laws.specs.Demand.{DemandIsAnnounced}
use Rattle.sa_laws.specs.Turns.{Steps, IsStep, TurnsAreTaken}
use Rattle.sa_laws.specs.Locks.{LocksAreKept, OrderIsKept}
use Rattle.sa_laws.specs.Ends.{LastLine, EndIsTold}

-- a law of events
abbrev pub Law : Type 1
Law = WorkloadView → Readings → Event → Type 0

-- what a user level brings: its test of which lives are in, its table of steps, which lines it asks for, and its own
-- laws
pub record UserRules : Type 1 where
  pub inside : Test
  pub Steps : Steps
  pub Lines : OwnLines
  pub Demand : Law
  pub Locks : Law
  pub Order : Law

-- FastThreads' rules; it never asks for a line
abbrev pub NoLines : OwnLines
NoLines w r p q = ⊥

abbrev pub fast_threads : UserRules
fast_threads = record {
  inside = is_inside;
  Steps = IsStep;
  Lines = NoLines;
  Demand = DemandIsAnnounced;
  Locks = LocksAreKept;
  Order = OrderIsKept;
}

-- the rule holds at an event, before which this is read; the last line is that of the trace, if this is its last event
abbrev pub Holds : UserRules → WorkloadView → Rule → Readings → Event → Option LastLine → Type 0
Holds u w Numbered r e last = IsNumbered w r e
Holds u w Stepwise r e last = IsStepwise w r e
Holds u w ToldOnce r e last = IsToldOnce w r e
Holds u w ToldInTime r e last = IsToldInTime u.inside w r e
Holds u w WhereOwned r e last = RunsWhereOwned u.inside w r e
Holds u w AllTold r e last = AllIsTold w r e
Holds u w UpcallGiven r e last = UpcallIsGiven w r e
Holds u w InterruptNext r e last = InterruptIsNext w r e
Holds u w LineCause r e last = LineHasCause u.Lines w r e
Holds u w WantCause r e last = WantHasCause u.inside w r e
Holds u w SharesCovered r e last = SharesAreCovered u.inside w r e
Holds u w DemandAnnounced r e last = u.Demand w r e
Holds u w TurnsTaken r e last = TurnsAreTaken u.Steps w r e
Holds u w LocksKept r e last = u.Locks w r e
Holds u w OrderKept r e last = u.Order w r e
Holds u w EndTold r e last = EndIsTold (after_event u.inside w r e) e.number last

-- all rules in their order
abbrev pub rules : List Rule
rules = Numbered ∷ Stepwise ∷ ToldOnce ∷ ToldInTime ∷ WhereOwned ∷ AllTold ∷ UpcallGiven ∷ InterruptNext ∷ LineCause ∷ WantCause ∷ SharesCovered
    ∷ DemandAnnounced ∷ TurnsTaken ∷ LocksKept ∷ OrderKept ∷ EndTold ∷ []

-- the place of a rule among them
abbrev pub rule_place : Rule → ℕ
rule_place Numbered = 0
rule_place Stepwise = 1
rule_place ToldOnce = 2
rule_place ToldInTime = 3
rule_place WhereOwned = 4
rule_place AllTold = 5
rule_place UpcallGiven = 6
rule_place InterruptNext = 7
rule_place LineCause = 8
rule_place WantCause = 9
rule_place SharesCovered = 10
rule_place DemandAnnounced = 11
rule_place TurnsTaken = 12
rule_place LocksKept = 13
rule_place OrderKept = 14
rule_place EndTold = 15

-- the rules before one
abbrev pub rules_before : Rule → List Rule
rules_before rule = take (rule_place rule) rules

-- the laws of a legal run: all rules but the last, which is of the trace's end
abbrev pub laws : List Rule
laws = rules_before EndTold

-- each of these rules holds at an event
abbrev pub HoldEach : UserRules → WorkloadView → List Rule → Readings → Event → Option LastLine → Type 0
HoldEach u w [] r e last = Unit {0}
HoldEach u w (rule ∷ others) r e last = Holds u w rule r e last × HoldEach u w others r e last

-- All laws hold at an event: each by its rule's name.
pub record IsLawful (u : UserRules) (w : WorkloadView) (r : Readings) (e : Event) : Type 0 where
  pub numbered : IsNumbered w r e
  pub stepwise : IsStepwise w r e
  pub told_once : IsToldOnce w r e
  pub told_in_time : IsToldInTime u.inside w r e
  pub where_owned : RunsWhereOwned u.inside w r e
  pub all_told : AllIsTold w r e
  pub upcall_given : UpcallIsGiven w r e
  pub interrupt_next : InterruptIsNext w r e
  pub line_cause : LineHasCause u.Lines w r e
  pub want_cause : WantHasCause u.inside w r e
  pub shares_covered : SharesAreCovered u.inside w r e
  pub demand_announced : u.Demand w r e
  pub turns_taken : TurnsAreTaken u.Steps w r e
  pub locks_kept : u.Locks w r e
  pub order_kept : u.Order w r e

-- a rule is the first that does not hold at an event
pub record Breaks (u : UserRules) (w : WorkloadView) (r : Readings) (e : Event) (last : Option LastLine) (rule : Rule) : Type 0 where
  pub earlier : HoldEach u w (rules_before rule) r e last
  pub broken : Holds u w rule r e last → ⊥
