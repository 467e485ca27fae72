-- How an event is judged.
use Rattle.std.specs.Prelude.{◌≡◌, ℕ, ◌==◌, ◌&&◌, ◌||◌, Option, Some, None}
use Rattle.sa_laws.specs.declared.rule.Rule.{Rule}
use Rattle.sa_laws.specs.Event.{Event}
use Rattle.sa_laws.specs.History.{after_event}
use Rattle.sa_laws.specs.Ends.{LastLine}
use Rattle.sa_laws.specs.Rules.{HoldEach, Breaks, rules}
use Rattle.sa_ranks.specs.Packages.{rules_named}
use Rattle.sa_check_moment.specs.Seen.{Seen, seen}
use Rattle.sa_check.specs.declared.begin.Beginning.{Beginning}
use Rattle.sa_check.specs.declared.end.Ending.{Ending}
use Rattle.sa_check.specs.declared.findings.Findings.{Findings}
use Rattle.sa_check.specs.declared.judge.Between.{Between}
use Rattle.sa_check.specs.declared.judge.Judged.{Judged}
use Rattle.sa_check.specs.declared.judge.Judged.TheVariants.{Right, Broken}
use Rattle.sa_check.specs.declared.places.DueFound.{DueFound}
use Rattle.sa_check.specs.declared.records.RecordsFound.{RecordsFound}
use Rattle.sa_check.specs.Quiet.{IsCalmIf}

-- the rules that hold, by what was found
abbrev pub findings_of : ℕ → Beginning → RecordsFound → DueFound → Ending → Findings
findings_of number beginning laws due ending = record {
  told_once = laws.told_once;
  told_in_time = ending.told_in_time;
  where_owned = laws.named && ending.owned;
  all_told = laws.all_told;
  upcall_given = laws.upcall_given;
  interrupt_next = beginning.interrupt_next;
  line_cause = (laws.heard && beginning.lines) && due.lines;
  want_cause = (number == 0 || due.wants) && ending.wants;
  shares_covered = ending.shares && due.aims;
  demand_announced = beginning.demand_announced;
  turns_taken = beginning.turns_taken;
  locks_kept = beginning.locks_kept;
  order_kept = beginning.order_kept;
  end_told = ending.end_told;
}

-- what an event comes to, by the first rule that does not hold and what comes after it where there is none
abbrev pub judged_by : Option Rule → Between → Judged
judged_by None now = Right now
judged_by (Some rule) now = Broken rule

-- the moment after an event
abbrev pub after : Seen → Event → Seen
after m e = record m { readings = after_event (rules_named m.rules).inside m.workload m.readings e }

-- each rule holds, and this is the moment after it; or this rule is the first that does not hold
pub record IsRightAt (m : Seen) (e : Event) (last : Option LastLine) (moment : Seen) : Type 0 where
  pub holds : HoldEach (rules_named m.rules) m.workload rules m.readings e last
  pub next : moment ≡ after m e

-- what comes after an event that is right
pub record IsRightThen (m : Seen) (e : Event) (last : Option LastLine) (now : Between) : Type 0 where
  pub right : IsRightAt m e last (seen now.moment)
  pub calm : IsCalmIf now.calm (seen now.moment).workload (seen now.moment).readings

abbrev pub Judges : Seen → Event → Option LastLine → Judged → Type 0
Judges m e last (Right now) = IsRightThen m e last now
Judges m e last (Broken rule) = Breaks (rules_named m.rules) m.workload m.readings e last rule
