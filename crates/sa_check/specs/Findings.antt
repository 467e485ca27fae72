-- Which rules hold at an event.
use Rattle.std.specs.Prelude.{◌↔◌, Bool, true, IsTrue, Option}
use Rattle.sa_spaces.specs.Workload.{WorkloadView}
use Rattle.sa_laws.specs.declared.rule.Rule.{Rule}
use Rattle.sa_laws.specs.declared.rule.Rule.TheVariants.{Numbered, Stepwise, ToldOnce, ToldInTime, WhereOwned, AllTold, UpcallGiven, InterruptNext, LineCause, WantCause, SharesCovered, DemandAnnounced, TurnsTaken, LocksKept, OrderKept, EndTold}
use Rattle.sa_laws.specs.Event.{Event}
use Rattle.sa_laws.specs.Readings.{Readings}
use Rattle.sa_laws.specs.Ends.{LastLine}
use Rattle.sa_laws.specs.Rules.{UserRules, Holds}
use Rattle.sa_check.specs.declared.findings.Findings.{Findings}

abbrev pub found_of : Findings → Rule → Bool
found_of f Numbered = true
found_of f Stepwise = true
found_of f ToldOnce = f.told_once
found_of f ToldInTime = f.told_in_time
found_of f WhereOwned = f.where_owned
found_of f AllTold = f.all_told
found_of f UpcallGiven = f.upcall_given
found_of f InterruptNext = f.interrupt_next
found_of f LineCause = f.line_cause
found_of f WantCause = f.want_cause
found_of f SharesCovered = f.shares_covered
found_of f DemandAnnounced = f.demand_announced
found_of f TurnsTaken = f.turns_taken
found_of f LocksKept = f.locks_kept
found_of f OrderKept = f.order_kept
found_of f EndTold = f.end_told

-- what was found is so
pub record IsFound (u : UserRules) (w : WorkloadView) (r : Readings) (e : Event) (last : Option LastLine) (f : Findings) : Type 0 where
  pub each : (rule : Rule) → IsTrue (found_of f rule) ↔ Holds u w rule r e last
