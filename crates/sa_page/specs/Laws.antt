-- What holds of pages.
use Rattle.std.specs.Prelude.{◌≡◌, ℕ, true, List, Option, Some, None}
use Rattle.sa_base.specs.declared.number.ActNo.{ActNo}
use Rattle.sa_base.specs.declared.record.Item.{Item}
use Rattle.sa_laws.specs.declared.rule.Rule.{Rule}
use Rattle.sa_laws.specs.Event.{Event, events_of}
use Rattle.sa_laws.specs.Ends.{LastLine}
use Rattle.sa_laws.specs.Rules.{Holds}
use Rattle.sa_laws.specs.Legal.{FirstBreak}
use Rattle.sa_ranks.specs.Packages.{rules_named}
use Rattle.sa_base.specs.declared.package.RulesName.{RulesName}
use Rattle.sa_check_moment.specs.Seen.{Seen, opened}
use Rattle.sa_spaces.specs.Workload.{WorkloadView}
use Rattle.sa_page.specs.declared.failing.Failing.{Failing}
use Rattle.sa_page.specs.Failing.{is_of_records, FailsIn, FailsAt}
use Rattle.sa_page.specs.Shown.{Shows}
use Rattle.sa_page.specs.Page.{IsPage}

-- only one text shows some events from a moment on
abbrev pub ShownIsOne : Type 0
ShownIsOne = (m : Seen) (ups : List ActNo) (events : List Event) (a b : List ℕ) → Shows m ups events a → Shows m ups events b → a ≡ b

-- only one text is the page of a workload and a trace text, by some rules
abbrev pub PageIsOne : Type 0
PageIsOne = (rules : RulesName) (w : WorkloadView) (trace a b : List ℕ) → IsPage rules w trace a → IsPage rules w trace b → a ≡ b

-- at an event of which a record is named the rule does not hold
abbrev pub NamedBreaks : Type 0
NamedBreaks = (rules : RulesName) (m : Seen) (e : Event) (last : Option LastLine) (rule : Rule) (x : Failing) → FailsIn rule m e (Some x)
    → Holds (rules_named rules) m.workload rule m.readings e last → ⊥

-- and if a rule that is of records alone is the first that breaks, one is named
abbrev pub BreakIsNamed : Type 0
BreakIsNamed = (rules : RulesName) (w : WorkloadView) (items : List Item) (line : LastLine) (number : ℕ) (rule : Rule) → is_of_records rule ≡ true
    → FirstBreak (rules_named rules) w items line number rule → FailsAt rule number (opened rules w) (events_of items) None → ⊥
