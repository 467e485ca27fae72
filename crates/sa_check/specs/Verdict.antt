-- What a verdict says of a trace.
use Rattle.std.specs.Prelude.{◌≡◌, ◌↔◌, ℕ, List, Result, Ok, Err}
use Rattle.sa_base.specs.declared.record.Item.{Item}
use Rattle.sa_base.specs.declared.refusal.Bad.{Bad}
use Rattle.sa_base.specs.declared.refusal.Unread.{Unread}
use Rattle.sa_spaces.specs.Workload.{WorkloadView}
use Rattle.sa_trace.specs.Reading.{Told}
use Rattle.sa_laws.specs.declared.rule.Rule.{Rule}
use Rattle.sa_laws.specs.Ends.{LastLine}
use Rattle.sa_laws.specs.Rules.{UserRules}
use Rattle.sa_laws.specs.Legal.{IsRight, FirstBreak}
use Rattle.sa_check.specs.declared.verdict.Verdict.{Verdict}
use Rattle.sa_check.specs.declared.verdict.Verdict.TheVariants.{Legal, Broken}

-- the last line of a trace that was told
abbrev pub last_line : Told → LastLine
last_line trace = record { end = trace.end; events = trace.events }

-- the verdict is true of a trace with its last line, by a user level's rules
abbrev pub IsVerdict : UserRules → WorkloadView → List Item → LastLine → Verdict → Type 0
IsVerdict u w items line Legal = IsRight u w items line
IsVerdict u w items line (Broken event rule) = FirstBreak u w items line event rule

-- a text tells this trace, and the verdict is `Legal` exactly where it is right, and `Broken` with exactly its first break
pub record IsExact (u : UserRules) (w : WorkloadView) (reading : Result Told Bad) (verdict : Verdict) : Type 0 where
  pub trace : Told
  pub read : reading ≡ Ok trace
  pub legal : (verdict ≡ Legal) ↔ IsRight u w trace.items (last_line trace)
  pub broken : (event : ℕ) (rule : Rule) → (verdict ≡ Broken event rule) ↔ FirstBreak u w trace.items (last_line trace) event rule

-- what comes of a text that is read as this: it is judged, or it is refused as it is read, or memory ran out
abbrev pub IsChecked : UserRules → WorkloadView → Result Told Bad → Result Verdict Unread → Type 0
IsChecked u w reading (Ok verdict) = IsExact u w reading verdict
IsChecked u w reading (Err (Unread.Bad bad)) = reading ≡ Err bad
IsChecked u w reading (Err Unread.OutOfMemory) = Unit {0}

-- what was found before the rest was read: where a line of the rest is bad, that comes first
abbrev pub unless_bad : Result Told Bad → Result Verdict Unread → Result Verdict Unread
unless_bad (Ok rest) found = found
unless_bad (Err bad) found = Err (Unread.Bad bad)
