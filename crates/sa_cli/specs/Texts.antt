-- An input of two texts: a workload text up to its first line that is `close`, and directly after it a trace text.
use Rattle.std.specs.Prelude.{◌≡◌, ◌⊎◌, ◌<◌, List, ℕ, length, Option, Ok, IfSome}
use Rattle.sa_spaces.specs.Workload.{WorkloadView}
use Rattle.sa_laws.specs.Ends.{LastLine}
use Rattle.sa_workload.specs.Texts.{second_part}
use Rattle.sa_trace.specs.Reading.{Told, read_of}
use Rattle.sa_check.specs.declared.verdict.Verdict.{Verdict}
use Rattle.sa_check.specs.Verdict.{IsVerdict}
use Rattle.sa_base.specs.declared.package.RulesName.{RulesName}
use Rattle.sa_ranks.specs.Packages.{rules_named}
use Rattle.sa_cli.specs.declared.found.Found.{Found}
use Rattle.sa_cli.specs.declared.found.Found.TheVariants.{Judged, BadWorkload, BadTrace}
use Rattle.sa_input.specs.declared.limits.TheConstants.{TRACE_LIMIT}
use Rattle.sa_io.specs.Input.{ReadsInput}
use Rattle.sa_input.specs.Refusals.{too_long}
use Rattle.sa_input.specs.Parts.{HasWorkload, HasBadWorkload, HasBadTrace}

-- the last line of a trace that was told
abbrev pub last_told : Told → LastLine
last_told told = record { end = told.end; events = told.events }

-- a workload and a trace, of which the verdict by these rules is true
pub record IsJudged (rules : RulesName) (input : List ℕ) (verdict : Verdict) : Type 0 where
  pub workload : WorkloadView
  pub has : HasWorkload input workload
  pub told : Told
  pub read : read_of (second_part input) ≡ Ok told
  pub holds : IsVerdict (rules_named rules) workload told.items (last_told told) verdict

-- what an input is found to be; one that is too long is refused first
abbrev pub IsFound : RulesName → List ℕ → Found → Type 0
IsFound rules input (Judged verdict) = IsJudged rules input verdict
IsFound rules input (BadWorkload bad) = HasBadWorkload input bad
IsFound rules input (BadTrace bad) =
    ((TRACE_LIMIT < length input) × (bad ≡ too_long TRACE_LIMIT input)) ⊎ HasBadTrace input bad

-- the source gave an input that is found to be this; where it tells, this is what it had
pub record GaveFound (rules : RulesName) (before after : Option (List ℕ)) (found : Found) : Type 0 where
  pub input : List ℕ
  pub reads : ReadsInput TRACE_LIMIT before after input
  pub is : IsFound rules input found
  pub told : IfSome before (λ whole. IsFound rules whole found)
