-- When a command does what it is for: where nothing fails, and the input is told.
use Rattle.std.specs.Prelude.{◌≡◌, ◌⊎◌, ⊤, ℕ, ◌≤◌, List, length, Option, Some, None}
use Rattle.sa_base.specs.declared.refusal.Bad.{Bad}
use Rattle.sa_spaces.specs.Workload.{WorkloadView}
use Rattle.sa_io.specs.Faults.{HasRisen}
use Rattle.sa_workload.specs.Text.{IsText, IsText1}
use Rattle.sa_workload.specs.Bad.{BadAt, BadAt1}
use Rattle.sa_workload.specs.Texts.{workload_part}
use Rattle.sa_command.specs.declared.command.Command.{Command}
use Rattle.sa_command.specs.declared.command.Command.TheVariants.{Run, Threads, Load, Migrate, Check, Vp, Debug, Explore, Kernel}
use Rattle.sa_cli.specs.declared.outcome.Status.{Status}
use Rattle.sa_cli.specs.declared.outcome.Status.TheVariants.{BadWorkload, OutOfMemory, Migrated}
use Rattle.sa_input.specs.declared.limits.TheConstants.{WORKLOAD_LIMIT}
use Rattle.sa_cli.specs.Input.{Texts}
use Rattle.sa_input.specs.Refusals.{Badness, IsInputRefused}
use Rattle.sa_base.specs.declared.package.RulesName.{RulesName}
use Rattle.sa_cli.specs.declared.found.Found.{Found}
use Rattle.sa_cli.specs.Texts.{IsFound}
use Rattle.sa_cli.specs.Outcome.{HasEnded, HasExplored, HasTalked, status_of_found}
use Rattle.sa_cli.specs.Answers.{World}
use Rattle.sa_cli.specs.Debugging.{Scripted, IsScripted, status_of_scripted}

abbrev pub NoReadFailed : World → World → Type 0
NoReadFailed old new = ¬ HasRisen old.reads new.reads

abbrev pub NoWriteFailed : World → World → Type 0
NoWriteFailed old new = ¬ HasRisen old.writes new.writes

-- an accepted input is run or written anew, unless memory runs out
abbrev pub Takes : Texts → World → World → Status → Type 0 → Type 0
Takes is_text old new status done =
    (input : List ℕ) (w : WorkloadView) → old.left ≡ Some input → is_text input w → length input ≤ WORKLOAD_LIMIT
    → NoReadFailed old new → NoWriteFailed old new → done ⊎ (status ≡ OutOfMemory)

-- any other input is refused, unless memory runs out
abbrev pub Refuses : Badness → World → World → Status → Type 0
Refuses is_bad old new status =
    (input : List ℕ) (bad : Bad) → old.left ≡ Some input → IsInputRefused is_bad input bad
    → NoReadFailed old new → (status ≡ BadWorkload bad) ⊎ (status ≡ OutOfMemory)

-- two texts are answered with what they are found to be by these rules, unless memory runs out
abbrev pub Finds : RulesName → World → World → Status → Type 0
Finds rules old new status =
    (input : List ℕ) (found : Found) → old.left ≡ Some input → IsFound rules input found
    → NoReadFailed old new → NoWriteFailed old new → (status ≡ status_of_found found) ⊎ (status ≡ OutOfMemory)

-- a workload and a script are answered with what they are found to be, unless memory runs out
abbrev pub Debugs : World → World → Status → Type 0
Debugs old new status =
    (input : List ℕ) (found : Scripted) → old.left ≡ Some input → IsScripted input found
    → NoReadFailed old new → NoWriteFailed old new → (status ≡ status_of_scripted found) ⊎ (status ≡ OutOfMemory)

-- a workload in front of replies is run until it ends or a reply is refused, unless memory runs out
abbrev pub Talks : World → World → Status → Type 0
Talks old new status =
    (input : List ℕ) (w : WorkloadView) → old.left ≡ Some input → IsText (workload_part input) w → length (workload_part input) ≤ WORKLOAD_LIMIT
    → NoReadFailed old new → NoWriteFailed old new → HasTalked status ⊎ (status ≡ OutOfMemory)

-- anything else in front is refused, unless memory runs out
abbrev pub RefusesFront : World → World → Status → Type 0
RefusesFront old new status =
    (input : List ℕ) (bad : Bad) → old.left ≡ Some input → IsInputRefused BadAt (workload_part input) bad
    → NoReadFailed old new → (status ≡ BadWorkload bad) ⊎ (status ≡ OutOfMemory)

abbrev pub IsComplete : Command → World → World → Status → Type 0
IsComplete (Run schedule budget user_level) old new status = Takes IsText old new status (HasEnded status) × Refuses BadAt old new status
IsComplete (Threads budget burst) old new status = Takes IsText old new status (HasEnded status) × Refuses BadAt old new status
IsComplete (Load number budget) old new status = NoWriteFailed old new → HasEnded status ⊎ (status ≡ OutOfMemory)
IsComplete (Migrate slice) old new status = Takes IsText1 old new status (status ≡ Migrated) × Refuses BadAt1 old new status
IsComplete (Check rules) old new status = Finds rules old new status
IsComplete (Vp schedule budget) old new status = Takes IsText old new status (HasEnded status) × Refuses BadAt old new status
IsComplete (Debug budget) old new status = Debugs old new status
IsComplete (Explore states user_level give) old new status = Takes IsText old new status (HasExplored status) × Refuses BadAt old new status
IsComplete (Kernel schedule budget) old new status = Talks old new status × RefusesFront old new status

abbrev pub IsCompleteTo : Option Command → World → World → Status → Type 0
IsCompleteTo None old new status = ⊤
IsCompleteTo (Some command) old new status = IsComplete command old new status
