-- Where nothing fails and the input is told, a command is done, or the input refused.
use Rattle.std.proofs.Common.{◌≡◌, ◌⊎◌, ℕ, List, Option, refl, inl, inr}
use Rattle.sa_base.specs.declared.package.PackageName.{PackageName}
use Rattle.sa_base.specs.declared.package.RulesName.{RulesName}
use Rattle.sa_base.specs.declared.record.Item.{Item}
use Rattle.sa_workload.specs.Text.{IsText, IsText1}
use Rattle.sa_workload.specs.Bad.{BadAt, BadAt1}
use Rattle.sa_command.specs.declared.command.Command.{Command}
use Rattle.sa_command.specs.declared.command.Command.TheVariants.{Run, Threads, Load, Migrate, Check, Vp, Debug, Explore, Kernel}
use Rattle.sa_command.specs.declared.command.GiveWord.{GiveWord}
use Rattle.sa_cli.specs.declared.outcome.Ran.{Ran}
use Rattle.sa_cli.specs.declared.outcome.Status.{Status}
use Rattle.sa_cli.specs.declared.outcome.Status.TheVariants.{AllDone, BadWorkload, Stuck, Budget, ReadFault, WriteFault, OutOfMemory, Migrated, Checked, Broken, BadTrace, Explored}
use Rattle.sa_cli.specs.Outcome.{HasEnded, HasExplored, history, status_of_found}
use Rattle.sa_cli.specs.Answers.{World, Plan}
use Rattle.sa_cli.specs.Commands.{run_plan, AnswersRun, AnswersLoad, MigrateAnswers, CheckAnswers, Answers}
use Rattle.sa_cli.specs.Complete.{NoWriteFailed, IsComplete}
use Rattle.sa_cli.specs.Exploring.{ExploreAnswers}
use Rattle.sa_cli.specs.Texts.{IsFound}
use Rattle.sa_check.specs.declared.verdict.Verdict.TheVariants.{Legal}
use Rattle.sa_check.specs.declared.verdict.Verdict.TheVariants as check
use Rattle.sa_cli.specs.declared.found.Found.TheVariants.{Judged}
use Rattle.sa_cli.specs.declared.found.Found.TheVariants as two
use Rattle.sa_cli.proofs.ByStatus.{Says, complete, SaysFound, found-complete}
use Rattle.sa_cli.proofs.Finds.{one-found}
use Rattle.sa_cli.proofs.KernelResults.{kernel-complete}
use Rattle.sa_cli.proofs.Scripts.{debug-debugs}
use Rattle.sa_cli.proofs.SharedResults.{shared-says}
use Rattle.sa_cli.proofs.VirtualResults.{virtual-says}
use Rattle.sa_cli.proofs.Inputs.{all-parted, first-parted}

-- WHAT IS SAID OF THE INPUT

run-says : (plan : Plan) (old new : World) (items : List Item) (status : Status) → AnswersRun plan old new items status
    → Says IsText BadAt HasEnded old new status
run-says plan old new items AllDone answers = (tt, (answers.workload, answers.is))
run-says plan old new items Stuck answers = (tt, (answers.workload, answers.is))
run-says plan old new items Budget answers = (tt, (answers.workload, answers.is))
run-says plan old new items OutOfMemory answers = tt
run-says plan old new items (BadWorkload bad) answers = answers.0
run-says plan old new items ReadFault answers = answers.0
run-says plan old new items WriteFault answers = (answers.0, (answers.1.1.workload, answers.1.1.is))
run-says plan old new items _ answers = absurd answers

migrate-says : (slice : ℕ) (old new : World) (status : Status) → MigrateAnswers slice old new status
    → Says IsText1 BadAt1 (λ s. s ≡ Migrated) old new status
migrate-says slice old new Migrated answers = (refl, (answers.gave.workload, answers.gave.gave))
migrate-says slice old new OutOfMemory answers = tt
migrate-says slice old new (BadWorkload bad) answers = answers
migrate-says slice old new ReadFault answers = answers
migrate-says slice old new WriteFault answers = (answers.0, (answers.1.gave.workload, answers.1.gave.gave))
migrate-says slice old new _ answers = absurd answers

explore-says : (states : ℕ) (user_level : PackageName) (give : Option GiveWord) (old new : World) (status : Status)
    → ExploreAnswers states user_level give old new status → Says IsText BadAt HasExplored old new status
explore-says states user_level give old new (Explored said) answers = (tt, (answers.gave.workload, answers.gave.gave))
explore-says states user_level give old new OutOfMemory answers = tt
explore-says states user_level give old new (BadWorkload bad) answers = answers
explore-says states user_level give old new ReadFault answers = answers
explore-says states user_level give old new WriteFault answers = (answers.0, (answers.1.1.gave.workload, answers.1.1.gave.gave))
explore-says states user_level give old new _ answers = absurd answers

check-says : (rules : RulesName) (old new : World) (status : Status) → CheckAnswers rules old new status
    → SaysFound (IsFound rules) status_of_found old new status
check-says rules old new Checked answers = (Judged Legal, refl, answers.gave.told)
check-says rules old new (Broken event rule) answers = (Judged (check.Broken event rule), refl, answers.gave.told)
check-says rules old new (BadWorkload bad) answers = (two.BadWorkload bad, refl, answers.told)
check-says rules old new (BadTrace bad) answers = (two.BadTrace bad, refl, answers.told)
check-says rules old new OutOfMemory answers = tt
check-says rules old new ReadFault answers = answers
check-says rules old new WriteFault answers = answers.0
check-says rules old new _ answers = absurd answers

-- `load` has no input
load-ends : (number budget : ℕ) (old new : World) (items : List Item) (status : Status)
    → AnswersLoad number budget old new items status → NoWriteFailed old new → HasEnded status ⊎ (status ≡ OutOfMemory)
load-ends number budget old new items AllDone answers writes = inl tt
load-ends number budget old new items Stuck answers writes = inl tt
load-ends number budget old new items Budget answers writes = inl tt
load-ends number budget old new items OutOfMemory answers writes = inr refl
load-ends number budget old new items WriteFault answers writes = absurd (writes answers.0)
load-ends number budget old new items _ answers writes = absurd answers

-- what a command answers is complete
pub answers-complete : (command : Command) (old new : World) (ran : Ran) (status : Status)
    → Answers command old new ran status → IsComplete command old new status
answers-complete (Run schedule budget user_level) old new ran status answers =
    complete IsText BadAt HasEnded old new all-parted status (run-says (run_plan schedule budget user_level) old new (history ran) status answers)
answers-complete (Threads budget burst) old new ran status answers =
    complete IsText BadAt HasEnded old new all-parted status (shared-says budget old new ran status answers)
answers-complete (Load number budget) old new ran status answers = load-ends number budget old new (history ran) status answers
answers-complete (Migrate slice) old new ran status answers =
    complete IsText1 BadAt1 (λ s. s ≡ Migrated) old new first-parted status (migrate-says slice old new status answers.1)
answers-complete (Check rules) old new ran status answers =
    found-complete (IsFound rules) status_of_found (one-found rules) old new status (check-says rules old new status answers.1)
answers-complete (Vp schedule budget) old new ran status answers =
    complete IsText BadAt HasEnded old new all-parted status (virtual-says schedule budget old new (history ran) status answers)
answers-complete (Debug budget) old new ran status answers = debug-debugs budget old new ran status answers
answers-complete (Explore states user_level give) old new ran status answers =
    complete IsText BadAt HasExplored old new all-parted status (explore-says states user_level give old new status answers.1)
answers-complete (Kernel schedule budget) old new ran status answers = kernel-complete schedule budget old new (history ran) status answers
