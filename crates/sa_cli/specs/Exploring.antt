-- What `explore` answers: the workload is that of which the source gave the text, and every order of its turns was gone through.
use Rattle.std.specs.Prelude.{◌≡◌, ⊤, ℕ, ◌||◌, Bool, true, false, if◌then◌else◌, List, Option, Some, None, is_some}
use Rattle.sa_spaces.specs.Workload.{WorkloadView}
use Rattle.sa_workload.specs.Text.{IsText}
use Rattle.sa_workload.specs.Bad.{BadAt}
use Rattle.sa_io.specs.Faults.{HasRisen}
use Rattle.sa_package_model.specs.Step.{fast_calls}
use Rattle.sa_prio_model.specs.Step.{prio_calls}
use Rattle.sa_package_outlook.specs.Contexts.{plain, plain_prio}
use Rattle.sa_explore_model.specs.declared.answer.Extent.{Extent}
use Rattle.sa_explore_model.specs.declared.answer.Extent.TheVariants.{All, Part}
use Rattle.sa_explore_model.specs.declared.answer.Found.{Found}
use Rattle.sa_explore_model.specs.declared.answer.Explored.{Explored}
use Rattle.sa_waits.specs.declared.wait.Wait.{Wait}
use Rattle.sa_explore_run.specs.Text.{explored_text}
use Rattle.sa_explore_run.specs.GivenText.{workload_text, IsReady}
use Rattle.sa_explore_run.specs.Answer.{IsAnswer}
use Rattle.sa_base.specs.declared.package.PackageName.{PackageName}
use Rattle.sa_base.specs.declared.package.PackageName.TheVariants.{FastThreads, Priorities}
use Rattle.sa_command.specs.declared.command.GiveWord.{GiveWord}
use Rattle.sa_command.specs.declared.command.GiveWord.TheVariants.{AllDone, Stuck, Endless}
use Rattle.sa_cli.specs.declared.outcome.Finding.{Finding}
use Rattle.sa_cli.specs.declared.outcome.Finding.TheVariants as say
use Rattle.sa_cli.specs.declared.outcome.Status.{Status}
use Rattle.sa_cli.specs.declared.outcome.Status.TheVariants as status
use Rattle.sa_cli.specs.Input.{GaveText}
use Rattle.sa_cli.specs.Refusals.{IsRefused}
use Rattle.sa_cli.specs.Answers.{World, TookAll, TookSome}

-- the search of a workload with the user level of a word found this, and these threads wait at the end of the schedule to a stuck end
abbrev pub Finds : PackageName → WorkloadView → ℕ → Explored → List Wait → Type 0
Finds FastThreads w states x waits = IsAnswer fast_calls plain w states x waits
Finds Priorities w states x waits = IsAnswer prio_calls plain_prio w states x waits

-- what was found of what a word asks for
abbrev pub found_by : GiveWord → Explored → Option Found
found_by AllDone x = x.all_done
found_by Stuck x = x.stuck
found_by Endless x = x.endless

-- what is written: all that was found, or the workload with the schedule that is asked for
abbrev pub told_text : Option GiveWord → WorkloadView → Explored → List Wait → List ℕ
told_text None w x waits = explored_text x waits
told_text (Some word) w x waits = workload_text w (found_by word x)

-- what `--give` writes is ready: nothing, or a text that can be read again
abbrev pub IsReadyText : Option GiveWord → WorkloadView → Explored → List ℕ → Type 0
IsReadyText None w x text = ⊤
IsReadyText (Some word) w x text = IsReady w (found_by word x) text

-- what is said of the workload: a stuck run before all, then whether something is left open
abbrev pub is_part : Extent → Bool
is_part All = false
is_part Part = true

abbrev pub finding_of : Explored → Finding
finding_of x = if is_some x.stuck then say.Stuck else (if is_part x.extent || is_some x.endless then say.Open else say.Clear)

-- the source gave the text of a workload; of its search this is to be written, and this is what is said of it
pub record GaveExplored (states : ℕ) (user_level : PackageName) (give : Option GiveWord) (before after : Option (List ℕ)) (bytes : List ℕ) (said : Finding)
    : Type 0 where
  pub workload : WorkloadView
  pub gave : GaveText IsText before after workload
  pub explored : Explored
  pub waits : List Wait
  pub finds : Finds user_level workload states explored waits
  pub text : bytes ≡ told_text give workload explored waits
  pub ready : IsReadyText give workload explored bytes
  pub finding : said ≡ finding_of explored

-- the text went to the sink in this way
pub record Explores (states : ℕ) (user_level : PackageName) (give : Option GiveWord) (old new : World) (goes : List ℕ → Type 0) (said : Finding)
    : Type 0 where
  pub text : List ℕ
  pub gave : GaveExplored states user_level give old.left new.left text said
  pub went : goes text

abbrev pub ExploreAnswers : ℕ → PackageName → Option GiveWord → World → World → Status → Type 0
ExploreAnswers states user_level give old new status.ReadFault = HasRisen old.reads new.reads
ExploreAnswers states user_level give old new (status.BadWorkload bad) = IsRefused BadAt old.left bad
ExploreAnswers states user_level give old new (status.Explored said) = Explores states user_level give old new (TookAll old new) said
ExploreAnswers states user_level give old new status.WriteFault =
    HasRisen old.writes new.writes × ((said : Finding) × Explores states user_level give old new (TookSome old new) said)
ExploreAnswers states user_level give old new status.OutOfMemory = ⊤
ExploreAnswers states user_level give old new other = ⊥
