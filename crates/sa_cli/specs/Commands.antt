-- What each command answers.
use Rattle.std.specs.Prelude.{◌≡◌, ⊤, ℕ, ◌+◌, List, [], Option, Some, None}
use Rattle.sa_base.specs.declared.record.Item.{Item}
use Rattle.sa_io.specs.Faults.{HasRisen}
use Rattle.sa_io.specs.Input.{LosesAtMost}
use Rattle.sa_sched.specs.Order.{RoundRobin}
use Rattle.sa_gen.specs.Generated.{generated}
use Rattle.sa_trace.specs.TraceText.{trace_text, last_line_of}
use Rattle.sa_workload.specs.Text.{IsText}
use Rattle.sa_workload.specs.Bad.{BadAt, BadAt1}
use Rattle.sa_command.specs.declared.command.ScheduleWord.{ScheduleWord}
use Rattle.sa_base.specs.declared.package.PackageName.{PackageName}
use Rattle.sa_command.specs.declared.command.Command.{Command}
use Rattle.sa_command.specs.declared.command.Command.TheVariants.{Run, Threads, Load, Migrate, Check, Vp, Debug, Explore, Kernel}
use Rattle.sa_cli.specs.declared.outcome.Ran.{Ran}
use Rattle.sa_cli.specs.declared.outcome.Ran.TheVariants.{Nothing}
use Rattle.sa_cli.specs.declared.outcome.Status.{Status}
use Rattle.sa_cli.specs.declared.outcome.Status.TheVariants.{BadWorkload, ReadFault, WriteFault, OutOfMemory, Migrated, Checked, Broken, BadTrace}
use Rattle.sa_input.specs.declared.limits.TheConstants.{WORKLOAD_LIMIT, TRACE_LIMIT, SCRIPT_LIMIT}
use Rattle.sa_cli.specs.Outcome.{history, RanHere, RanShared, LacksWorkload, WritesNothing}
use Rattle.sa_cli.specs.Input.{GaveText, GaveSliced}
use Rattle.sa_cli.specs.Refusals.{IsRefused}
use Rattle.sa_base.specs.declared.package.RulesName.{RulesName}
use Rattle.sa_check.specs.declared.verdict.Verdict.{Verdict}
use Rattle.sa_check.specs.declared.verdict.Verdict.TheVariants.{Legal}
use Rattle.sa_check.specs.declared.verdict.Verdict.TheVariants as check
use Rattle.sa_check.specs.Line.{line_of}
use Rattle.sa_cli.specs.declared.found.Found.TheVariants.{Judged}
use Rattle.sa_cli.specs.declared.found.Found.TheVariants as found
use Rattle.sa_cli.specs.Texts.{GaveFound}
use Rattle.sa_cli.specs.Schedules.{order_by}
use Rattle.sa_cli.specs.Packages.{fast_runs, runs_of}
use Rattle.sa_cli.specs.Answers.{World, Plan, RunAnswers, TookAll, TookSome}
use Rattle.sa_cli.specs.Shared.{AnswersThreads}
use Rattle.sa_cli.specs.Virtual.{AnswersVp}
use Rattle.sa_cli.specs.Debugging.{AnswersDebug}
use Rattle.sa_cli.specs.Exploring.{ExploreAnswers}
use Rattle.sa_cli.specs.Kernel.{LosesSome, AnswersKernel}

-- `run`: the workload is that of which the source gave the text, the user level that of the word, and the whole trace text
-- is written
abbrev pub run_plan : ScheduleWord → ℕ → PackageName → Plan
run_plan schedule budget user_level = record { runs = runs_of user_level; order = order_by schedule; budget = budget; shown = trace_text }

abbrev pub AnswersRun : Plan → World → World → List Item → Status → Type 0
AnswersRun plan old new items ReadFault = HasRisen old.reads new.reads × (items ≡ [])
AnswersRun plan old new items (BadWorkload bad) = IsRefused BadAt old.left bad × (items ≡ [])
AnswersRun plan old new items status = RunAnswers (GaveText IsText old.left new.left) plan old new items status

-- `load`: the workload is that of the number, the user level FastThreads, and the last line alone is written; nothing is read
abbrev pub load_plan : ℕ → Plan
load_plan budget = record { runs = fast_runs; order = λ w. RoundRobin; budget = budget; shown = last_line_of }

abbrev pub AnswersLoad : ℕ → ℕ → World → World → List Item → Status → Type 0
AnswersLoad number budget old new items status = RunAnswers (λ w. w ≡ generated number) (load_plan budget) old new items status

-- `migrate`: the text of the source's workload with this slice is written; nothing runs
pub record Migrates (slice : ℕ) (old new : World) (goes : List ℕ → Type 0) : Type 0 where
  pub text : List ℕ
  pub gave : GaveSliced slice old.left new.left text
  pub went : goes text

abbrev pub MigrateAnswers : ℕ → World → World → Status → Type 0
MigrateAnswers slice old new ReadFault = HasRisen old.reads new.reads
MigrateAnswers slice old new (BadWorkload bad) = IsRefused BadAt1 old.left bad
MigrateAnswers slice old new Migrated = Migrates slice old new (TookAll old new)
MigrateAnswers slice old new WriteFault = HasRisen old.writes new.writes × Migrates slice old new (TookSome old new)
MigrateAnswers slice old new OutOfMemory = ⊤
MigrateAnswers slice old new other = ⊥

-- `check`: the source gave two texts, and the line of the verdict by these rules is written; or one of them is refused
pub record Judges (rules : RulesName) (old new : World) (verdict : Verdict) (goes : List ℕ → Type 0) : Type 0 where
  pub gave : GaveFound rules old.left new.left (Judged verdict)
  pub went : goes (line_of rules verdict)

abbrev pub CheckAnswers : RulesName → World → World → Status → Type 0
CheckAnswers rules old new ReadFault = HasRisen old.reads new.reads
CheckAnswers rules old new (BadWorkload bad) = GaveFound rules old.left new.left (found.BadWorkload bad)
CheckAnswers rules old new (BadTrace bad) = GaveFound rules old.left new.left (found.BadTrace bad)
CheckAnswers rules old new Checked = Judges rules old new Legal (TookAll old new)
CheckAnswers rules old new (Broken event rule) = Judges rules old new (check.Broken event rule) (TookAll old new)
CheckAnswers rules old new WriteFault = HasRisen old.writes new.writes × ((v : Verdict) × Judges rules old new v (TookSome old new))
CheckAnswers rules old new OutOfMemory = ⊤
CheckAnswers rules old new other = ⊥

-- what each command answers, by what ran and the status
abbrev pub Answers : Command → World → World → Ran → Status → Type 0
Answers (Run schedule budget user_level) old new ran status = AnswersRun (run_plan schedule budget user_level) old new (history ran) status
Answers (Threads budget burst) old new ran status = AnswersThreads budget old new ran status
Answers (Load number budget) old new ran status = AnswersLoad number budget old new (history ran) status
Answers (Migrate slice) old new ran status = (ran ≡ Nothing) × MigrateAnswers slice old new status
Answers (Check rules) old new ran status = (ran ≡ Nothing) × CheckAnswers rules old new status
Answers (Vp schedule budget) old new ran status = AnswersVp schedule budget old new (history ran) status
Answers (Debug budget) old new ran status = AnswersDebug budget old new ran status
Answers (Explore states user_level give) old new ran status = (ran ≡ Nothing) × ExploreAnswers states user_level give old new status
Answers (Kernel schedule budget) old new ran status = AnswersKernel schedule budget old new (history ran) status

-- the same, where the words are a command
abbrev pub AnswersTo : Option Command → World → World → Ran → Status → Type 0
AnswersTo None old new ran status = ⊤
AnswersTo (Some command) old new ran status = Answers command old new ran status

-- which machine can have run: none where the words are no command, one that host threads shared under `threads`, and under
-- each other command one on this thread
abbrev pub CanHaveRun : Option Command → Ran → Type 0
CanHaveRun None ran = ran ≡ Nothing
CanHaveRun (Some (Threads budget burst)) ran = RanShared ran
CanHaveRun (Some other) ran = RanHere ran

-- the commands that read nothing of the source
abbrev pub ReadsNothing : Option Command → Type 0
ReadsNothing (Some (Load number budget)) = ⊤
ReadsNothing other = ⊥

-- the commands that search nothing, so that there is nothing to tell of how far a search has come
abbrev pub SearchesNothing : Option Command → Type 0
SearchesNothing (Some (Explore states user_level give)) = ⊥
SearchesNothing other = ⊤

-- the statuses with which a command writes nothing; `kernel` writes what it says before it reads on, so much may be written before a
-- read fails or memory runs out
abbrev pub WritesNothingBy : Option Command → Status → Type 0
WritesNothingBy (Some (Kernel schedule budget)) status = LacksWorkload status
WritesNothingBy other status = WritesNothing status

-- the most bytes that a command takes of its source at once: one more than the limit of its input, which for `kernel` is what stands in
-- front of the replies
abbrev pub most_read : Option Command → ℕ
most_read None = 0
most_read (Some (Load number budget)) = 0
most_read (Some (Check rules)) = TRACE_LIMIT + 1
most_read (Some (Debug budget)) = SCRIPT_LIMIT + 1
most_read (Some other) = WORKLOAD_LIMIT + 1

-- what the source loses at its front: at most so many bytes, but under `kernel` as many as its session takes
abbrev pub Loses : Option Command → Option (List ℕ) → Option (List ℕ) → Type 0
Loses (Some (Kernel schedule budget)) before after = LosesSome before after
Loses other before after = LosesAtMost (most_read other) before after
