-- What a run answers: what came of the machine and of the sink, by the status.
use Rattle.std.specs.Prelude.{◌≡◌, ◌⊎◌, ℕ, List, [], Option, None}
use Rattle.std.specs.Io.KnownBytes.{Appends}
use Rattle.sa_base.specs.declared.record.Item.{Item}
use Rattle.sa_base.specs.declared.record.End.{End}
use Rattle.sa_base.specs.declared.record.End.TheVariants as end
use Rattle.sa_io.specs.Faults.{HasRisen, AppendsPrefix}
pub use Rattle.sa_io.specs.Streams.{World, world}
use Rattle.sa_spaces.specs.Workload.{WorkloadView}
use Rattle.sa_laws.specs.Legal.{EndOf}
use Rattle.sa_sched.specs.Order.{Order}
use Rattle.sa_run.specs.Run.{RunsTo, RunsUnended}
use Rattle.sa_package_runs.specs.Whole.{IsTurnByTurn, IsEnded}
use Rattle.sa_cli.specs.declared.outcome.Status.{Status}
use Rattle.sa_cli.specs.declared.outcome.Status.TheVariants.{AllDone, Stuck, Budget, WriteFault, OutOfMemory}
use Rattle.sa_cli.specs.Packages.{PackageRuns}

-- what is written of a run: its items, its end and its number of events as bytes
abbrev pub Shown : Type 0
Shown = List Item → End → ℕ → List ℕ

-- a run: the user level of each space, whose turn the workload's events are, within how many events, and what is written of it
pub record Plan : Type 1 where
  pub runs : PackageRuns
  pub order : WorkloadView → Order
  pub budget : ℕ
  pub shown : Shown

-- The run of one of these workloads ended so, and its text went to the sink in this way. It is exactly the machine's run,
-- turn by turn in the order and up to its first end; it is legal by the user level's rules, strict, and has ended as defined.
pub record Ended (ran : WorkloadView → Type 0) (plan : Plan) (goes : List ℕ → Type 0) (items : List Item) (end : End) : Type 0 where
  pub workload : WorkloadView
  pub is : ran workload
  pub events : ℕ
  pub run : RunsTo plan.runs.calls workload (plan.order workload) plan.budget items end events
  pub legal : IsTurnByTurn plan.runs.rules workload (plan.order workload) items events
  pub ends : IsEnded plan.runs.rules workload plan.budget items end events
  pub went : goes (plan.shown items end events)

-- The run of one of these workloads came so far. It is exactly the machine's run up to there, turn by turn in the order; it is
-- legal by the user level's rules, strict, and has not ended as defined.
pub record Came (ran : WorkloadView → Type 0) (plan : Plan) (items : List Item) : Type 0 where
  pub workload : WorkloadView
  pub is : ran workload
  pub run : RunsUnended plan.runs.calls workload (plan.order workload) plan.budget items
  pub legal : IsTurnByTurn plan.runs.rules workload (plan.order workload) items run.so_far.events
  pub unended : EndOf plan.runs.rules workload plan.budget items None

-- the sink took the whole text, or a prefix of it
abbrev pub TookAll : World → World → List ℕ → Type 0
TookAll old new text = Appends old.taken new.taken text

abbrev pub TookSome : World → World → List ℕ → Type 0
TookSome old new text = AppendsPrefix old.taken new.taken text

-- what a sink took of a text, by the status afterwards, where `done` is the one for the whole text
abbrev pub Writes : Option (List ℕ) → Option (List ℕ) → ℕ → ℕ → List ℕ → Status → Status → Type 0
Writes before after faults_before faults_after text done status =
    ((status ≡ done) × Appends before after text)
    ⊎ ((status ≡ WriteFault) × HasRisen faults_before faults_after × AppendsPrefix before after text)

-- the same, or memory ran out before
abbrev pub WritesOrStops : Option (List ℕ) → Option (List ℕ) → ℕ → ℕ → List ℕ → Status → Status → Type 0
WritesOrStops before after faults_before faults_after text done status =
    (status ≡ OutOfMemory) ⊎ Writes before after faults_before faults_after text done status

-- the answers of a run of one of these workloads
abbrev pub RunAnswers : (WorkloadView → Type 0) → Plan → World → World → List Item → Status → Type 0
RunAnswers ran plan old new items AllDone = Ended ran plan (TookAll old new) items end.AllDone
RunAnswers ran plan old new items Stuck = Ended ran plan (TookAll old new) items end.Stuck
RunAnswers ran plan old new items Budget = Ended ran plan (TookAll old new) items end.Budget
RunAnswers ran plan old new items WriteFault =
    HasRisen old.writes new.writes × ((e : End) × Ended ran plan (TookSome old new) items e)
RunAnswers ran plan old new items OutOfMemory = (items ≡ []) ⊎ Came ran plan items
RunAnswers ran plan old new items other = ⊥
