-- What `threads` answers: its history is what turns and commits made of the workload's opening, in whatever order the threads
-- got the lock.
use Rattle.std.specs.Prelude.{◌≡◌, ◌⊎◌, ℕ, List, sum, MatchOption, Option, Some, None}
use Rattle.sa_base.specs.declared.record.End.{End}
use Rattle.sa_base.specs.declared.record.End.TheVariants as end
use Rattle.sa_io.specs.Faults.{HasRisen}
use Rattle.sa_trace.specs.TraceText.{trace_text}
use Rattle.sa_spaces.specs.Workload.{WorkloadView}
use Rattle.sa_workload.specs.Text.{IsText}
use Rattle.sa_workload.specs.Bad.{BadAt}
use Rattle.sa_package_model.specs.Step.{fast_calls}
use Rattle.sa_seat.specs.Closed.{ClosedView}
use Rattle.sa_workers.specs.Run.{HasRun}
use Rattle.sa_workers.specs.declared.runs.Limits.{Limits}
use Rattle.sa_package_runs.specs.Threads.{IsLegalHistory}
use Rattle.sa_command.specs.declared.command.Command.{Command}
use Rattle.sa_command.specs.declared.command.Command.TheVariants.{Threads}
use Rattle.sa_cli.specs.declared.outcome.Ran.{Ran}
use Rattle.sa_cli.specs.declared.outcome.Ran.TheVariants.{Nothing, Shared}
use Rattle.sa_cli.specs.declared.outcome.Status.{Status}
use Rattle.sa_cli.specs.declared.outcome.Status.TheVariants.{AllDone, BadWorkload, Stuck, Budget, ReadFault, WriteFault, OutOfMemory}
use Rattle.sa_cli.specs.Input.{GaveText}
use Rattle.sa_cli.specs.Refusals.{IsRefused}
use Rattle.sa_cli.specs.Outcome.{status_of_end}
use Rattle.sa_cli.specs.Answers.{World, TookAll, TookSome, Writes}

-- what `threads` is asked for, where that is the command
abbrev pub limits_of : Option Command → Option Limits
limits_of (Some (Threads budget burst)) = Some (record { budget = budget; burst = burst })
limits_of _ = None

-- the text of a run, which goes to the sink where the run has an end
abbrev pub WritesClosed : Option (List ℕ) → Option (List ℕ) → ℕ → ℕ → ClosedView → Status → Type 0
WritesClosed before after faults_before faults_after closed status =
    MatchOption closed.end (status ≡ OutOfMemory)
    (λ e. Writes before after faults_before faults_after (trace_text closed.items e (sum closed.turns)) (status_of_end e) status)

-- The source's workload was run, and this is what is left of the machine: its history is a legal run, with its end and its
-- counts.
pub record SharedRun (budget : ℕ) (old new : World) (ran : Ran) : Type 0 where
  pub closed : ClosedView
  pub is : ran ≡ Shared closed
  pub workload : WorkloadView
  pub gave : GaveText IsText old.left new.left workload
  pub run : HasRun fast_calls workload budget closed
  pub legal : IsLegalHistory workload budget closed

-- the shared run ended so, and its text went to the sink in this way
pub record SharedEnded (budget : ℕ) (old new : World) (goes : List ℕ → Type 0) (ran : Ran) (end : End) : Type 0 where
  pub shared : SharedRun budget old new ran
  pub ends : shared.closed.end ≡ Some end
  pub went : goes (trace_text shared.closed.items end (sum shared.closed.turns))

-- the shared run came so far, without an end
pub record SharedUnended (budget : ℕ) (old new : World) (ran : Ran) : Type 0 where
  pub shared : SharedRun budget old new ran
  pub unended : shared.closed.end ≡ None

abbrev pub AnswersThreads : ℕ → World → World → Ran → Status → Type 0
AnswersThreads budget old new ran ReadFault = HasRisen old.reads new.reads × (ran ≡ Nothing)
AnswersThreads budget old new ran (BadWorkload bad) = IsRefused BadAt old.left bad × (ran ≡ Nothing)
AnswersThreads budget old new ran AllDone = SharedEnded budget old new (TookAll old new) ran end.AllDone
AnswersThreads budget old new ran Stuck = SharedEnded budget old new (TookAll old new) ran end.Stuck
AnswersThreads budget old new ran Budget = SharedEnded budget old new (TookAll old new) ran end.Budget
AnswersThreads budget old new ran WriteFault =
    HasRisen old.writes new.writes × ((e : End) × SharedEnded budget old new (TookSome old new) ran e)
AnswersThreads budget old new ran OutOfMemory = (ran ≡ Nothing) ⊎ SharedUnended budget old new ran
AnswersThreads budget old new ran other = ⊥
