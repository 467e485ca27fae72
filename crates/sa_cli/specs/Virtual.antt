-- What `vp` answers: the workload is that of which the source gave the text; its run on virtual processors is legal, and the
-- trace text is written with the losses of each space after it.
use Rattle.std.specs.Prelude.{◌≡◌, ◌⊎◌, ℕ, List, [], ◌++◌}
use Rattle.sa_base.specs.declared.record.Item.{Item}
use Rattle.sa_base.specs.declared.record.End.{End}
use Rattle.sa_base.specs.declared.record.End.TheVariants as end
use Rattle.sa_io.specs.Faults.{HasRisen}
use Rattle.sa_spaces.specs.Workload.{WorkloadView}
use Rattle.sa_workload.specs.Text.{IsText}
use Rattle.sa_workload.specs.Bad.{BadAt}
use Rattle.sa_command.specs.declared.command.ScheduleWord.{ScheduleWord}
use Rattle.sa_vp.specs.Run.{RunsTo, RunsSoFar}
use Rattle.sa_trace.specs.TraceText.{trace_text}
use Rattle.sa_trace.specs.Losses.{losses_text}
use Rattle.sa_cli.specs.declared.outcome.Status.{Status}
use Rattle.sa_cli.specs.declared.outcome.Status.TheVariants.{AllDone, BadWorkload, Stuck, Budget, ReadFault, WriteFault, OutOfMemory}
use Rattle.sa_cli.specs.Input.{GaveText}
use Rattle.sa_cli.specs.Refusals.{IsRefused}
use Rattle.sa_cli.specs.Schedules.{order_by}
use Rattle.sa_cli.specs.Answers.{World, TookAll, TookSome}

-- what is written of a run
abbrev pub run_text : List Item → End → ℕ → List ℕ → List ℕ
run_text items end events lost = trace_text items end events ++ losses_text lost

-- the run ended so, and its text went to the sink in this way
pub record VpEnded (schedule : ScheduleWord) (budget : ℕ) (old new : World) (goes : List ℕ → Type 0) (items : List Item) (end : End) : Type 0 where
  pub workload : WorkloadView
  pub gave : GaveText IsText old.left new.left workload
  pub events : ℕ
  pub lost : List ℕ
  pub run : RunsTo workload (order_by schedule workload) budget items end events lost
  pub went : goes (run_text items end events lost)

-- the run came so far
pub record VpCame (schedule : ScheduleWord) (budget : ℕ) (old new : World) (items : List Item) : Type 0 where
  pub workload : WorkloadView
  pub gave : GaveText IsText old.left new.left workload
  pub run : RunsSoFar workload (order_by schedule workload) budget items

abbrev pub AnswersVp : ScheduleWord → ℕ → World → World → List Item → Status → Type 0
AnswersVp schedule budget old new items ReadFault = HasRisen old.reads new.reads × (items ≡ [])
AnswersVp schedule budget old new items (BadWorkload bad) = IsRefused BadAt old.left bad × (items ≡ [])
AnswersVp schedule budget old new items AllDone = VpEnded schedule budget old new (TookAll old new) items end.AllDone
AnswersVp schedule budget old new items Stuck = VpEnded schedule budget old new (TookAll old new) items end.Stuck
AnswersVp schedule budget old new items Budget = VpEnded schedule budget old new (TookAll old new) items end.Budget
AnswersVp schedule budget old new items WriteFault =
    HasRisen old.writes new.writes × ((e : End) × VpEnded schedule budget old new (TookSome old new) items e)
AnswersVp schedule budget old new items OutOfMemory = (items ≡ []) ⊎ VpCame schedule budget old new items
AnswersVp schedule budget old new items other = ⊥
