-- What the parts of `threads` say together.
use Rattle.std.proofs.Common.{◌≡◌, ℕ, Option, Some, None, refl, sym, subst, inr}
use Rattle.std.specs.Prelude.{sum, MatchOption}
use Rattle.sa_base.specs.declared.record.End.{End}
use Rattle.sa_base.specs.declared.record.End.TheVariants as end
use Rattle.sa_spaces.specs.Workload.{WorkloadView, IsWorkload}
use Rattle.sa_trace.specs.TraceText.{trace_text}
use Rattle.sa_workload.specs.Text.{IsText}
use Rattle.sa_workload.specs.Bad.{BadAt}
use Rattle.sa_package_model.specs.Step.{fast_calls}
use Rattle.sa_seat.specs.Closed.{ClosedView}
use Rattle.sa_workers.specs.Run.{HasRun}
use Rattle.sa_package_runs.proofs.Shared.{shared-legal}
use Rattle.sa_cli.specs.declared.outcome.Ran.{Ran}
use Rattle.sa_cli.specs.declared.outcome.Ran.TheVariants.{Shared}
use Rattle.sa_cli.specs.declared.outcome.Status.{Status}
use Rattle.sa_cli.specs.declared.outcome.Status.TheVariants.{AllDone, BadWorkload, Stuck, Budget, ReadFault, WriteFault, OutOfMemory}
use Rattle.sa_cli.specs.Input.{GaveText}
use Rattle.sa_cli.specs.Outcome.{status_of_end, HasEnded}
use Rattle.sa_cli.specs.Answers.{World, TookAll, Writes}
use Rattle.sa_cli.specs.Shared.{WritesClosed, SharedRun, SharedEnded, AnswersThreads}
use Rattle.sa_cli.proofs.ByStatus.{by-writes, Says}

module _ (budget : ℕ) (old new : World) where
  -- a run that ended was written, or cut
  ended-shared : (ran : Ran) (e : End) → SharedEnded budget old new (TookAll old new) ran e → AnswersThreads budget old new ran (status_of_end e)
  ended-shared ran end.AllDone ended = ended
  ended-shared ran _ ended = ended

  written-shared : (ran : Ran) (shared : SharedRun budget old new ran) (e : End) (status : Status) → shared.closed.end ≡ Some e
      → Writes old.taken new.taken old.writes new.writes (trace_text shared.closed.items e (sum shared.closed.turns)) (status_of_end e) status
      → AnswersThreads budget old new ran status
  written-shared ran shared e status ends writes =
      by-writes (λ (v : Status). AnswersThreads budget old new ran v) old new (trace_text shared.closed.items e (sum shared.closed.turns)) (status_of_end e) status writes
      (λ all. ended-shared ran e (record { shared = shared; ends = ends; went = all }))
      (λ risen some. (risen, (e, record { shared = shared; ends = ends; went = some })))

  pub shared-answers : (w : WorkloadView) (closed : ClosedView) (ran : Ran) (status : Status) → ran ≡ Shared closed → GaveText IsText old.left new.left w
      → IsWorkload w
      → HasRun fast_calls w budget closed → WritesClosed old.taken new.taken old.writes new.writes closed status → AnswersThreads budget old new ran status
  shared-answers w closed ran status is gave ok run writes = go closed.end refl
    where
      shared : SharedRun budget old new ran
      shared = record { closed = closed; is = is; workload = w; gave = gave; run = run; legal = shared-legal w budget closed ok run }

      go : (o : Option End) → closed.end ≡ o → AnswersThreads budget old new ran status
      go None none =
          let stops : status ≡ OutOfMemory =
          subst (λ (o : Option End). MatchOption o (status ≡ OutOfMemory)
          (λ e. Writes old.taken new.taken old.writes new.writes (trace_text closed.items e (sum closed.turns)) (status_of_end e) status)) none writes in
          subst (λ (v : Status). AnswersThreads budget old new ran v) (sym stops) (inr (record { shared = shared; unended = none }))
      go (Some e) some =
          written-shared ran shared e status some
          (subst (λ (o : Option End). MatchOption o (status ≡ OutOfMemory)
          (λ e. Writes old.taken new.taken old.writes new.writes (trace_text closed.items e (sum closed.turns)) (status_of_end e) status)) some writes)

  -- what is said of the input
  pub shared-says : (ran : Ran) (status : Status) → AnswersThreads budget old new ran status → Says IsText BadAt HasEnded old new status
  shared-says ran AllDone answers = (tt, (answers.shared.workload, answers.shared.gave))
  shared-says ran Stuck answers = (tt, (answers.shared.workload, answers.shared.gave))
  shared-says ran Budget answers = (tt, (answers.shared.workload, answers.shared.gave))
  shared-says ran OutOfMemory answers = tt
  shared-says ran (BadWorkload bad) answers = answers.0
  shared-says ran ReadFault answers = answers.0
  shared-says ran WriteFault answers = (answers.0, (answers.1.1.shared.workload, answers.1.1.shared.gave))
  shared-says ran _ answers = absurd answers
