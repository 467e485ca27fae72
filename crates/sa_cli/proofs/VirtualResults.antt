-- What the parts of `vp` say together.
use Rattle.std.proofs.Common.{◌≡◌, ◌⊎◌, ℕ, List, [], sym, subst, inl, inr}
use Rattle.sa_base.specs.Recorded.{Recorded}
use Rattle.sa_base.specs.declared.record.Item.{Item}
use Rattle.sa_base.specs.declared.record.End.{End}
use Rattle.sa_base.specs.declared.record.End.TheVariants as end
use Rattle.sa_spaces.specs.Workload.{WorkloadView}
use Rattle.sa_workload.specs.Text.{IsText}
use Rattle.sa_workload.specs.Bad.{BadAt}
use Rattle.sa_sched.specs.Order.{Order}
use Rattle.sa_command.specs.declared.command.ScheduleWord.{ScheduleWord}
use Rattle.sa_vp.specs.Run.{RunsTo, RunsSoFar}
use Rattle.sa_cli.specs.declared.outcome.Ran.{Ran}
use Rattle.sa_cli.specs.declared.outcome.Ran.TheVariants.{Plain}
use Rattle.sa_cli.specs.declared.outcome.Status.{Status}
use Rattle.sa_cli.specs.declared.outcome.Status.TheVariants.{AllDone, BadWorkload, Stuck, Budget, ReadFault, WriteFault, OutOfMemory}
use Rattle.sa_cli.specs.Outcome.{status_of_end, history, HasEnded}
use Rattle.sa_cli.specs.Input.{GaveText}
use Rattle.sa_cli.specs.Schedules.{order_by}
use Rattle.sa_cli.specs.Answers.{World, TookAll, TookSome, Writes}
use Rattle.sa_cli.specs.Virtual.{run_text, VpEnded, VpCame, AnswersVp}
use Rattle.sa_cli.proofs.ByStatus.{by-writes, Says}

module _ (schedule : ScheduleWord) (budget : ℕ) (old new : World) where
  -- a run that ended was written, or cut, or memory ran out
  ended-virtual : (items : List Item) (e : End) → VpEnded schedule budget old new (TookAll old new) items e
      → AnswersVp schedule budget old new items (status_of_end e)
  ended-virtual items end.AllDone ended = ended
  ended-virtual items _ ended = ended

  module _ (w : WorkloadView) (gave : GaveText IsText old.left new.left w) (order : Order) (is : order ≡ order_by schedule w) (items : List Item) where
    ran-so : (e : End) (events : ℕ) (lost : List ℕ) (goes : List ℕ → Type 0) → RunsTo w order budget items e events lost → goes (run_text items e events lost)
        → VpEnded schedule budget old new goes items e
    ran-so e events lost goes run went =
        record {
          workload = w;
          gave = gave;
          events = events;
          lost = lost;
          run = subst (λ (o : Order). RunsTo w o budget items e events lost) is run;
          went = went;
        }

    written-virtual : (e : End) (events : ℕ) (lost : List ℕ) (status : Status) → RunsTo w order budget items e events lost
        → Writes old.taken new.taken old.writes new.writes (run_text items e events lost) (status_of_end e) status
        → AnswersVp schedule budget old new items status
    written-virtual e events lost status run writes =
        by-writes (λ (v : Status). AnswersVp schedule budget old new items v) old new (run_text items e events lost) (status_of_end e) status writes
        (λ all. ended-virtual items e (ran-so e events lost (TookAll old new) run all))
        (λ risen some. (risen, (e, ran-so e events lost (TookSome old new) run some)))

  module _ (ran : Ran) (trace : Recorded) (plain : ran ≡ Plain trace) (w : WorkloadView) (gave : GaveText IsText old.left new.left w) (order : Order)
      (is : order ≡ order_by schedule w) where
    pub virtual-answers : (e : End) (events : ℕ) (lost : List ℕ) (status : Status) → RunsTo w order budget trace.items e events lost
        → Writes old.taken new.taken old.writes new.writes (run_text trace.items e events lost) (status_of_end e) status
        → AnswersVp schedule budget old new (history ran) status
    virtual-answers e events lost status run writes =
        subst (λ (r : Ran). AnswersVp schedule budget old new (history r) status) (sym plain)
        (written-virtual w gave order is trace.items e events lost status run writes)

    -- what is answered where memory ran out on the way
    pub virtual-stops : (status : Status) → status ≡ OutOfMemory → (trace.items ≡ []) ⊎ RunsSoFar w order budget trace.items
        → AnswersVp schedule budget old new (history ran) status
    virtual-stops status out run =
        subst (λ (r : Ran). AnswersVp schedule budget old new (history r) status) (sym plain)
        (subst (λ (v : Status). AnswersVp schedule budget old new trace.items v) (sym out) (stopped run))
      where
        stopped : (trace.items ≡ []) ⊎ RunsSoFar w order budget trace.items → (trace.items ≡ []) ⊎ VpCame schedule budget old new trace.items
        stopped (inl none) = inl none
        stopped (inr so_far) = inr (record { workload = w; gave = gave; run = subst (λ (o : Order). RunsSoFar w o budget trace.items) is so_far })

  -- what is said of the input
  pub virtual-says : (items : List Item) (status : Status) → AnswersVp schedule budget old new items status → Says IsText BadAt HasEnded old new status
  virtual-says items AllDone answers = (tt, (answers.workload, answers.gave))
  virtual-says items Stuck answers = (tt, (answers.workload, answers.gave))
  virtual-says items Budget answers = (tt, (answers.workload, answers.gave))
  virtual-says items OutOfMemory answers = tt
  virtual-says items (BadWorkload bad) answers = answers.0
  virtual-says items ReadFault answers = answers.0
  virtual-says items WriteFault answers = (answers.0, (answers.1.1.workload, answers.1.1.gave))
  virtual-says items _ answers = absurd answers
