-- What the parts of a command say together.
use Rattle.std.proofs.Common.{◌≡◌, ◌⊎◌, ℕ, List, [], sym, subst, inl, inr}
use Rattle.sa_base.specs.Recorded.{Recorded}
use Rattle.sa_base.specs.declared.record.Item.{Item}
use Rattle.sa_base.specs.declared.record.End.{End}
use Rattle.sa_base.specs.declared.record.End.TheVariants as end
use Rattle.sa_spaces.specs.Workload.{WorkloadView, IsWorkload}
use Rattle.sa_workload.specs.Text.{IsText}
use Rattle.sa_run.specs.Run.{RunsTo, RunsUnended}
use Rattle.sa_command.specs.declared.command.Command.{Command}
use Rattle.sa_command.specs.declared.command.Command.TheVariants.{Migrate, Check, Explore}
use Rattle.sa_cli.specs.declared.outcome.Status.{Status}
use Rattle.sa_cli.specs.declared.outcome.Status.TheVariants.{AllDone, Usage, Stuck, Budget, WriteFault, OutOfMemory, Migrated}
use Rattle.sa_cli.specs.declared.outcome.Ran.{Ran}
use Rattle.sa_cli.specs.declared.outcome.Ran.TheVariants.{Plain}
use Rattle.sa_cli.specs.Outcome.{status_of_end, history}
use Rattle.sa_cli.specs.Input.{GaveText}
use Rattle.sa_cli.specs.Answers.{World, Plan, Ended, Came, RunAnswers, TookAll, TookSome, Writes}
use Rattle.sa_cli.specs.Commands.{AnswersRun, Answers}
use Rattle.sa_cli.proofs.ByStatus.{by-writes}
use Rattle.sa_cli.proofs.Packages.{AreKept}

-- what a run answers, `run` answers
pub run-answers : (plan : Plan) (old new : World) (items : List Item) (status : Status)
    → RunAnswers (GaveText IsText old.left new.left) plan old new items status
    → AnswersRun plan old new items status
run-answers plan old new items AllDone answers = answers
run-answers plan old new items Stuck answers = answers
run-answers plan old new items Budget answers = answers
run-answers plan old new items WriteFault answers = answers
run-answers plan old new items OutOfMemory answers = answers
run-answers plan old new items Usage answers = answers
run-answers plan old new items Migrated answers = answers
run-answers plan old new items _ answers = absurd answers

-- a run that ended was written, or cut
module _ (mine : WorkloadView → Type 0) (plan : Plan) (kept : AreKept plan.runs) (old new : World) where
  ended-written : (items : List Item) (e : End) → Ended mine plan (TookAll old new) items e
      → RunAnswers mine plan old new items (status_of_end e)
  ended-written items end.AllDone ended = ended
  ended-written items _ ended = ended

  -- what is promised of each run
  ended-so : (items : List Item) (w : WorkloadView) (e : End) (events : ℕ) (goes : List ℕ → Type 0) → mine w → IsWorkload w
      → RunsTo plan.runs.calls w (plan.order w) plan.budget items e events → goes (plan.shown items e events) → Ended mine plan goes items e
  ended-so items w e events goes is ok runs went =
      let both = kept.ended w (plan.order w) plan.budget items e events ok runs in
      record { workload = w; is = is; events = events; run = runs; legal = both.0; ends = both.1; went = went }

  came-so : (items : List Item) (w : WorkloadView) → mine w → IsWorkload w → RunsUnended plan.runs.calls w (plan.order w) plan.budget items
      → Came mine plan items
  came-so items w is ok runs =
      record { workload = w; is = is; run = runs; legal = kept.came w (plan.order w) plan.budget items ok runs.so_far; unended = kept.unended w (plan.order w) plan.budget items ok runs }

  written-answers : (items : List Item) (w : WorkloadView) (e : End) (events : ℕ) (status : Status) → mine w → IsWorkload w
      → RunsTo plan.runs.calls w (plan.order w) plan.budget items e events
      → Writes old.taken new.taken old.writes new.writes (plan.shown items e events) (status_of_end e) status
      → RunAnswers mine plan old new items status
  written-answers items w e events status is ok runs writes =
      by-writes (λ (v : Status). RunAnswers mine plan old new items v) old new (plan.shown items e events) (status_of_end e) status writes
      (λ all. ended-written items e (ended-so items w e events (TookAll old new) is ok runs all))
      (λ risen some. (risen, (e, ended-so items w e events (TookSome old new) is ok runs some)))

  -- what is answered of a run that ended, where the machine that ran has this trace
  pub ended-answers : (ran : Ran) (trace : Recorded) (w : WorkloadView) (e : End) (events : ℕ) (status : Status) → ran ≡ Plain trace → mine w → IsWorkload w
      → RunsTo plan.runs.calls w (plan.order w) plan.budget trace.items e events
      → Writes old.taken new.taken old.writes new.writes (plan.shown trace.items e events) (status_of_end e) status
      → RunAnswers mine plan old new (history ran) status
  ended-answers ran trace w e events status plain is ok runs writes =
      subst (λ (r : Ran). RunAnswers mine plan old new (history r) status) (sym plain)
      (written-answers trace.items w e events status is ok runs writes)

  -- what is answered where memory ran out on the way
  pub stopped-answers : (ran : Ran) (trace : Recorded) (w : WorkloadView) (status : Status) → ran ≡ Plain trace → status ≡ OutOfMemory
      → mine w → IsWorkload w → (trace.items ≡ []) ⊎ RunsUnended plan.runs.calls w (plan.order w) plan.budget trace.items
      → RunAnswers mine plan old new (history ran) status
  stopped-answers ran trace w status plain out is ok runs =
      subst (λ (r : Ran). RunAnswers mine plan old new (history r) status) (sym plain)
      (subst (λ (v : Status). RunAnswers mine plan old new trace.items v) (sym out) (elim runs [
        | inl none ↦ inl none
        | inr so_far ↦ inr (came-so trace.items w is ok so_far)
      ]))

-- no command is answered as words that are none
pub not-usage : (command : Command) (old new : World) (ran : Ran) → Answers command old new ran Usage → ⊥
not-usage (Migrate slice) old new ran answers = answers.1
not-usage (Check rules) old new ran answers = answers.1
not-usage (Explore states user_level give) old new ran answers = answers.1
not-usage _ old new ran answers = answers
