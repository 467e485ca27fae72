-- The rules of an event of a running life, from what is so of its first record.
use Rattle.std.proofs.Common.{◌≡◌, true, List, ◌∷◌, Some, sym, ap, ◌∙◌, subst}
use Rattle.std.specs.List.{list_any}
use Rattle.sa_base.specs.declared.number.ActNo.{ActNo}
use Rattle.sa_base.specs.declared.number.ProcNo.{ProcNo}
use Rattle.sa_base.specs.declared.record.Record.{Record}
use Rattle.sa_spaces.specs.Workload.{WorkloadView}
use Rattle.sa_laws.specs.Demand.{IsFree, StepIsFree, StepIsFreeIf, BeginsFreely}
use Rattle.sa_laws.specs.Event.{Event}
use Rattle.sa_laws.specs.History.{is_step, event_begun}
use Rattle.sa_laws.specs.Life.{Life}
use Rattle.sa_laws.specs.Locks.{StandsAlone}
use Rattle.sa_laws.specs.Readings.{Readings, running_of, life_of, life_if, life_on}
use Rattle.sa_laws.specs.Shape.{own_part}
use Rattle.sa_laws.specs.Turns.{is_of_locks}
use Rattle.sa_user_laws.specs.Steps.{RulesHold}
use Rattle.sa_ranks.specs.Locks.{BeginsUnurged, IsUnurged, IsUnurgedIf, KeepsTheLockIf, KeepsTheLockIn, StepKeepsTheLock, RunsGreatest}
use Rattle.sa_ranks.specs.Rules.{prio_threads}
use Rattle.sa_ranks.specs.Steps.{RankedStepBy, RankedStepIn}

-- What is so of the first record x of a step of a life, with others xs after it: the row of the table; the law of the one
-- lock; that it is free and no pair waits for it; and the order by rank.
pub record IsRuled (w : WorkloadView) (r now : Readings) (p : ProcNo) (a : ActNo) (life : Life) (x : Record) (xs : List Record) : Type 0 where
  pub step : is_step x ≡ true
  pub table : RankedStepBy w now p a life x xs
  pub keeps : StepKeepsTheLock w now p life x
  pub alone : StandsAlone (list_any is_of_locks (x ∷ xs)) xs
  pub free : IsFree w r life x
  pub unurged : IsUnurged w r life x
  pub next : (behind : List Record) → RunsGreatest r (x ∷ behind)

pub rules-of : (w : WorkloadView) (r : Readings) (ev : Event) (a : ActNo) (life : Life) (x : Record) (xs behind : List Record)
    → running_of r ev.proc ≡ Some a → life_of r a ≡ Some life → ev.records ≡ x ∷ behind → own_part (x ∷ behind) ≡ x ∷ xs
    → IsRuled w r (event_begun w ev r) ev.proc a life x xs → RulesHold prio_threads w r ev (x ∷ xs)
rules-of w r ev a life x xs behind runs there records own i =
    let on : life_on r ev.proc ≡ Some life = ap (life_if r) runs ∙ there in
    let b = event_begun w ev r in
    record {
      steps = subst (λ o. RankedStepIn w b ev.proc o (life_on r ev.proc) (x ∷ xs)) (sym runs)
          (subst (λ o. RankedStepIn w b ev.proc (Some a) o (x ∷ xs)) (sym on) i.table);
      demand = record {
        demand_announced = record {
          step = λ later. subst (BeginsFreely w r ev.proc) (sym records)
              (subst (λ z. StepIsFreeIf z w r (life_on r ev.proc) x) (sym i.step) (subst (λ o. StepIsFree w r o x) (sym on) i.free));
        };
        step = λ later. subst (BeginsUnurged w r ev.proc) (sym records)
            (subst (λ z. IsUnurgedIf z w r (life_on r ev.proc) x) (sym i.step) (subst (λ o. IsUnurgedIf true w r o x) (sym on) i.unurged));
      };
      locks = record {
        step = λ later. subst (λ ys. KeepsTheLockIn w b ev.proc (own_part ys)) (sym records) (subst (KeepsTheLockIn w b ev.proc) (sym own) (
          subst (λ z. KeepsTheLockIf z w b ev.proc (life_on r ev.proc) x) (sym i.step) (subst (λ o. KeepsTheLockIf true w b ev.proc o x) (sym on) i.keeps),
          i.alone,
        ));
      };
      order = record { run = subst (RunsGreatest r) (sym records) (i.next behind) };
    }
