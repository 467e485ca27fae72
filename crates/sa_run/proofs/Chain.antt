-- A run goes on by one turn.
use Rattle.std.proofs.Common.{◌≡◌, ℕ, ◌+◌, ◌≤◌, None, sym, ap, ◌∙◌, subst, add-one}
use Rattle.sa_base.specs.declared.number.ProcNo.{ProcNo}
use Rattle.sa_spaces.specs.Workload.{WorkloadView}
use Rattle.sa_abstract.specs.Calls.{Calls}
use Rattle.sa_assign.specs.Reaim.{proc_no}
use Rattle.sa_sched.specs.Order.{Order, processor_at}
use Rattle.sa_sched.specs.Turns.{Turns, start, turned, turned_often, next_processor}
use Rattle.sa_sched.specs.Laws.{TurnsAreInOrder}
use Rattle.sa_core_model.specs.Machine.{Machine}
use Rattle.sa_core_model.specs.Run.{IsMove}
use Rattle.sa_core_model.specs.Run.Move.{turn}
use Rattle.sa_core_model.specs.End.{end_of}
use Rattle.sa_run.specs.Run.{TurnsTo}

module _ {U C : Type 0} (f : Calls U C) where
  -- one turn more, of the processor that the schedule gives
  pub one-more : (w : WorkloadView) (order : Order) (budget k : ℕ) (m after : Machine U C) (s : Turns) (p : ProcNo)
      → TurnsAreInOrder → 1 ≤ w.processors → s ≡ turned_often (start order w.processors) k → p.0 ≡ next_processor s
      → TurnsTo f w order budget k m → end_of f budget m ≡ None → IsMove f m (turn p) after → TurnsTo f w order budget (k + 1) after
  one-more w order budget k m after s p in_order some at gives so_far open_still made =
      let is : p.0 ≡ processor_at order w.processors (k + 1) = gives ∙ ap next_processor at ∙ in_order order w.processors k some in
      subst (λ (n : ℕ). TurnsTo f w order budget n after) (sym (add-one k))
      (m, so_far, open_still, subst (λ (q : ℕ). IsMove f m (turn (proc_no q)) after) is made)

-- the schedule after it
pub schedule-more : (order : Order) (processors k : ℕ) (s t : Turns) → s ≡ turned_often (start order processors) k → t ≡ turned s
    → t ≡ turned_often (start order processors) (k + 1)
schedule-more order processors k s t at is =
    is ∙ ap turned at ∙ ap (turned_often (start order processors)) (sym (add-one k))
