-- The records of an event of the package with thread priorities, and its parts.
use Rattle.std.proofs.Common.{◌≡◌, ℕ, ◌≤◌, refl, sym, ◌∙◌, ap, subst, List, [], ◌∷◌, ◌++◌, true, false}
use Rattle.std.specs.Prelude.{Bool, is_some, take_while}
use Rattle.std.specs.List.{prefix_len}
use Rattle.sa_base.specs.declared.number.ProcNo.{ProcNo}
use Rattle.sa_base.specs.declared.record.Record.{Record}
use Rattle.sa_base.specs.declared.record.Record.TheVariants.{Stop, Up, Move}
use Rattle.sa_spaces.specs.Workload.{WorkloadView}
use Rattle.sa_laws.specs.Event.{Event}
use Rattle.sa_laws.specs.Readings.{Readings, line_of}
use Rattle.sa_laws.specs.History.{event_begun, is_step}
use Rattle.sa_laws.specs.Shape.{own_part, closing_part, is_own}
use Rattle.sa_laws.specs.Turns.{IsClosing, IsTurn}
use Rattle.sa_laws.specs.Rules.{IsLawful}
use Rattle.sa_lemmas.proofs.ListReads.{take_then_drop}
use Rattle.sa_promises.proofs.lives.Moves.{lawful-moves}
use Rattle.sa_promises.proofs.packages.ThreadPriorities.{prio-tells}
use Rattle.sa_promises.proofs.covers.Passed.{Goes}
use Rattle.sa_promises.proofs.covers.Forms.{Turning, Form, interrupt-form, turn-form}
use Rattle.sa_ranks.specs.Rules.{prio_threads}
use Rattle.sa_ranks.specs.Steps.{RankedStepBy, IsRankedStep}
use Rattle.sa_ranks.specs.Locks.{KeepsTheLockIn}
use Rattle.sa_promises.proofs.ranked.Forms.{step-form}

pub event-goes : (w : WorkloadView) (r : Readings) (e : Event) → IsLawful prio_threads w r e → Goes w e.number e.proc (event_begun w e r) e.records
event-goes w r e law = record {
  moves = lawful-moves prio_threads prio-tells w r e law;
  tells = law.all_told.told;
  steps = law.stepwise.steps;
}

-- an event in its parts
pub record InForm (w : WorkloadView) (r : Readings) (e : Event) : Type 0 where
  pub first : Record
  pub own : List Record
  pub closing : List Record
  pub is : e.records ≡ first ∷ (own ++ closing)
  pub part : own_part e.records ≡ first ∷ own
  pub form : Form RankedStepBy w (event_begun w e r) e.proc first own
  pub low : is_some (line_of r e.proc) ≡ true → Turning (first ∷ own) × (is_step first ≡ false)
  pub closes : IsClosing closing

interrupts : (w : WorkloadView) (r : Readings) (p : ProcNo) (e : ℕ) (b : Bool) (x : Record) (ys : List Record) → IsTurn IsRankedStep b e w r p (x ∷ ys)
    → b ≡ true → Turning (x ∷ ys) × (is_step x ≡ false)
interrupts w r p e false x ys is raised = absurd (cc)
interrupts w r p e true (Stop u t a) ys is raised = ((interrupt-form (Stop u t a) ys is).0, refl)
interrupts w r p e true (Up u a) ys is raised = ((interrupt-form (Up u a) ys is).0, refl)
interrupts w r p e true (Move old new) ys is raised = ((interrupt-form (Move old new) ys is).0, refl)
interrupts w r p e true x ys is raised = absurd (is)

pub in-form : (w : WorkloadView) (r : Readings) (e : Event) → IsLawful prio_threads w r e → 1 ≤ e.number → InForm w r e
in-form w r e law from = one e.records refl where
  one : (xs : List Record) → e.records ≡ xs → InForm w r e
  one [] is = absurd (law.numbered.some is)
  one (x ∷ xs) is =
      let turns = law.turns_taken in
      let locks = law.locks_kept in
      let turn = subst (λ ys. IsTurn IsRankedStep (is_some (line_of r e.proc)) e.number w (event_begun w e r) e.proc (own_part ys)) is (turns.turn from) in
      record {
        first = x;
        own = take_while is_own xs;
        closing = closing_part (x ∷ xs);
        is = is ∙ ap (λ ys. x ∷ ys) (sym (take_then_drop (prefix_len is_own xs) xs));
        part = ap own_part is;
        form = turn-form RankedStepBy IsRankedStep w (event_begun w e r) e.proc e.number (is_some (line_of r e.proc)) x (take_while is_own xs)
            (step-form w (event_begun w e r) e.proc x (take_while is_own xs)
            (subst (λ ys. KeepsTheLockIn w (event_begun w e r) e.proc (own_part ys)) is (locks.step from))) turn;
        low = λ raised. interrupts w (event_begun w e r) e.proc e.number (is_some (line_of r e.proc)) x (take_while is_own xs) turn raised;
        closes = subst (λ ys. IsClosing (closing_part ys)) is (turns.closing from);
      }
