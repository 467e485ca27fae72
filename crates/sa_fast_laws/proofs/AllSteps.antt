-- A step of FastThreads is legal, whatever state its context is in.
use Rattle.std.proofs.Common.{ℕ, List, Option, sym, subst}
use Rattle.sa_base.specs.declared.context.Seen.{Seen}
use Rattle.sa_base.specs.declared.number.ActNo.{ActNo}
use Rattle.sa_base.specs.declared.number.ProcNo.{ProcNo}
use Rattle.sa_base.specs.declared.number.ThreadNo.{ThreadNo}
use Rattle.sa_spaces.specs.Workload.{WorkloadView}
use Rattle.sa_code.specs.declared.state.Frame.{Frame}
use Rattle.sa_abstract.specs.Calls.{Contexts}
use Rattle.sa_abstract.specs.Setting.{Setting}
use Rattle.sa_package_model.specs.Step.{stepped}
use Rattle.sa_package_model.specs.declared.context.Context.{Context}
use Rattle.sa_package_model.specs.declared.context.ContextState.{ContextState}
use Rattle.sa_package_model.specs.declared.package.Package.{Package}
use Rattle.sa_laws.specs.Life.{Life}
use Rattle.sa_laws.specs.Readings.{Readings}
use Rattle.sa_fast_laws.proofs.steps.CodeSteps.{code-legal}
use Rattle.sa_fast_laws.proofs.steps.Events.{IsLegal}
use Rattle.sa_fast_laws.proofs.steps.GivingSteps.{give-legal, legal-put, settled-scene}
use Rattle.sa_fast_laws.proofs.steps.LookSteps.{look-legal, more-legal}
use Rattle.sa_fast_laws.proofs.steps.Scenes.{IsFastScene}
use Rattle.sa_fast_laws.proofs.steps.WorkSteps.{cont-legal, push-legal}
use Rattle.sa_fast_laws.proofs.user_steps.FaultSteps.{code-faults, blocks-legal}
use Rattle.sa_fast_laws.proofs.user_steps.IoSteps.{io-legal}
use Rattle.sa_fast_laws.proofs.user_steps.StepCases.{calm, give-is, more-is, settles_to, step-cases}
use Rattle.sa_fast_laws.proofs.user_steps.UserSteps.{instr-legal}

module _ (set : Setting) (e : ℕ) (u : Package) (w : WorkloadView) (r : Readings) (p : ProcNo) (a : ActNo) (life : Life) (seen : Seen) where
  abbrev IsLegalFrom : Contexts Context → Context → Type 0
  IsLegalFrom cs c = IsFastScene set e u cs w r p a life c seen → IsLegal w set r p seen.event a cs (stepped u seen c)

  pub step-legal : (cs : Contexts Context) (state : ContextState) (fs : List Frame) (wk : Option ThreadNo)
      → IsFastScene set e u cs w r p a life (record { state = state; sections = fs; work = wk }) seen
      → IsLegal w set r p seen.event a cs (stepped u seen (record { state = state; sections = fs; work = wk }))
  step-legal cs state fs wk fast = step-cases set e u w r p a life seen IsLegalFrom (record {
    code = λ ds f gs wn i y. code-legal set e u ds w r p a life seen f gs wn y (code-faults set e u ds w r p a life seen f gs wn y);
    cont = λ ds f gs wn i y. cont-legal set e u ds w r p a life seen f gs wn y;
    push = λ ds t one i y. push-legal set e u ds w r p a life seen t one y;
    more = λ ds t n i owes y. subst (IsLegal w set r p seen.event a ds) (sym (more-is u seen t n owes)) (more-legal set e u ds w r p a life seen t n y owes);
    give = λ ds i bulk y. subst (IsLegal w set r p seen.event a ds) (sym (give-is u seen bulk)) (give-legal set e u ds w r p a life seen y bulk);
    instr =
        λ ds t i y. instr-legal set e u ds w r p a life seen t y (blocks-legal set e u ds w r p a life seen t y (io-legal set e u ds w r p a life seen t y));
    look = λ ds looks i y. look-legal set e u ds w r p a life seen looks y;
    again = λ ds old t i z legal y. subst (IsLegal w set r p seen.event a ds) (sym z.step)
        (legal-put set e u ds w r p a life seen (calm old) (settles_to u seen t) (stepped u seen (settles_to u seen t))
        (legal (settled-scene set e u ds w r p a life seen old t y z.out z.no_copy z.carries z.yields z.looks z.settles)));
  }) cs state fs wk fast.scene fast
