-- FastThreads' faults are legal: in its code, and at the touch of an absent page.
use Rattle.std.proofs.Common.{◌≡◌, ℕ, false, List, [], Option, None, refl, ap, inl, inr}
use Rattle.std.specs.Prelude.{not}
use Rattle.sa_base.specs.declared.context.Seen.{Seen}
use Rattle.sa_base.specs.declared.limits.TheConstants.{PACKAGE_PAGE}
use Rattle.sa_base.specs.declared.number.ActNo.{ActNo}
use Rattle.sa_base.specs.declared.number.ProcNo.{ProcNo}
use Rattle.sa_base.specs.declared.number.ThreadNo.{ThreadNo}
use Rattle.sa_instr.specs.declared.instr.Instr.TheVariants.{Io, Touch}
use Rattle.sa_spaces.specs.Workload.{WorkloadView}
use Rattle.sa_code.specs.Micro.{micro, stays, is_resident as is_page_resident}
use Rattle.sa_code.specs.declared.state.Frame.{Frame}
use Rattle.sa_code.specs.declared.state.MicroDone.TheVariants as micros
use Rattle.sa_fast.specs.Instruction.{run, instr_of}
use Rattle.sa_fast.specs.Threads.{block_at}
use Rattle.sa_fast.specs.declared.instruction.Ran.TheVariants as rans
use Rattle.sa_abstract.specs.Calls.{Contexts}
use Rattle.sa_abstract.specs.Setting.{Setting}
use Rattle.sa_package_model.specs.Step.{stepped}
use Rattle.sa_package_model.specs.declared.context.Context.{Context}
use Rattle.sa_package_model.specs.declared.context.ContextState.TheVariants.{Code, User}
use Rattle.sa_package_model.specs.declared.package.Package.{Package}
use Rattle.sa_laws.specs.Life.{Life, some_lock}
use Rattle.sa_laws.specs.Readings.{Readings}
use Rattle.sa_fast_laws.proofs.steps.Events.{IsLegal}
use Rattle.sa_fast_laws.proofs.steps.Scenes.{IsFastScene}
use Rattle.sa_fast_laws.proofs.user_steps.BlockSteps.{fault-legal}
use Rattle.sa_fast_laws.proofs.user_steps.FaultMoves.{code-fault, code-may_fault, code-locked, touch-fault, touch-may_fault, blocked_so}

module _ (set : Setting) (e : ℕ) (u : Package) (cs : Contexts Context) (w : WorkloadView) (r : Readings) (p : ProcNo) (a : ActNo) (life : Life)
    (seen : Seen) where
  -- IN THE CODE
  pub code-faults : (f : Frame) (fs : List Frame) (wk : Option ThreadNo)
      → IsFastScene set e u cs w r p a life (record { state = Code f; sections = fs; work = wk }) seen
      → is_page_resident seen.pages PACKAGE_PAGE ≡ false → micro u.shared.state f seen.pages ≡ stays u.shared.state f micros.Faulted []
      → IsLegal w set r p seen.event a cs (stepped u seen (record { state = Code f; sections = fs; work = wk }))
  code-faults f fs wk y absent is =
      fault-legal set e u cs w r p a life (record { state = Code f; sections = fs; work = wk }) seen y
      (code-fault set e u cs w r p a life seen f fs wk y.scene absent is) (record {
        fault = code-may_fault set e u cs w r p a life seen f fs wk y.scene absent is;
        free =
            λ io. record {
              free = λ bound. absurd
                  (let not_bound : not (some_lock life.locks) ≡ false = ap not (code-locked set e u cs w r p a life seen f fs wk y.scene absent is) in cc);
            };
      })

  -- AT A TOUCH
  module _ (t : ThreadNo) (y : IsFastScene set e u cs w r p a life (record { state = User t; sections = []; work = None }) seen) where
    touch-faults : (page : ℕ) → instr_of u.def (block_at u.shared.threads t.0) ≡ Touch page → is_page_resident seen.pages page ≡ false
        → IsLegal w set r p seen.event a cs (stepped u seen (record { state = User t; sections = []; work = None }))
    touch-faults page is absent =
        fault-legal set e u cs w r p a life (record { state = User t; sections = []; work = None }) seen y
        (touch-fault set e u cs w r p a life seen t y.scene page is absent)
        (record { fault = touch-may_fault set e u cs w r p a life seen t y.scene; free = λ io. record { free = λ bound. y.free refl } })

    -- ALL THAT BLOCKS, but the instruction for an I/O
    pub blocks-legal : ((m : ℕ) → instr_of u.def (block_at u.shared.threads t.0) ≡ Io m
        → IsLegal w set r p seen.event a cs (stepped u seen (record { state = User t; sections = []; work = None })))
        → (length : ℕ) (page : Option ℕ) → (run u.def u.fetch seen.pages u.shared None t).answer ≡ rans.Blocks length page
        → IsLegal w set r p seen.event a cs (stepped u seen (record { state = User t; sections = []; work = None }))
    blocks-legal ios len page at = elim (blocked_so set e u cs w r p a life seen t y.scene (instr_of u.def (block_at u.shared.threads t.0)) len page at) [
      | inl touch ↦ touch-faults touch.0 touch.1.0 touch.1.1
      | inr io ↦ ios io.0 io.1
    ]
