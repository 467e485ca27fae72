-- Where all stand, the package can do what is asked of it.
use Rattle.std.proofs.Common.{◌≡◌, ℕ, ◌≤◌, ◌<◌, Option, Some, None, IfSome, refl, sym, ap, ◌∙◌, subst, arith}
use Rattle.sa_base.specs.declared.number.ThreadNo.{ThreadNo}
use Rattle.sa_base.specs.declared.limits.TheConstants.{MAX_EVENTS}
use Rattle.sa_base.specs.declared.context.Seen.{Seen}
use Rattle.sa_base.specs.declared.context.Stopped.{Stopped}
use Rattle.sa_base.specs.declared.record.Note.{Note}
use Rattle.sa_base.specs.declared.record.Note.TheVariants.{Preempted, Unblocked}
use Rattle.sa_abstract.specs.Setting.{Setting}
use Rattle.sa_abstract.specs.Calls.{Contexts}
use Rattle.sa_abstract.specs.Keeps.{IsSeen, IsHandedOver, IsHanded, StaysLocal}
use Rattle.sa_lists.proofs.Changes.{home-inside}
use Rattle.sa_fast.specs.Instruction.{CanRun}
use Rattle.sa_fast.specs.Rest.{one_if, one_of}
use Rattle.sa_package_model.specs.declared.context.Context.{Context}
use Rattle.sa_package_model.specs.declared.context.ContextState.{ContextState}
use Rattle.sa_package_model.specs.declared.context.ContextState.TheVariants.{Code, Work, Hint, Return, User, Look}
use Rattle.sa_package_model.specs.declared.package.Package.{Package}
use Rattle.sa_package_model.specs.Context.{carried_by, section_in}
use Rattle.sa_package_model.specs.Conditions.{IsThread, CanGo, CanGoAt, CanAct, CanStep, CanTakeOver, CanBeTold}
use Rattle.sa_package_model.specs.Rules.{thread_alone}
use Rattle.sa_package_model.specs.Stands.{IsState, IsStanding}
use Rattle.sa_package_model.proofs.Holding.{own_work, own_runs, own_thread, own_made, own_below}
use Rattle.sa_package_model.specs.Hands.{threads_of}
use Rattle.sa_package_model.specs.Step.{local_at}
use Rattle.sa_package_model.proofs.Views.{between_threads, carried_less}
use Rattle.sa_fast.proofs.WorkSteps.{one_same}
use Rattle.sa_package_model.proofs.CodeRule.{code_can}
use Rattle.sa_package_model.proofs.WorkRule.{work_can}
use Rattle.sa_package_model.proofs.TakeRule.{take_over_can}

module _ (s : Setting) (e : ℕ) (u : Package) (cs : Contexts Context) (h : IsStanding s e u cs) (a : ℕ) (c : Context) (is : cs a ≡ Some c) where
  -- a step
  module _ (f : ℕ) (later : e < f) (within : f ≤ MAX_EVENTS) where
    thread_runs : (t : Option ThreadNo) → section_in c.state ≡ None → carried_by c.state ≡ t → IfSome t (λ n. CanRun u.def u.shared c.work n)
    thread_runs None outside carries = tt
    thread_runs (Some n) outside carries = own_runs s e u cs h a c is f later within n (λ x.
        let alone : one_of (thread_alone (section_in c.state) (carried_by c.state)) x ≡ one_if n.0 x =
        ap (λ o. one_of (thread_alone o (carried_by c.state)) x) outside ∙ ap (λ o. one_of o x) carries in
        omega arith)

    acts : (state : ContextState) → c.state ≡ state → CanAct u c state
    acts (Code g) at = code_can s e u cs h a c is g at
    acts (Work t) at = work_can s e u cs h a c is t (ap section_in at) (ap carried_by at)
    acts (Hint t) at =
        record { works = work_can s e u cs h a c is t (ap section_in at) (ap carried_by at); thread = thread_runs t (ap section_in at) (ap carried_by at) }
    acts Return at = record { works = work_can s e u cs h a c is None (ap section_in at) (ap carried_by at); thread = tt }
    acts (User t) at = thread_runs (Some t) (ap section_in at) (ap carried_by at)
    acts (Look looks) at = subst IsState at (h.contexts a c is).state

    pub step_can : (seen : Seen) → IsSeen s seen → CanStep u seen c
    step_can seen sees = record {
      code = h.code;
      threads = h.parts.threads;
      proc = home-inside u.shared.state.lists u.processors seen.proc.0 h.parts.lists (let processors = h.made.processors in omega arith);
      work = own_work s e u cs h a c is;
      acts = acts c.state refl;
    }

  -- where it is, and a run of local instructions
  pub seat_can : IsThread (carried_by c.state)
  seat_can = thread_there c.state refl where
    thread_there : (state : ContextState) → c.state ≡ state → IsThread (carried_by state)
    thread_there state at =
        subst (λ x. IsThread (carried_by x)) at
        (own_thread s e u cs h a c is (carried_by c.state) (λ x. let less = carried_less c.state c.sections x in omega arith))

  pub go_can : (n : ℕ) → StaysLocal s n (local_at u c.state) → CanGo u c
  go_can n local = go_at c.state refl local where
    go_at : (state : ContextState) → c.state ≡ state → StaysLocal s n (local_at u state) → CanGoAt u c.state
    go_at (Code g) at local = absurd local
    go_at (Work t) at local = absurd local
    go_at (Hint t) at local = absurd local
    go_at Return at local = absurd local
    go_at (User t) at local =
        let mine : 1 ≤ threads_of u.shared.works (Some c) t.0 =
        (let all = between_threads c (Some t) (ap section_in at) (ap carried_by at) u.shared.works t.0 in let one = one_same t.0 t.0 refl in omega arith) in
        subst (CanGoAt u) (sym at) (own_below s e u cs h a c is t.0 mine, h.parts.at t.0 (own_made s e u cs h a c is t.0 mine))
    go_at (Look looks) at local = absurd local

  -- a notice
  handed_can : (b : ℕ) (held : Option (Stopped Context)) → IsHandedOver cs a b held → IfSome held (λ x. CanTakeOver u c x.ctx)
  handed_can b held handed =
      subst (λ o. IfSome o (λ (x : Stopped Context). CanTakeOver u c x.ctx)) (sym handed.is)
      (take_over_can s e u cs h a b c handed.stopped.ctx is handed.theirs handed.differ)

  pub told_can : (note : Note) (held : Option (Stopped Context)) → IsHanded cs a note held → CanBeTold u c note held
  told_can (Preempted b) held handed = handed_can b.0 held handed
  told_can (Unblocked b) held handed = handed_can b.0 held handed
  told_can _ held handed = tt
