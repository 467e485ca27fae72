-- Where all stand, what is asked of the value and of the context can be done.
use Rattle.std.proofs.Common.{◌≡◌, ℕ, ◌≤◌, ◌<◌, [], ◌∷◌, Option, Some, None, IfSome, refl, sym, ap, subst, arith}
use Rattle.std.proofs.lemmas.List.Sums.{sum_by-cons}
use Rattle.sa_base.specs.declared.number.ThreadNo.{ThreadNo}
use Rattle.sa_base.specs.declared.limits.TheConstants.{MAX_THREADS, MAX_EVENTS}
use Rattle.sa_base.specs.declared.context.Seen.{Seen}
use Rattle.sa_base.specs.declared.context.Stopped.{Stopped}
use Rattle.sa_base.specs.declared.record.Note.{Note}
use Rattle.sa_base.specs.declared.record.Note.TheVariants.{Preempted, Unblocked}
use Rattle.sa_abstract.specs.Setting.{Setting}
use Rattle.sa_abstract.specs.Calls.{Contexts}
use Rattle.sa_abstract.specs.Keeps.{IsHandedOver, IsHanded}
use Rattle.sa_fast.specs.Threads.{block_at}
use Rattle.sa_fast.specs.Instruction.{CanRun, IsAt}
use Rattle.sa_package_model.specs.Conditions.{IsThread}
use Rattle.sa_driven_model.specs.declared.context.DrivenContext.{DrivenContext}
use Rattle.sa_driven_model.specs.declared.space.DrivenSpace.{DrivenSpace}
use Rattle.sa_driven_model.specs.Conditions.{CanIns, CanStep, CanBeTold, CanGo}
use Rattle.sa_driven_model.specs.Stands.{locks_of, IsStanding}
use Rattle.sa_driven_model.proofs.Places.{carried_free}
use Rattle.sa_driven_model.proofs.InsRule.{runs, alone, none_due}
use Rattle.sa_driven_model.proofs.Rules.{own_inside}
use Rattle.sa_driven_model.proofs.GoRule.{thread_at}

module _ (s : Setting) (e : ℕ) (u : DrivenSpace) (cs : Contexts DrivenContext) (h : IsStanding s e u cs) (a : ℕ) (c : DrivenContext) (is : cs a ≡ Some c) where
  own_below : (t : ThreadNo) → c.thread ≡ Some t → t.0 < MAX_THREADS
  own_below t at = let inside = own_inside s e u cs h a c is t at in omega (arith, inside, h.parts.blocks)

  pub own_locks : c.locks ≤ MAX_EVENTS
  own_locks =
      let few = h.within (a ∷ []) (tt, tt) in
      let sum = sum_by-cons (λ b. locks_of (cs b)) a [] in
      let mine : locks_of (cs a) ≡ c.locks = ap locks_of is in
      omega (arith, few, sum, mine)

  -- a step
  module _ (seen : Seen) (later : e < seen.event) (within : seen.event ≤ MAX_EVENTS) where
    run_can : (t : ThreadNo) → c.thread ≡ Some t → CanRun u.base.def u.base.shared None t
    run_can t at =
        let free = carried_free u.base.shared u.handed t.0 (h.somewhere t.0) (runs s e u cs h a c is t at) in
        record {
          below = own_below t at;
          at = thread_at s e u cs h a c is t at;
          nowhere = omega (arith, free.0);
          work = tt;
          mutexes = h.parts.sync.mutexes;
          semaphores = h.parts.sync.semaphores;
          cells = h.parts.sync.cells;
          joiners = h.parts.sync.joiners;
          few = λ k. let few = h.parts.counts k in omega (arith, few, later, within);
          threads = h.parts.threads;
          waiting = λ v waits. none_due s e u cs h v;
          unmade = λ v past. none_due s e u cs h v;
        }

    ins_can : (t : Option ThreadNo) → c.thread ≡ t → IfSome t (CanIns u seen)
    ins_can None at = tt
    ins_can (Some t) at = record { runs = run_can t at; alone = alone s e u cs h a c is t at seen.pages }

    pub step_can : CanStep u seen c
    step_can = record { thread = ins_can c.thread refl; locks = let few = own_locks in omega (arith, few); blocks = h.parts.blocks; handed = h.handed }

  -- its thread
  go_at : (t : Option ThreadNo) → c.thread ≡ t
      → IfSome t (λ n. (n.0 < MAX_THREADS) × IsAt u.base.def (block_at u.base.shared.threads n.0))
  go_at None at = tt
  go_at (Some t) at = (own_below t at, thread_at s e u cs h a c is t at)

  pub go_can : CanGo u c
  go_can = go_at c.thread refl

-- a notice
module _ (s : Setting) (e : ℕ) (u : DrivenSpace) (cs : Contexts DrivenContext) (h : IsStanding s e u cs) (a : ℕ) (c : DrivenContext) (is : cs a ≡ Some c) where
  thread_there : (b : ℕ) (d : DrivenContext) → cs b ≡ Some d → (t : Option ThreadNo) → d.thread ≡ t → IsThread t
  thread_there b d there None at = tt
  thread_there b d there (Some t) at = let inside = own_inside s e u cs h b d there t at in omega (arith, inside, h.parts.blocks)

  over_can : (b : ℕ) (held : Option (Stopped DrivenContext)) → IsHandedOver cs a b held → CanBeTold c held
  over_can b held handed =
      let d = handed.stopped.ctx in
      let few = h.within (a ∷ b ∷ []) ((handed.differ, tt), (tt, tt)) in
      let first = sum_by-cons (λ x. locks_of (cs x)) a (b ∷ []) in
      let second = sum_by-cons (λ x. locks_of (cs x)) b [] in
      let mine : locks_of (cs a) ≡ c.locks = ap locks_of is in
      let theirs : locks_of (cs b) ≡ d.locks = ap locks_of handed.theirs in
      subst (CanBeTold c) (sym handed.is)
      (record { thread = thread_there b d handed.theirs d.thread refl; locks = omega (arith, few, first, second, mine, theirs) })

  pub told_can : (note : Note) (held : Option (Stopped DrivenContext)) → IsHanded cs a note held → CanBeTold c held
  told_can (Preempted b) held handed = over_can b.0 held handed
  told_can (Unblocked b) held handed = over_can b.0 held handed
  told_can _ held handed = subst (CanBeTold c) (sym handed) tt
