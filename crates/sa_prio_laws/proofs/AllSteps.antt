-- A step of the package with thread priorities is legal, whatever state its context is in.
use Rattle.std.proofs.Common.{◌≡◌, ℕ, ◌≤◌, ◌<◌, Bool, true, false, ◌||◌, List, [], ◌∷◌, Option, Some, None, is_some, refl, sym, ap, ◌∙◌, subst, inl}
use Rattle.sa_base.specs.declared.context.Seen.{Seen}
use Rattle.sa_base.specs.declared.limits.TheConstants.{MAX_EVENTS}
use Rattle.sa_base.specs.declared.number.ActNo.{ActNo}
use Rattle.sa_base.specs.declared.number.ProcNo.{ProcNo}
use Rattle.sa_base.specs.declared.number.ThreadNo.{ThreadNo}
use Rattle.sa_spaces.specs.Workload.{WorkloadView}
use Rattle.sa_code.specs.declared.state.Frame.{Frame}
use Rattle.sa_abstract.specs.Calls.{Contexts}
use Rattle.sa_abstract.specs.Setting.{Setting}
use Rattle.sa_package_model.specs.Context.{has_bulk, settled_to, stands_inside}
use Rattle.sa_package_model.specs.Rules.{owed}
use Rattle.sa_package_model.specs.Step as fast
use Rattle.sa_package_model.specs.declared.context.ContextState.{ContextState}
use Rattle.sa_package_model.specs.declared.context.ContextState.TheVariants.{Code, Work, Hint, Return, User, Look}
use Rattle.sa_laws.specs.Life.{Life}
use Rattle.sa_laws.specs.Readings.{Readings, line_of}
use Rattle.sa_user_laws.specs.Moments.{Sees}
use Rattle.sa_user_laws.specs.Scene.{IsActing, event_begun_at}
use Rattle.sa_user_laws.specs.Steps.{IsLegalStep}
use Rattle.sa_fast_laws.specs.View.{is_lone}
use Rattle.sa_fast_laws.proofs.user_steps.StepCases.{give-is, more-is}
use Rattle.sa_ranks.specs.Rules.{prio_threads}
use Rattle.sa_prio_model.specs.Prio.{Prio}
use Rattle.sa_prio_model.specs.Stands.{prio_stands}
use Rattle.sa_prio_model.specs.Step.{prio_calls, goes, going, served, stepped}
use Rattle.sa_prio_model.specs.Urge.{came_out, is_out, marked}
use Rattle.sa_prio_model.specs.declared.context.PrioContext.{PrioContext}
use Rattle.sa_prio_laws.specs.PrioFits.{prio_fits}
use Rattle.sa_prio_laws.proofs.steps.Again.{at_rest}
use Rattle.sa_prio_laws.proofs.user_steps.BlockSteps.{code-faults, blocks-legal}
use Rattle.sa_prio_laws.proofs.steps.HintSteps.{more-legal, give-legal}
use Rattle.sa_prio_laws.proofs.steps.LookSteps.{look-legal}
use Rattle.sa_prio_laws.proofs.steps.RunSteps.{code-legal}
use Rattle.sa_prio_laws.proofs.steps.Scenes.{IsPrioScene, the-scene}
use Rattle.sa_prio_laws.proofs.steps.Settles.{GoesLegally, hint-again, return-again, urge-legal}
use Rattle.sa_prio_laws.proofs.user_steps.UserSteps.{instr-legal}
use Rattle.sa_prio_laws.proofs.steps.Works.{cont-legal, push-legal}

module _ (set : Setting) (e : ℕ) (v : Prio) (w : WorkloadView) (r : Readings) (p : ProcNo) (a : ActNo) (life : Life) (seen : Seen) where
  abbrev Legal : Contexts PrioContext → PrioContext → Type 0
  Legal cs c = IsLegalStep prio_calls prio_threads prio_fits w set r p seen.event a cs (stepped v seen c)

  -- A CONTEXT THAT HAS SETTLED, with nothing left to do
  settled-legal : (t : Option ThreadNo) (o : Option ℕ) (b : Bool) → owed v.base seen ≡ o → has_bulk seen ≡ b
      → GoesLegally set e v w r p a life seen (settled_to t false (is_some o) b)
  settled-legal t (Some n) b owes bulk = λ cs i free. subst (IsLegalStep prio_calls prio_threads prio_fits w set r p seen.event a cs)
      (sym (ap (going v seen (Hint t)) (more-is v.base seen t n owes))) (more-legal set e v cs w r p a life seen t n i owes)
  settled-legal (Some t) None b owes bulk =
      λ cs i free. instr-legal set e v cs w r p a life seen t i (free refl) (blocks-legal set e v cs w r p a life seen t i (free refl))
  settled-legal None None true owes bulk = λ cs i free. subst (IsLegalStep prio_calls prio_threads prio_fits w set r p seen.event a cs)
      (sym (ap (going v seen Return) (give-is v.base seen bulk))) (give-legal set e v cs w r p a life seen i bulk)
  settled-legal None None false owes bulk = λ cs i free. look-legal set e v cs w r p a life seen 0 i (free refl)

  again-legal : (t : Option ThreadNo) → GoesLegally set e v w r p a life seen (settled_to t false (is_some (owed v.base seen)) (has_bulk seen))
  again-legal t = settled-legal t (owed v.base seen) (has_bulk seen) refl refl

  module _ (cs : Contexts PrioContext) where
    -- WITHOUT THE MARK
    work-case : (t : Option ThreadNo) (fs : List Frame) (wk : Option ThreadNo)
        → IsPrioScene set e v cs w r p a life (record { base = record { state = Work t; sections = fs; work = wk }; urge = false }) seen
        → IsLegalStep prio_calls prio_threads prio_fits w set r p seen.event a cs (goes v seen (record { state = Work t; sections = fs; work = wk }))
    work-case None (f ∷ fs) wk i = cont-legal set e v cs w r p a life seen f fs wk i
    work-case (Some n) (f ∷ fs) wk i = absurd (let alone : is_lone (Work (Some n)) (f ∷ fs) ≡ true = i.own.lone in cc)
    work-case t [] (Some one) i = push-legal set e v cs w r p a life seen t one i
    work-case t [] None i = absurd (let left = i.own.left in cc)

    hint-case : (t : Option ThreadNo) (o : Option ℕ) → owed v.base seen ≡ o
        → IsPrioScene set e v cs w r p a life (at_rest (Hint t) false) seen → Legal cs (at_rest (Hint t) false)
    hint-case t None none i = hint-again set e v w r p a life seen cs t none i (again-legal t)
    hint-case t (Some n) owes i =
        subst (λ o. let d = fast.if_owed v.base seen (record { state = Hint t; sections = []; work = None }) t o in
        IsLegalStep prio_calls prio_threads prio_fits w set r p seen.event a cs (served v seen (marked v seen (came_out (Hint t) d.state) d))) (sym owes)
        (subst (IsLegalStep prio_calls prio_threads prio_fits w set r p seen.event a cs)
        (sym (ap (going v seen (Hint t)) (more-is v.base seen t n owes))) (more-legal set e v cs w r p a life seen t n i owes))

    return-case : (b : Bool) → has_bulk seen ≡ b → IsPrioScene set e v cs w r p a life (at_rest Return false) seen → Legal cs (at_rest Return false)
    return-case false few i = return-again set e v w r p a life seen cs few i (again-legal None)
    return-case true bulk i =
        subst (λ z. let d = fast.if_bulk v.base seen (record { state = Return; sections = []; work = None }) z in
        IsLegalStep prio_calls prio_threads prio_fits w set r p seen.event a cs (served v seen (marked v seen (came_out Return d.state) d))) (sym bulk)
        (subst (IsLegalStep prio_calls prio_threads prio_fits w set r p seen.event a cs)
        (sym (ap (going v seen Return) (give-is v.base seen bulk))) (give-legal set e v cs w r p a life seen i bulk))

    calm-case : (state : ContextState) (fs : List Frame) (wk : Option ThreadNo)
        → IsPrioScene set e v cs w r p a life (record { base = record { state = state; sections = fs; work = wk }; urge = false }) seen
        → (stands_inside state ≡ false → life.inside ≡ false) → Legal cs (record { base = record { state = state; sections = fs; work = wk }; urge = false })
    calm-case (Code f) fs wk i out = code-legal set e v cs w r p a life seen f fs wk i (code-faults set e v cs w r p a life seen f fs wk i)
    calm-case (Work t) fs wk i out = work-case t fs wk i
    calm-case (Hint t) [] None i out = hint-case t (owed v.base seen) refl i
    calm-case Return [] None i out = return-case (has_bulk seen) refl i
    calm-case (User t) [] None i out =
        instr-legal set e v cs w r p a life seen t i (inl (out refl)) (blocks-legal set e v cs w r p a life seen t i (inl (out refl)))
    calm-case (Look looks) [] None i out = look-legal set e v cs w r p a life seen looks i (inl (out refl))
    calm-case _ _ _ i out = absurd (let left = i.own.left in cc)

    -- WITH THE MARK it is out, with nothing left to do
    marked-case : (state : ContextState) (fs : List Frame) (wk : Option ThreadNo) → is_out state ≡ true
        → IsPrioScene set e v cs w r p a life (record { base = record { state = state; sections = fs; work = wk }; urge = true }) seen
        → Legal cs (record { base = record { state = state; sections = fs; work = wk }; urge = true })
    marked-case (User t) [] None out i = urge-legal set e v w r p a life seen cs (User t) out refl i (again-legal (Some t))
    marked-case (User t) (f ∷ fs) wk out i = absurd (let left = i.own.left in cc)
    marked-case (User t) [] (Some n) out i = absurd (let left = i.own.left in cc)
    marked-case (Look looks) [] None out i = urge-legal set e v w r p a life seen cs (Look looks) out (i.fresh refl) i (again-legal None)
    marked-case (Look looks) (f ∷ fs) wk out i = absurd (let left = i.own.left in cc)
    marked-case (Look looks) [] (Some n) out i = absurd (let left = i.own.left in cc)
    marked-case _ fs wk out i = absurd cc

    pub step-legal : (urge : Bool) (state : ContextState) (fs : List Frame) (wk : Option ThreadNo)
        → IsPrioScene set e v cs w r p a life (record { base = record { state = state; sections = fs; work = wk }; urge = urge }) seen
        → (urge ≡ false → stands_inside state ≡ false → life.inside ≡ false)
        → Legal cs (record { base = record { state = state; sections = fs; work = wk }; urge = urge })
    step-legal true state fs wk i out =
        marked-case state fs wk (i.stands.marks a.0 (record { base = record { state = state; sections = fs; work = wk }; urge = true }) i.on.mine refl) i
    step-legal false state fs wk i out = calm-case state fs wk i (out refl)

-- THE LAW
pub prio-steps : (w : WorkloadView) (s : Setting) (e : ℕ) (r : Readings) (v : Prio) (cs : Contexts PrioContext) (p : ProcNo) (a : ActNo) (life : Life)
    (c : PrioContext) (seen : Seen)
    → IsActing prio_calls prio_stands prio_fits w s e r v cs p a life c
    → Sees s.space (event_begun_at w seen.event p r) p seen.event seen → line_of r p ≡ None → 1 ≤ seen.event → e < seen.event → seen.event ≤ MAX_EVENTS
    → IsLegalStep prio_calls prio_threads prio_fits w s r p seen.event a cs (stepped v seen c)
prio-steps w s e r v cs p a life c seen i sees low some later within =
    step-legal s e v w r p a life seen cs c.urge c.base.state c.base.sections c.base.work (the-scene w s e r v cs p a life c seen i sees low later within)
    (λ calm outside. (i.fit.lives.rest a c life i.on.mine i.on.is).marks.inside ∙ ap (λ b. b || c.urge) outside ∙ calm)
