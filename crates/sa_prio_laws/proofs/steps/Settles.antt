-- A step of a context that settles first, where nothing is owed any more, or no pair is there any more: it is legal where one
-- of the context as it settles is.
use Rattle.std.proofs.Common.{◌≡◌, ℕ, Bool, true, false, not, ◌&&◌, [], Option, Some, None, is_some, refl, sym, ap, ◌∙◌, subst}
use Rattle.std.proofs.lemmas.Bool.{and_parts}
use Rattle.sa_base.specs.declared.context.Seen.{Seen}
use Rattle.sa_base.specs.declared.number.ActNo.{ActNo}
use Rattle.sa_base.specs.declared.number.ProcNo.{ProcNo}
use Rattle.sa_base.specs.declared.number.ThreadNo.{ThreadNo}
use Rattle.sa_lemmas.specs.Function.{put}
use Rattle.sa_spaces.specs.Workload.{WorkloadView}
use Rattle.sa_abstract.specs.Calls.{Contexts}
use Rattle.sa_abstract.specs.Setting.{Setting}
use Rattle.sa_package_model.specs.Context.{carried_by, has_bulk, section_in, settled_to, stands_inside}
use Rattle.sa_package_model.specs.Rules.{owed}
use Rattle.sa_package_model.specs.Step.{if_bulk, if_owed}
use Rattle.sa_package_model.specs.declared.context.ContextState.{ContextState}
use Rattle.sa_package_model.specs.declared.context.ContextState.TheVariants.{Hint, Return}
use Rattle.sa_laws.specs.Life.{Life}
use Rattle.sa_laws.specs.Readings.{Readings}
use Rattle.sa_user_laws.specs.Steps.{IsLegalStep}
use Rattle.sa_fast_laws.specs.View.{at_yield, in_copy, looks_of}
use Rattle.sa_ranks.specs.Rules.{prio_threads}
use Rattle.sa_prio_model.specs.Prio.{Prio, has_pair as prio_pair}
use Rattle.sa_prio_model.specs.Step.{prio_calls, goes, served, stepped}
use Rattle.sa_prio_model.specs.Urge.{came_out, is_out, marked}
use Rattle.sa_prio_model.specs.declared.context.PrioContext.{PrioContext}
use Rattle.sa_prio_model.proofs.Calling.{out-no-section}
use Rattle.sa_prio_laws.specs.PrioFits.{prio_fits}
use Rattle.sa_prio_laws.proofs.steps.Again.{at_rest, legal-put, settled-scene, settled-unbound}
use Rattle.sa_prio_laws.proofs.urge.Interrupts.{out-copy, out-yield}
use Rattle.sa_prio_laws.proofs.steps.Scenes.{IsPrioScene}
use Rattle.sa_prio_laws.proofs.steps.Unbound.{IsUnbound}
use Rattle.sa_prio_laws.proofs.urge.Urge.{urged-legal}

and_none : (x y : Bool) → (x && y) ≡ false → x ≡ true → y ≡ false
and_none true y e is = e
and_none false y e is = absurd cc

and_true : (b : Bool) → b ≡ (b && true)
and_true true = refl
and_true false = refl

-- what is not inside the package is out
out_of : (state : ContextState) (b : Bool) → stands_inside state ≡ b → b ≡ false → is_out state ≡ true
out_of state b is none = ap not (is ∙ none)

module _ (set : Setting) (e : ℕ) (v : Prio) (w : WorkloadView) (r : Readings) (p : ProcNo) (a : ActNo) (life : Life) (seen : Seen) where
  -- FastThreads' step of a context in this state, without the mark, is legal
  abbrev pub GoesLegally : ContextState → Type 0
  GoesLegally state =
      (cs : Contexts PrioContext) → IsPrioScene set e v cs w r p a life (at_rest state false) seen
      → (stands_inside state ≡ false → IsUnbound w r life)
      → IsLegalStep prio_calls prio_threads prio_fits w set r p seen.event a cs (goes v seen (record { state = state; sections = []; work = None }))

  module _ (cs : Contexts PrioContext) (old : ContextState) (mark : Bool) (t : Option ThreadNo)
      (i : IsPrioScene set e v cs w r p a life (record { base = record { state = old; sections = []; work = None }; urge = mark }) seen)
      (out : section_in old ≡ None) (no_copy : in_copy old ≡ false) (carries : carried_by old ≡ t) (yields : at_yield old ≡ false) (looks : looks_of old ≡ 0)
      (legal : GoesLegally (settled_to t false (is_some (owed v.base seen)) (has_bulk seen))) where
    abbrev state : ContextState
    state = settled_to t false (is_some (owed v.base seen)) (has_bulk seen)

    -- without the mark it goes on
    pub calm-legal : (stands_inside (settled_to t false (is_some (owed v.base seen)) (has_bulk seen)) ≡ false → prio_pair v seen ≡ false)
        → IsLegalStep prio_calls prio_threads prio_fits w set r p seen.event a cs
        (goes v seen (record { state = settled_to t false (is_some (owed v.base seen)) (has_bulk seen); sections = []; work = None }))
    calm-legal none =
        legal-put w set r p seen.event a cs (at_rest state false) _
        (legal (put cs a.0 (Some (at_rest state false)))
        (settled-scene set e v cs w r p a life old mark t seen i out no_copy carries yields looks false (λ marked. absurd cc))
        (λ outside. settled-unbound set e v cs w r p a life old mark t seen i out no_copy carries yields (none outside) outside))

    -- with the mark that it has where it is out and a pair is there
    pub settles-legal : IsLegalStep prio_calls prio_threads prio_fits w set r p seen.event a cs
        (served v seen (marked v seen (is_out (settled_to t false (is_some (owed v.base seen)) (has_bulk seen)))
        (record { state = settled_to t false (is_some (owed v.base seen)) (has_bulk seen); sections = []; work = None })))
    settles-legal = by (is_out state && prio_pair v seen) refl where
      by : (b : Bool) → (is_out (settled_to t false (is_some (owed v.base seen)) (has_bulk seen)) && prio_pair v seen) ≡ b
          → IsLegalStep prio_calls prio_threads prio_fits w set r p seen.event a cs
          (served v seen (at_rest (settled_to t false (is_some (owed v.base seen)) (has_bulk seen)) b))
      by true is =
          let is_outside = (and_parts (is_out state) (prio_pair v seen) is).0 in
          legal-put w set r p seen.event a cs (at_rest state true) _
          (urged-legal set e v (put cs a.0 (Some (at_rest state true))) w r p a life seen state is_outside
          (settled-scene set e v cs w r p a life old mark t seen i out no_copy carries yields looks true (λ marked. is_outside))
          (λ calm nobody. absurd (let some = (and_parts (is_out state) (prio_pair v seen) is).1 in let none = ap is_some nobody in cc)))
      by false is = calm-legal (λ outside. and_none (is_out state) (prio_pair v seen) is (out_of state false outside refl))

  -- A HINT that is no longer owed
  pub hint-again : (cs : Contexts PrioContext) (t : Option ThreadNo) → owed v.base seen ≡ None
      → IsPrioScene set e v cs w r p a life (record { base = record { state = Hint t; sections = []; work = None }; urge = false }) seen
      → GoesLegally (settled_to t false (is_some (owed v.base seen)) (has_bulk seen))
      → IsLegalStep prio_calls prio_threads prio_fits w set r p seen.event a cs
      (stepped v seen (record { base = record { state = Hint t; sections = []; work = None }; urge = false }))
  hint-again cs t none i legal =
      subst (λ o. let d = if_owed v.base seen (record { state = Hint t; sections = []; work = None }) t o in
      IsLegalStep prio_calls prio_threads prio_fits w set r p seen.event a cs (served v seen (marked v seen (came_out (Hint t) d.state) d)))
      (sym none)
      (came (settled_to t false (is_some (owed v.base seen)) (has_bulk seen)) (settles-legal cs (Hint t) false t i refl refl refl refl refl legal)) where
        came : (s : ContextState)
            → IsLegalStep prio_calls prio_threads prio_fits w set r p seen.event a cs
            (served v seen (marked v seen (is_out s) (record { state = s; sections = []; work = None })))
            → IsLegalStep prio_calls prio_threads prio_fits w set r p seen.event a cs
            (served v seen (marked v seen (came_out (Hint t) s) (record { state = s; sections = []; work = None })))
        came s h =
            subst
            (λ b. IsLegalStep prio_calls prio_threads prio_fits w set r p seen.event a cs
            (served v seen (marked v seen b (record { state = s; sections = []; work = None }))))
            (and_true (is_out s)) h

  -- ACTIVATIONS that are too few by now
  pub return-again : (cs : Contexts PrioContext) → has_bulk seen ≡ false
      → IsPrioScene set e v cs w r p a life (record { base = record { state = Return; sections = []; work = None }; urge = false }) seen
      → GoesLegally (settled_to None false (is_some (owed v.base seen)) (has_bulk seen))
      → IsLegalStep prio_calls prio_threads prio_fits w set r p seen.event a cs
      (stepped v seen (record { base = record { state = Return; sections = []; work = None }; urge = false }))
  return-again cs few i legal =
      subst (λ z. let d = if_bulk v.base seen (record { state = Return; sections = []; work = None }) z in
      IsLegalStep prio_calls prio_threads prio_fits w set r p seen.event a cs (served v seen (marked v seen (came_out Return d.state) d)))
      (sym few)
      (came (settled_to None false (is_some (owed v.base seen)) (has_bulk seen)) (settles-legal cs Return false None i refl refl refl refl refl legal)) where
        came : (s : ContextState)
            → IsLegalStep prio_calls prio_threads prio_fits w set r p seen.event a cs
            (served v seen (marked v seen (is_out s) (record { state = s; sections = []; work = None })))
            → IsLegalStep prio_calls prio_threads prio_fits w set r p seen.event a cs
            (served v seen (marked v seen (came_out Return s) (record { state = s; sections = []; work = None })))
        came s h =
            subst
            (λ b. IsLegalStep prio_calls prio_threads prio_fits w set r p seen.event a cs
            (served v seen (marked v seen b (record { state = s; sections = []; work = None }))))
            (and_true (is_out s)) h

  -- A CONTEXT WITH THE MARK serves a pair, or goes on where none is there any more
  pub urge-legal : (cs : Contexts PrioContext) (old : ContextState) → is_out old ≡ true → looks_of old ≡ 0
      → IsPrioScene set e v cs w r p a life (record { base = record { state = old; sections = []; work = None }; urge = true }) seen
      → GoesLegally (settled_to (carried_by old) false (is_some (owed v.base seen)) (has_bulk seen))
      → IsLegalStep prio_calls prio_threads prio_fits w set r p seen.event a cs
      (stepped v seen (record { base = record { state = old; sections = []; work = None }; urge = true }))
  urge-legal cs old out looks i legal =
      urged-legal set e v cs w r p a life seen old out i (λ calm nobody.
      calm-legal cs old true (carried_by old) i (out-no-section old out) (out-copy old out) refl (out-yield old out) looks legal (λ outside. ap is_some nobody))
