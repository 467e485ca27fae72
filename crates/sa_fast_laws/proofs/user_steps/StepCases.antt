-- The kinds of steps that a context makes, whichever rules its user level keeps: what is shown of each kind is shown of every
-- step.
use Rattle.std.proofs.Common.{◌≡◌, ℕ, Bool, true, false, List, [], ◌∷◌, Option, Some, None, is_some, refl, sym, ap, ◌∙◌}
use Rattle.sa_base.specs.declared.context.Seen.{Seen}
use Rattle.sa_base.specs.declared.number.ActNo.{ActNo}
use Rattle.sa_base.specs.declared.number.ProcNo.{ProcNo}
use Rattle.sa_base.specs.declared.number.ThreadNo.{ThreadNo}
use Rattle.sa_lemmas.specs.Function.{put}
use Rattle.sa_spaces.specs.Workload.{WorkloadView}
use Rattle.sa_code.specs.declared.state.Frame.{Frame}
use Rattle.sa_abstract.specs.Calls.{Contexts}
use Rattle.sa_abstract.specs.Setting.{Setting}
use Rattle.sa_abstract.specs.declared.answer.Step.TheVariants as asked
use Rattle.sa_package_model.specs.Context.{carried_by, section_in, settled_to, has_bulk}
use Rattle.sa_package_model.specs.Rules.{pair, asks, owed, settled}
use Rattle.sa_package_model.specs.Step.{answered, hinted, if_bulk, if_owed, stepped, stepped_at}
use Rattle.sa_package_model.specs.declared.context.Context.{Context}
use Rattle.sa_package_model.specs.declared.context.ContextState.{ContextState}
use Rattle.sa_package_model.specs.declared.context.ContextState.TheVariants.{Code, Work, Hint, Return, User, Look}
use Rattle.sa_package_model.specs.declared.package.Package.{Package}
use Rattle.sa_laws.specs.Life.{Life}
use Rattle.sa_laws.specs.Readings.{Readings}
use Rattle.sa_fast_laws.specs.View.{in_copy, at_yield, looks_of, is_lone}
use Rattle.sa_fast_laws.proofs.steps.GivingMoves.{settled-scene}
use Rattle.sa_fast_laws.proofs.steps.Scenes.{IsScene}

-- a context in this state, with nothing left to do
abbrev pub calm : ContextState → Context
calm state = record { state = state; sections = []; work = None }

-- it settles with this thread
abbrev pub settles_to : Package → Seen → Option ThreadNo → Context
settles_to u seen t = calm (settled_to t false (is_some (owed u seen)) (has_bulk seen))

-- WHERE A HINT OR A RETURN is no longer owed the context settles again, with this thread, and then makes its step.
pub record SettlesAgain (u : Package) (seen : Seen) (old : ContextState) (t : Option ThreadNo) : Type 0 where
  pub out : section_in old ≡ None
  pub no_copy : in_copy old ≡ false
  pub carries : carried_by old ≡ t
  pub yields : at_yield old ≡ false
  pub looks : looks_of old ≡ 0
  pub settles : (answered u seen (calm old)).1 ≡ settled u seen (calm old) t
  pub step : stepped u seen (calm old) ≡ stepped u seen (settles_to u seen t)

module _ (u : Package) (seen : Seen) where
  -- what is owed still is asked for
  pub more-is : (t : Option ThreadNo) (n : ℕ) → owed u seen ≡ Some n → stepped u seen (calm (Hint t)) ≡ asks (pair u (calm (Hint t))) (asked.More n)
  more-is t n owes =
      ap (λ o. let d = if_owed u seen (calm (Hint t)) t o in stepped_at u seen d d.state) owes
      ∙ ap (hinted u (calm (Hint t))) owes

  pub give-is : has_bulk seen ≡ true → stepped u seen (calm Return) ≡ asks (pair u (calm Return)) asked.GiveBack
  give-is bulk = ap (λ b. let d = if_bulk u seen (calm Return) b in stepped_at u seen d d.state) bulk

  -- once it has settled, a context does not settle again
  settled-step : (t : Option ThreadNo) (o : Option ℕ) (b : Bool) → owed u seen ≡ o → has_bulk seen ≡ b
      → let state = settled_to t false (is_some o) b in stepped u seen (calm state) ≡ stepped_at u seen (calm state) state
  settled-step t (Some n) b owes bulk = ap (λ o. let d = if_owed u seen (calm (Hint t)) t o in stepped_at u seen d d.state) owes
  settled-step None None true owes bulk = ap (λ z. let d = if_bulk u seen (calm Return) z in stepped_at u seen d d.state) bulk
  settled-step _ None _ owes bulk = refl

  hint-again : (t : Option ThreadNo) → owed u seen ≡ None → SettlesAgain u seen (Hint t) t
  hint-again t none = record {
    out = refl;
    no_copy = refl;
    carries = refl;
    yields = refl;
    looks = refl;
    settles = refl;
    step =
        ap (λ o. let d = if_owed u seen (calm (Hint t)) t o in stepped_at u seen d d.state) none
        ∙ sym (settled-step t (owed u seen) (has_bulk seen) refl refl);
  }

  return-again : has_bulk seen ≡ false → SettlesAgain u seen Return None
  return-again few = record {
    out = refl;
    no_copy = refl;
    carries = refl;
    yields = refl;
    looks = refl;
    settles = refl;
    step =
        ap (λ b. let d = if_bulk u seen (calm Return) b in stepped_at u seen d d.state) few
        ∙ sym (settled-step None (owed u seen) (has_bulk seen) refl refl);
  }

module _ (set : Setting) (e : ℕ) (u : Package) (w : WorkloadView) (r : Readings) (p : ProcNo) (a : ActNo) (life : Life) (seen : Seen) where
  abbrev Scene : Contexts Context → Context → Type 0
  Scene cs c = IsScene set e u cs w r p a life c seen

  pub record StepCases (Goal : Contexts Context → Context → Type 0) : Type 0 where
    pub code : (cs : Contexts Context) (f : Frame) (fs : List Frame) (wk : Option ThreadNo)
        → IsScene set e u cs w r p a life (record { state = Code f; sections = fs; work = wk }) seen
        → Goal cs (record { state = Code f; sections = fs; work = wk })
    pub cont : (cs : Contexts Context) (f : Frame) (fs : List Frame) (wk : Option ThreadNo)
        → IsScene set e u cs w r p a life (record { state = Work None; sections = f ∷ fs; work = wk }) seen
        → Goal cs (record { state = Work None; sections = f ∷ fs; work = wk })
    pub push : (cs : Contexts Context) (t : Option ThreadNo) (one : ThreadNo)
        → IsScene set e u cs w r p a life (record { state = Work t; sections = []; work = Some one }) seen
        → Goal cs (record { state = Work t; sections = []; work = Some one })
    pub more : (cs : Contexts Context) (t : Option ThreadNo) (n : ℕ) → IsScene set e u cs w r p a life (calm (Hint t)) seen → owed u seen ≡ Some n
        → Goal cs (calm (Hint t))
    pub give : (cs : Contexts Context) → IsScene set e u cs w r p a life (calm Return) seen → has_bulk seen ≡ true → Goal cs (calm Return)
    pub instr : (cs : Contexts Context) (t : ThreadNo) → IsScene set e u cs w r p a life (calm (User t)) seen → Goal cs (calm (User t))
    pub look : (cs : Contexts Context) (looks : ℕ) → IsScene set e u cs w r p a life (calm (Look looks)) seen → Goal cs (calm (Look looks))
    pub again : (cs : Contexts Context) (old : ContextState) (t : Option ThreadNo) → IsScene set e u cs w r p a life (calm old) seen → SettlesAgain u seen old t
        → Goal (put cs a.0 (Some (settles_to u seen t))) (settles_to u seen t) → Goal cs (calm old)

  module _ (Goal : Contexts Context → Context → Type 0) (cases : StepCases Goal) where
    work-case : (cs : Contexts Context) (t : Option ThreadNo) (fs : List Frame) (wk : Option ThreadNo)
        → Scene cs (record { state = Work t; sections = fs; work = wk }) → Goal cs (record { state = Work t; sections = fs; work = wk })
    work-case cs None (f ∷ fs) wk i = cases.cont cs f fs wk i
    work-case cs (Some n) (f ∷ fs) wk i = absurd (let alone : is_lone (Work (Some n)) (f ∷ fs) ≡ true = i.own.lone in cc)
    work-case cs t [] (Some one) i = cases.push cs t one i
    work-case cs t [] None i = absurd (let left = i.own.left in cc)

    -- as it settles with nothing left
    calm-case : (cs : Contexts Context) (t : Option ThreadNo) (o : Option ℕ) (b : Bool) → owed u seen ≡ o → has_bulk seen ≡ b
        → Scene cs (calm (settled_to t false (is_some o) b)) → Goal cs (calm (settled_to t false (is_some o) b))
    calm-case cs t (Some n) b owes bulk i = cases.more cs t n i owes
    calm-case cs (Some t) None b owes bulk i = cases.instr cs t i
    calm-case cs None None true owes bulk i = cases.give cs i bulk
    calm-case cs None None false owes bulk i = cases.look cs 0 i

    again-case : (cs : Contexts Context) (old : ContextState) (t : Option ThreadNo) → Scene cs (calm old) → SettlesAgain u seen old t → Goal cs (calm old)
    again-case cs old t i z =
        cases.again cs old t i z (calm-case (put cs a.0 (Some (settles_to u seen t))) t (owed u seen) (has_bulk seen) refl refl
        (settled-scene set e u cs w r p a life seen old t i z.out z.no_copy z.carries z.yields z.looks z.settles))

    hint-case : (cs : Contexts Context) (t : Option ThreadNo) (o : Option ℕ) → owed u seen ≡ o → Scene cs (calm (Hint t)) → Goal cs (calm (Hint t))
    hint-case cs t (Some n) owes i = cases.more cs t n i owes
    hint-case cs t None owes i = again-case cs (Hint t) t i (hint-again u seen t owes)

    return-case : (cs : Contexts Context) (b : Bool) → has_bulk seen ≡ b → Scene cs (calm Return) → Goal cs (calm Return)
    return-case cs true bulk i = cases.give cs i bulk
    return-case cs false few i = again-case cs Return None i (return-again u seen few)

    pub step-cases : (cs : Contexts Context) (state : ContextState) (fs : List Frame) (wk : Option ThreadNo)
        → IsScene set e u cs w r p a life (record { state = state; sections = fs; work = wk }) seen
        → Goal cs (record { state = state; sections = fs; work = wk })
    step-cases cs (Code f) fs wk i = cases.code cs f fs wk i
    step-cases cs (Work t) fs wk i = work-case cs t fs wk i
    step-cases cs (Hint t) [] None i = hint-case cs t (owed u seen) refl i
    step-cases cs Return [] None i = return-case cs (has_bulk seen) refl i
    step-cases cs (User t) [] None i = cases.instr cs t i
    step-cases cs (Look looks) [] None i = cases.look cs looks i
    step-cases cs _ _ _ i = absurd (let left = i.own.left in cc)
