-- A change of one context leaves everything standing; so does one context taken over by another.
use Rattle.std.proofs.Common.{◌≡◌, ◌≢◌, ℕ, ◌+◌, ◌≤◌, length, Option, Some, None, ◌⊎◌, sym, ap, ◌∙◌, subst, inl, inr, arith}
use Rattle.std.proofs.lemmas.Bool.{cases_eq}
use Rattle.std.proofs.lemmas.Option.{same_Some}
use Rattle.sa_base.specs.declared.limits.TheConstants.{MAX_THREADS, MAX_EVENTS}
use Rattle.sa_abstract.specs.Setting.{Setting}
use Rattle.sa_abstract.specs.Calls.{Contexts}
use Rattle.sa_lemmas.specs.Function.{put}
use Rattle.sa_lemmas.proofs.FunctionUpdates.{put-same, put-other}
use Rattle.sa_fast.specs.Rest.{ArePartsFor, not_carried}
use Rattle.sa_package_model.specs.Laws.{IsMadeFor}
use Rattle.sa_package_model.proofs.OnePlace.{moves, joins}
use Rattle.sa_driven_model.specs.declared.context.DrivenContext.{DrivenContext}
use Rattle.sa_driven_model.specs.declared.space.DrivenSpace.{DrivenSpace}
use Rattle.sa_driven_model.specs.Stands.{AreUnused, AgreesAt, IsSomewhere, carried_of, locks_of, AreFewLocks, IsStanding}
use Rattle.sa_driven_model.proofs.Locks.{few_more, few-put, few-joined}

-- the value afterwards
pub record IsValue (s : Setting) (event : ℕ) (v : DrivenSpace) : Type 0 where
  pub made : IsMadeFor s v.base
  pub parts : ArePartsFor v.base.def v.base.processors event v.base.shared
  pub unused : AreUnused v.base.shared
  pub places : (t : ℕ) → AgreesAt v.base.shared t
  pub somewhere : (t : ℕ) → IsSomewhere v.base.shared v.handed t
  pub handed : length v.handed ≡ MAX_THREADS

-- ONE CONTEXT CHANGES, or begins, and has so many locks more: what is to be shown of it
pub record IsChange (s : Setting) (event : ℕ) (u v : DrivenSpace) (old : Option DrivenContext) (new : DrivenContext) (more : ℕ) : Type 0 where
  pub value : IsValue s event v
  pub carries : (t : ℕ) → not_carried v.base.shared t + carried_of (Some new) t ≡ not_carried u.base.shared t + carried_of old t
  pub locks : new.locks ≤ locks_of old + more
  pub hand : length new.hand ≡ MAX_THREADS

-- ONE CONTEXT IS TAKEN OVER
pub record IsJoin (s : Setting) (event : ℕ) (u v : DrivenSpace) (c d new : DrivenContext) : Type 0 where
  pub value : IsValue s event v
  pub carries : (t : ℕ) → not_carried v.base.shared t + carried_of (Some new) t
      ≡ not_carried u.base.shared t + carried_of (Some c) t + carried_of (Some d) t
  pub locks : new.locks ≤ c.locks + d.locks
  pub hand : length new.hand ≡ MAX_THREADS

module _ (s : Setting) (e : ℕ) (u : DrivenSpace) (cs : Contexts DrivenContext) (h : IsStanding s e u cs) where
  -- nothing of the value changes
  pub same_value : IsValue s e u
  same_value = record { made = h.made; parts = h.parts; unused = h.unused; places = h.places; somewhere = h.somewhere; handed = h.handed }

  few_within : (f a more : ℕ) (old : Option DrivenContext) (new : DrivenContext) → cs a ≡ old → new.locks ≤ locks_of old + more
      → e + more ≤ f → (more ≡ 0) ⊎ (f ≤ MAX_EVENTS) → AreFewLocks f (put cs a (Some new)) × AreFewLocks MAX_EVENTS (put cs a (Some new))
  few_within f a more old new is grows later within =
      let grown : locks_of (Some new) ≤ locks_of (cs a) + more = subst (λ x. new.locks ≤ locks_of x + more) (sym is) grows in
      let few = few_more (e + more) f (put cs a (Some new)) (few-put e more cs a (Some new) h.locks grown) later in (
        few,
        elim within [
          | inl none ↦ few_more (MAX_EVENTS + more) MAX_EVENTS (put cs a (Some new)) (few-put MAX_EVENTS more cs a (Some new) h.within grown) (omega (arith, none))
          | inr most ↦ few_more f MAX_EVENTS (put cs a (Some new)) few most
        ],
      )

  -- A CHANGE
  pub change-stands : (f a more : ℕ) (v : DrivenSpace) (old : Option DrivenContext) (new : DrivenContext) → cs a ≡ old → IsChange s f u v old new more
      → e + more ≤ f → (more ≡ 0) ⊎ (f ≤ MAX_EVENTS) → IsStanding s f v (put cs a (Some new))
  change-stands f a more v old new is k later within =
      let here : put cs a (Some new) a ≡ Some new = put-same cs a (Some new) in
      let there : (b : ℕ) → b ≢ a → put cs a (Some new) b ≡ cs b = λ b ne. put-other cs a b (Some new) ne in
      let few = few_within f a more old new is k.locks later within in
      record {
        made = k.value.made;
        parts = k.value.parts;
        unused = k.value.unused;
        places = k.value.places;
        somewhere = k.value.somewhere;
        handed = k.value.handed;
        carries = moves (not_carried u.base.shared) (not_carried v.base.shared) (λ b. carried_of (cs b)) (λ b. carried_of (put cs a (Some new) b)) a h.carries
            (λ t. ap (λ x. not_carried v.base.shared t + carried_of x t) here ∙ k.carries t
            ∙ ap (λ x. not_carried u.base.shared t + carried_of x t) (sym is))
            (λ b t ne. ap (λ x. carried_of x t) (there b ne));
        locks = few.0;
        within = few.1;
        hands = λ b c at. elim (cases_eq b a) [
          | inl same ↦
              let one : c ≡ new = same_Some c new (sym at ∙ ap (put cs a (Some new)) same ∙ here) in
              ap (λ (x : DrivenContext). length x.hand) one ∙ k.hand
          | inr ne ↦ h.hands b c (sym (there b ne) ∙ at)
        ];
      }

  -- A JOIN
  pub join-stands : (a b : ℕ) (v : DrivenSpace) (c d new : DrivenContext) → cs a ≡ Some c → cs b ≡ Some d → b ≢ a → IsJoin s e u v c d new
      → IsStanding s e v (put (put cs a (Some new)) b None)
  join-stands a b v c d new is_a is_b ne k =
      let one : Contexts DrivenContext = put cs a (Some new) in
      let ds : Contexts DrivenContext = put one b None in
      let at_a : ds a ≡ Some new = put-other one b a None (λ e. ne (sym e)) ∙ put-same cs a (Some new) in
      let at_b : ds b ≡ None = put-same one b None in
      let there : (x : ℕ) → x ≢ a → x ≢ b → ds x ≡ cs x = λ x na nb. put-other one b x None nb ∙ put-other cs a x (Some new) na in
      let grows : locks_of (Some new) ≤ locks_of (cs a) + locks_of (cs b) =
      subst (λ x. new.locks ≤ locks_of x + locks_of (cs b)) (sym is_a) (subst (λ x. new.locks ≤ c.locks + locks_of x) (sym is_b) k.locks) in
      record {
        made = k.value.made;
        parts = k.value.parts;
        unused = k.value.unused;
        places = k.value.places;
        somewhere = k.value.somewhere;
        handed = k.value.handed;
        carries = joins (not_carried u.base.shared) (not_carried v.base.shared) (λ x. carried_of (cs x)) (λ x. carried_of (ds x)) a b h.carries ne
            (λ t. ap (λ x. not_carried v.base.shared t + carried_of x t) at_a ∙ k.carries t
            ∙ ap (λ x. not_carried u.base.shared t + carried_of x t + carried_of (Some d) t) (sym is_a)
            ∙ ap (λ x. not_carried u.base.shared t + carried_of (cs a) t + carried_of x t) (sym is_b))
            (λ t. ap (λ x. carried_of x t) at_b)
            (λ x t na nb. ap (λ y. carried_of y t) (there x na nb));
        locks = few-joined e cs a b (Some new) h.locks ne grows;
        within = few-joined MAX_EVENTS cs a b (Some new) h.within ne grows;
        hands = λ x y at. elim (cases_eq x b) [
          | inl same ↦ absurd (let none : None ≡ Some y = sym at_b ∙ ap ds (sym same) ∙ at in cc)
          | inr nb ↦ elim (cases_eq x a) [
            | inl same ↦
                let new_is : y ≡ new = same_Some y new (sym at ∙ ap ds same ∙ at_a) in
                ap (λ (z : DrivenContext). length z.hand) new_is ∙ k.hand
            | inr na ↦ h.hands x y (sym (there x na nb) ∙ at)
          ]
        ];
      }
