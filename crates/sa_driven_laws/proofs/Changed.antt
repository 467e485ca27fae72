-- What holds goes on to hold where one life changes, and each other one stays as it was, or is gone; so do lives at rest.
use Rattle.std.proofs.Common.{◌≡◌, ◌≢◌, ◌≤◌, false, Contains, count_by, Some, None, IsSome, ◌⊎◌, refl, sym, ap, ◌∙◌, subst, inl, inr}
use Rattle.std.proofs.lemmas.Bool.{cases_eq}
use Rattle.std.proofs.lemmas.Option.{same_Some, none-some}
use Rattle.sa_base.specs.declared.number.ActNo.{ActNo}
use Rattle.sa_base.specs.declared.number.ProcNo.{ProcNo}
use Rattle.sa_base.specs.declared.number.SpaceNo.{SpaceNo}
use Rattle.sa_base.specs.declared.number.ThreadNo.{ThreadNo}
use Rattle.sa_base.specs.declared.record.Note.TheVariants.{Preempted, Unblocked}
use Rattle.sa_fast.specs.Rest.{place_at}
use Rattle.sa_fast.specs.Threads.{load_of as loaded}
use Rattle.sa_fast.specs.declared.shared.Shared.{Shared}
use Rattle.sa_abstract.specs.Calls.{Contexts}
use Rattle.sa_driven_model.specs.declared.context.DrivenContext.{DrivenContext}
use Rattle.sa_laws.specs.Life.{Life}
use Rattle.sa_laws.specs.Readings.{Readings, running_of, life_of, untold_of, load_of}
use Rattle.sa_laws.specs.State.{SpaceState, space_at, thread_in}
use Rattle.sa_fast_laws.specs.FastFits.{is_of, FitsShared}
use Rattle.sa_fast_laws.specs.Stage.{Stage, Runs, stage_on, stage_of}
use Rattle.sa_driven_laws.specs.Life.{HasLife, IsAtRest}
use Rattle.sa_driven_laws.specs.DrivenFits.{Holds, Rest, RestBut}

-- the life of a context
pub life-here : (s : SpaceNo) (r : Readings) (u : Shared) (cs : Contexts DrivenContext) → Holds s r u cs → (a : ActNo) (c : DrivenContext) (life : Life)
    → cs a.0 ≡ Some c → life_of r a ≡ Some life → HasLife s u (space_at r.state s) (stage_of r s a life) c life
life-here s r u cs k a c life is at =
    let its = k.lives a c is in
    subst (λ l. HasLife s u (space_at r.state s) (stage_of r s a l) c l) (same_Some its.0 life (sym its.1 ∙ at)) its.2

-- ANOTHER LIFE keeps what it has where its thread stays
pub other-life : (s : SpaceNo) (u v : Shared) (x y : SpaceState) (stage : Stage) (d : DrivenContext) (life : Life)
    → ((t : ThreadNo) → d.thread ≡ Some t → ((thread_in y t).place ≡ (thread_in x t).place) × (place_at v t.0 ≡ place_at u t.0))
    → HasLife s u x stage d life → HasLife s v y stage d life
other-life s u v x y stage d life places h = record {
  space = h.space;
  locks = h.locks;
  cont = h.cont;
  hand = h.hand;
  place = λ t e. (places t e).0 ∙ h.place t e;
  kept = λ t e. (places t e).1 ∙ h.kept t e;
  named = h.named;
}

-- a notice of a stop or a return of an activation waits
abbrev pub IsNamed : SpaceNo → Readings → ActNo → Type 0
IsNamed s r x = Contains (untold_of r s) (Preempted x) ⊎ Contains (untold_of r s) (Unblocked x)

-- An activation stays as it was; or it has no context any more, or had none, and is not in.
pub record Stays (s : SpaceNo) (r q : Readings) (u v : Shared) (cs ds : Contexts DrivenContext) (x : ActNo) : Type 0 where
  pub life : life_of q x ≡ life_of r x
  pub ctx : ds x.0 ≡ cs x.0
  pub stage : (y : ProcNo) → stage_on q s x y ≡ stage_on r s x y
  pub runs : (y : ProcNo) → running_of q y ≡ Some x → running_of r y ≡ Some x
  pub noted : IsNamed s q x → IsNamed s r x
  pub places : (d : DrivenContext) (t : ThreadNo) → cs x.0 ≡ Some d → d.thread ≡ Some t
      → ((thread_in (space_at q.state s) t).place ≡ (thread_in (space_at r.state s) t).place) × (place_at v t.0 ≡ place_at u t.0)

pub record IsGone (s : SpaceNo) (q : Readings) (ds : Contexts DrivenContext) (x : ActNo) : Type 0 where
  pub ctx : ds x.0 ≡ None
  pub out : (life : Life) → life_of q x ≡ Some life → life.inside ≡ false
  pub runs : (y : ProcNo) → running_of q y ≢ Some x
  pub noted : IsNamed s q x → ⊥

pub record IsChanged (s : SpaceNo) (r q : Readings) (u v : Shared) (cs ds : Contexts DrivenContext) (a : ActNo) (now : Life) (new : DrivenContext) : Type 0 where
  pub space : FitsShared v (space_at q.state s)
  pub load : load_of q s ≡ loaded v.threads
  pub here : life_of q a ≡ Some now
  pub mine : ds a.0 ≡ Some new
  pub own : HasLife s v (space_at q.state s) (stage_of q s a now) new now
  pub single : (x : ActNo) → count_by (is_of x) (untold_of q s) ≤ 1
  pub runs : (y : ProcNo) → running_of q y ≡ Some a → (now.proc ≡ y) × (stage_of q s a now ≡ Runs)
  pub others : (x : ActNo) → x.0 ≢ a.0 → Stays s r q u v cs ds x ⊎ IsGone s q ds x

pub act-is : (x a : ActNo) → x.0 ≡ a.0 → x ≡ a
act-is x a e = ap (λ n. record { 0 = n }) e

module _ (s : SpaceNo) (r q : Readings) (u v : Shared) (cs ds : Contexts DrivenContext) (a : ActNo) (now : Life) (new : DrivenContext)
    (i : IsChanged s r q u v cs ds a now new) where
  is-own : (P : ActNo → DrivenContext → Life → Type 0) (x : ActNo) (d : DrivenContext) (l : Life) → x.0 ≡ a.0 → ds x.0 ≡ Some d → life_of q x ≡ Some l
      → P a new now → P x d l
  is-own P x d l e at there own =
      let act = act-is x a e in
      let ctx : new ≡ d = same_Some new d (sym i.mine ∙ ap ds (sym e) ∙ at) in
      let life : now ≡ l = same_Some now l (sym i.here ∙ ap q.lives (sym e) ∙ there) in
      subst (λ y. P y d l) (sym act) (subst (λ y. P a y l) ctx (subst (λ y. P a new y) life own))

  pub changed-holds : Holds s r u cs → Holds s q v ds
  changed-holds k = record {
    space = i.space;
    load = i.load;
    lives = λ x d at. elim (cases_eq x.0 a.0) [
      | inl e ↦ (
        now,
        ap q.lives e ∙ i.here,
        is-own (λ y z l. HasLife s v (space_at q.state s) (stage_of q s y l) z l) x d now e at (ap q.lives e ∙ i.here) i.own,
      )
      | inr ne ↦ elim (i.others x ne) [
        | inl st ↦
            let old : cs x.0 ≡ Some d = sym st.ctx ∙ at in
            let was = k.lives x d old in (
              was.0,
              st.life ∙ was.1,
              subst (λ g. HasLife s v (space_at q.state s) g d was.0) (sym (st.stage was.0.proc))
                  (other-life s u v (space_at r.state s) (space_at q.state s) (stage_of r s x was.0) d was.0 (λ t e. st.places d t old e) was.2),
            )
        | inr gone ↦ absurd (none-some d (sym gone.ctx ∙ at))
      ]
    ];
    others = λ x life at of none. elim (cases_eq x.0 a.0) [
      | inl e ↦ absurd (none-some new (sym none ∙ ap ds e ∙ i.mine))
      | inr ne ↦ elim (i.others x ne) [
        | inl st ↦ k.others x life (sym st.life ∙ at) of (sym st.ctx ∙ none)
        | inr gone ↦ gone.out life at
      ]
    ];
    noted = λ x there. elim (cases_eq x.0 a.0) [
      | inl e ↦ subst IsSome (sym (ap ds e ∙ i.mine)) refl
      | inr ne ↦ elim (i.others x ne) [
        | inl st ↦ subst IsSome (sym st.ctx) (k.noted x (st.noted there))
        | inr gone ↦ absurd (gone.noted there)
      ]
    ];
    single = i.single;
    runs = λ y x life at its of. elim (cases_eq x.0 a.0) [
      | inl e ↦
          let act = act-is x a e in
          let one : now ≡ life = same_Some now life (sym i.here ∙ ap q.lives (sym e) ∙ its) in
          let mine = i.runs y (at ∙ ap Some act) in (
            subst IsSome (sym (ap ds e ∙ i.mine)) refl,
            ap (λ (l : Life). l.proc) (sym one) ∙ mine.0,
            subst (λ j. stage_of q s j life ≡ Runs) (sym act) (subst (λ l. stage_of q s a l ≡ Runs) one mine.1),
          )
      | inr ne ↦ elim (i.others x ne) [
        | inl st ↦
            let old = k.runs y x life (st.runs y at) (sym st.life ∙ its) of in
            (subst IsSome (sym st.ctx) old.0, old.1, st.stage life.proc ∙ old.2)
        | inr gone ↦ absurd (gone.runs y at)
      ]
    ];
  }

  pub changed-others : RestBut s r a cs → RestBut s q a ds
  changed-others rest x d l ne at its = elim (i.others x ne) [
    | inl st ↦ subst (λ g. IsAtRest g d l) (sym (st.stage l.proc)) (rest x d l ne (sym st.ctx ∙ at) (sym st.life ∙ its))
    | inr gone ↦ absurd (none-some d (sym gone.ctx ∙ at))
  ]

  pub changed-rest : RestBut s r a cs → IsAtRest (stage_of q s a now) new now → Rest s q ds
  changed-rest rest own x d l at its = elim (cases_eq x.0 a.0) [
    | inl e ↦ is-own (λ y z m. IsAtRest (stage_of q s y m) z m) x d l e at its own
    | inr ne ↦ changed-others rest x d l ne at its
  ]
