-- The laws of notices: the context of a life that stopped or came back is handed over.
use Rattle.std.proofs.Common.{◌≡◌, ◌≢◌, ◌⊎◌, ℕ, Bool, true, false, List, [], Option, Some, None, slice_index_or, Contains, refl, sym, ap, ◌∙◌, subst, inl, inr}
use Rattle.std.proofs.lemmas.Bool.{cases_eq}
use Rattle.std.proofs.lemmas.Option.{same_Some, none-some}
use Rattle.sa_base.specs.declared.context.Stopped.{Stopped}
use Rattle.sa_base.specs.declared.number.ActNo.{ActNo}
use Rattle.sa_base.specs.declared.number.ProcNo.{ProcNo}
use Rattle.sa_base.specs.declared.number.ThreadNo.{ThreadNo}
use Rattle.sa_base.specs.declared.record.Note.{Note}
use Rattle.sa_base.specs.declared.record.Note.TheVariants.{Add, Preempted, Blocked, Unblocked}
use Rattle.sa_base.specs.declared.record.Record.TheVariants as records
use Rattle.sa_lemmas.proofs.FunctionUpdates.{put-same, put-other, put-self}
use Rattle.sa_lemmas.specs.Function.{put}
use Rattle.sa_spaces.specs.Workload.{WorkloadView}
use Rattle.sa_code.specs.declared.state.Frame.{Frame}
use Rattle.sa_abstract.specs.Calls.{Contexts}
use Rattle.sa_abstract.specs.Keeps.{IsHanded, IsHandedOver, told_contexts}
use Rattle.sa_abstract.specs.Setting.{Setting}
use Rattle.sa_package_model.specs.Context.{carried_by}
use Rattle.sa_package_model.specs.Rules.{took_over}
use Rattle.sa_package_model.specs.declared.context.Context.{Context}
use Rattle.sa_package_model.specs.declared.context.ContextState.TheVariants.{Work}
use Rattle.sa_laws.specs.Life.{Life}
use Rattle.sa_laws.specs.Readings.{Readings, running_of, life_of, untold_of, ready_of}
use Rattle.sa_laws.specs.Record.{after_record}
use Rattle.sa_laws.specs.State.{space_at}
use Rattle.sa_user_laws.specs.Scene.{HoldsIn}
use Rattle.sa_fast_laws.proofs.relation.Notices.{note_of}
use Rattle.sa_fast_laws.proofs.lives.Upcalls.{hand-hears, add-hears, blocked-hears}
use Rattle.sa_fast_laws.specs.Rests.{LivesHear}
use Rattle.sa_prio_model.proofs.Contexts.{bases-put}
use Rattle.sa_prio_model.specs.Prio.{Prio, with_base}
use Rattle.sa_prio_model.specs.Stands.{bases, prio_stands}
use Rattle.sa_prio_model.specs.Step.{prio_calls}
use Rattle.sa_prio_model.specs.declared.context.PrioContext.{PrioContext}
use Rattle.sa_prio_laws.proofs.relation.Ranked.{ranked-kept}
use Rattle.sa_prio_laws.specs.PrioFits.{prio_view, PrioHears, prio_hears}
use Rattle.sa_prio_laws.specs.Ready.{FitsRanked}
use Rattle.sa_prio_laws.proofs.frames.Frames.{plain, base-is}

-- NOTICES that hand nothing over
pub prio-tells_add : (w : WorkloadView) (s : Setting) (e : ℕ) (r : Readings) (v : Prio) (cs : Contexts PrioContext) (p : ProcNo) (n : ActNo)
    (c : PrioContext) (number : ℕ) (z : ProcNo)
    → HoldsIn prio_stands w s e r v cs → prio_hears w s r n v cs → cs n.0 ≡ Some c → r.upped ≡ Some n
    → prio_hears w s (after_record w number p r (records.Told (Add z))) n v (put cs n.0 (Some c))
prio-tells_add w s e r v cs p n c number z h k is upped =
    let q = after_record w number p r (records.Told (Add z)) in
    subst (PrioHears s.space q n v) (sym (ap (put cs n.0) (sym is) ∙ put-self cs n.0))
    (record { lives = add-hears prio_view s.space r v.base (bases cs) cs w p n number z k.lives; ranked = k.ranked; on = k.on; calm = k.calm })

pub prio-tells_blocked : (w : WorkloadView) (s : Setting) (e : ℕ) (r : Readings) (v : Prio) (cs : Contexts PrioContext) (p : ProcNo) (n : ActNo)
    (c : PrioContext) (number : ℕ) (z : ActNo)
    → HoldsIn prio_stands w s e r v cs → prio_hears w s r n v cs → cs n.0 ≡ Some c → r.upped ≡ Some n → Contains (untold_of r s.space) (Blocked z)
    → prio_hears w s (after_record w number p r (records.Told (Blocked z))) n v (put cs n.0 (Some c))
prio-tells_blocked w s e r v cs p n c number z h k is upped has =
    let q = after_record w number p r (records.Told (Blocked z)) in
    subst (PrioHears s.space q n v) (sym (ap (put cs n.0) (sym is) ∙ put-self cs n.0))
    (record { lives = blocked-hears prio_view s.space r v.base (bases cs) cs w p n number z k.lives; ranked = k.ranked; on = k.on; calm = k.calm })

-- NOTICES of a stop or a return leave who runs where, and the ready list
pub record IsToldPlainly (r q : Readings) : Type 0 where
  pub state : q.state ≡ r.state
  pub ready : q.ready ≡ r.ready
  pub running : q.running ≡ r.running

told-plainly : (w : WorkloadView) (number : ℕ) (p : ProcNo) (r : Readings) (kind : Bool) (b : ActNo)
    → IsToldPlainly r (after_record w number p r (records.Told (note_of kind b)))
told-plainly w number p r true b = record { state = refl; ready = refl; running = refl }
told-plainly w number p r false b = record { state = refl; ready = refl; running = refl }

module _ (w : WorkloadView) (s : Setting) (e : ℕ) (r : Readings) (v : Prio) (cs : Contexts PrioContext) (p : ProcNo) (n : ActNo) (ss : List Frame)
    (wk : Option ThreadNo) (number : ℕ) (b : ActNo) (life : Life) (d : PrioContext)
    (h : HoldsIn prio_stands w s e r v cs) (k : PrioHears s.space r n v cs)
    (is : cs n.0 ≡ Some (record { base = record { state = Work None; sections = ss; work = wk }; urge = false })) (upped : r.upped ≡ Some n)
    (there : life_of r b ≡ Some life) (theirs : cs b.0 ≡ Some d) (differ : b.0 ≢ n.0) where
  abbrev c : Context
  c = record { state = Work None; sections = ss; work = wk }

  abbrev new : PrioContext
  new = record { base = (took_over v.base (record { state = Work None; sections = ss; work = wk }) d.base).ctx; urge = false }

  abbrev pub told_value : Prio
  told_value = with_base v (took_over v.base (record { state = Work None; sections = ss; work = wk }) d.base).user

  abbrev pub told_cs : Contexts PrioContext
  told_cs =
      put (put cs n.0 (Some (record { base = (took_over v.base (record { state = Work None; sections = ss; work = wk }) d.base).ctx; urge = false }))) b.0 None

  pub tells-by : (kind : Bool) → Contains (untold_of r s.space) (note_of kind b)
      → PrioHears s.space (after_record w number p r (records.Told (note_of kind b))) n told_value told_cs
  tells-by kind told =
      let q = after_record w number p r (records.Told (note_of kind b)) in
      let plain = told-plainly w number p r kind b in
      let mixed = took_over v.base c d.base in
      let base : bases told_cs ≡ put (put (bases cs) n.0 (Some mixed.ctx)) b.0 None =
      bases-put (put cs n.0 (Some new)) b.0 None ∙ ap (λ bs. put bs b.0 None) (bases-put cs n.0 (Some new)) in
      let hears = hand-hears prio_view s e r v.base (bases cs) cs h.value.base n b k.lives ss wk d.base (base-is cs n.0 _ is) (base-is cs b.0 d theirs) differ
      life there upped w p number kind told new in
      let at_n : told_cs n.0 ≡ Some new = put-other (put cs n.0 (Some new)) b.0 n.0 None (λ x. differ (sym x)) ∙ put-same cs n.0 (Some new) in
      record {
        lives = subst (λ bs. LivesHear prio_view s.space q n mixed.user bs told_cs) (sym base) hears;
        ranked = ranked-kept s.space r q v.base mixed.user (bases cs) (put (put (bases cs) n.0 (Some mixed.ctx)) b.0 None) k.lives.holds hears.holds
            (ap (λ a. space_at a s.space) plain.state) refl (ready_of q s.space)
            (subst (FitsRanked v.base) (sym (ap (λ ls. slice_index_or ls s.space.0 []) plain.ready)) k.ranked);
        on = λ y x z at mine.
            let runs : running_of r y ≡ Some x = sym (ap (λ ps. slice_index_or ps y.0 None) plain.running) ∙ at in elim (cases_eq x.0 b.0) [
              | inl same ↦ absurd (none-some z (sym (ap told_cs same ∙ put-same (put cs n.0 (Some new)) b.0 None) ∙ mine))
              | inr nb ↦ elim (cases_eq x.0 n.0) [
                | inl here ↦
                    let one : new ≡ z = same_Some new z (sym at_n ∙ sym (ap told_cs here) ∙ mine) in
                    let state : (Work None) ≡ z.base.state =
                    sym
                    (hears.begins mixed.ctx
                    (put-other (put (bases cs) n.0 (Some mixed.ctx)) b.0 n.0 None (λ x. differ (sym x)) ∙ put-same (bases cs) n.0 (Some mixed.ctx)))
                    ∙ ap (λ (y : PrioContext). y.base.state) one in
                    k.on y x (record { base = c; urge = false }) runs (ap cs here ∙ is) ∙ ap carried_by state
                | inr ne ↦ k.on y x z runs (sym (put-other cs n.0 x.0 (Some new) ne) ∙ sym (put-other (put cs n.0 (Some new)) b.0 x.0 None nb) ∙ mine)
              ]
            ];
        calm = λ z mine. ap (λ (y : PrioContext). y.urge) (sym (same_Some new z (sym at_n ∙ mine)));
      }

pub prio-tells : (w : WorkloadView) (s : Setting) (e : ℕ) (r : Readings) (v : Prio) (cs : Contexts PrioContext) (p : ProcNo) (n : ActNo)
    (c : PrioContext) (number : ℕ) (note : Note) (b : ActNo) (life : Life) (held : Stopped PrioContext)
    → HoldsIn prio_stands w s e r v cs → prio_hears w s r n v cs → cs n.0 ≡ Some c → r.upped ≡ Some n → Contains (untold_of r s.space) note
    → (note ≡ Preempted b) ⊎ (note ≡ Unblocked b)
    → life_of r b ≡ Some life → life.space ≡ s.space → held.thread ≡ life.thread → IsHanded cs n.0 note (Some held)
    → prio_hears w s (after_record w number p r (records.Told note)) n (prio_calls.told v c note (Some held)).0
    (told_contexts cs n.0 (prio_calls.told v c note (Some held)).1 note)
prio-tells w s e r v cs p n c number note b life held h k is upped told kind there of thread handed =
    let c_is : c ≡ record { base = record { state = Work None; sections = c.base.sections; work = c.base.work }; urge = false } =
    ap (λ x. record { base = record { state = x; sections = c.base.sections; work = c.base.work }; urge = c.urge })
    (k.lives.begins c.base (base-is cs n.0 c is))
    ∙ ap (λ x. record { base = record { state = Work None; sections = c.base.sections; work = c.base.work }; urge = x }) (k.calm c is) in
    subst
    (λ y. prio_hears w s (after_record w number p r (records.Told note)) n (prio_calls.told v y note (Some held)).0
    (told_contexts cs n.0 (prio_calls.told v y note (Some held)).1 note)) (sym c_is) (elim kind [
      | inl stop ↦ subst (λ m. prio_hears w s (after_record w number p r (records.Told m)) n (prio_calls.told v (plain c) m (Some held)).0
          (told_contexts cs n.0 (prio_calls.told v (plain c) m (Some held)).1 m)) (sym stop)
          (over true (is ∙ ap Some c_is) (subst (λ m. IsHanded cs n.0 m (Some held)) stop handed) (subst (λ m. Contains (untold_of r s.space) m) stop told))
      | inr back ↦ subst (λ m. prio_hears w s (after_record w number p r (records.Told m)) n (prio_calls.told v (plain c) m (Some held)).0
          (told_contexts cs n.0 (prio_calls.told v (plain c) m (Some held)).1 m)) (sym back)
          (over false (is ∙ ap Some c_is) (subst (λ m. IsHanded cs n.0 m (Some held)) back handed) (subst (λ m. Contains (untold_of r s.space) m) back told))
    ]) where
      over : (kd : Bool) → cs n.0 ≡ Some (plain c) → IsHandedOver cs n.0 b.0 (Some held) → Contains (untold_of r s.space) (note_of kd b)
          → PrioHears s.space (after_record w number p r (records.Told (note_of kd b))) n
          (with_base v (took_over v.base (record { state = Work None; sections = c.base.sections; work = c.base.work }) held.ctx.base).user)
          (put (put cs n.0 (Some
          (record {
            base = (took_over v.base (record { state = Work None; sections = c.base.sections; work = c.base.work }) held.ctx.base).ctx;
            urge = false;
          }))) b.0 None)
      over kd mine o has =
          let same : o.stopped ≡ held = sym (same_Some held o.stopped o.is) in
          tells-by w s e r v cs p n c.base.sections c.base.work number b life held.ctx h k mine upped there
          (o.theirs ∙ ap (λ (z : Stopped PrioContext). Some z.ctx) same) o.differ kd has
