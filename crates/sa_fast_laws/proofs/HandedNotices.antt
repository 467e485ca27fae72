-- The laws of the notices that are told in an upcall, and of its end.
use Rattle.std.proofs.Common.{[], slice_index_or, ◌≡◌, ℕ, Bool, true, false, ◌||◌, List, Option, Some, None, is_some, sym, ap, ◌∙◌, subst, inl, inr, ◌≢◌, Contains, ◌⊎◌}
use Rattle.std.proofs.lemmas.Option.{same_Some}
use Rattle.std.specs.Option.{option_map}
use Rattle.sa_base.specs.declared.context.Seen.{Seen}
use Rattle.sa_base.specs.declared.context.Stopped.{Stopped}
use Rattle.sa_base.specs.declared.number.ActNo.{ActNo}
use Rattle.sa_base.specs.declared.number.ProcNo.{ProcNo}
use Rattle.sa_base.specs.declared.number.ThreadNo.{ThreadNo}
use Rattle.sa_base.specs.declared.record.Note.{Note}
use Rattle.sa_base.specs.declared.record.Note.TheVariants.{Add, Preempted, Blocked, Unblocked}
use Rattle.sa_base.specs.declared.record.Record.TheVariants as records
use Rattle.sa_lemmas.proofs.FunctionUpdates.{put-self}
use Rattle.sa_lemmas.specs.Function.{put}
use Rattle.sa_spaces.specs.Workload.{WorkloadView}
use Rattle.sa_lists.specs.ReadyView.{thread}
use Rattle.sa_code.specs.declared.state.Frame.{Frame}
use Rattle.sa_abstract.specs.Calls.{Contexts}
use Rattle.sa_abstract.specs.Keeps.{IsHanded, told_contexts, IsHandedOver}
use Rattle.sa_abstract.specs.Setting.{Setting}
use Rattle.sa_package_model.specs.Context.{has_some, settled_to, has_bulk}
use Rattle.sa_package_model.specs.Rules.{owed, took_over}
use Rattle.sa_package_model.specs.Stands.{IsStanding, fast_stands}
use Rattle.sa_package_model.specs.Step.{fast_calls}
use Rattle.sa_package_model.specs.declared.context.Context.{Context}
use Rattle.sa_package_model.specs.declared.context.ContextState.TheVariants.{Work}
use Rattle.sa_package_model.specs.declared.package.Package.{Package}
use Rattle.sa_laws.specs.Event.{Event}
use Rattle.sa_laws.specs.History.{is_inside, arisen}
use Rattle.sa_laws.specs.Life.{Life}
use Rattle.sa_laws.specs.Readings.{Readings, running_of, life_of, untold_of}
use Rattle.sa_laws.specs.Record.{after_record, with_life}
use Rattle.sa_user_laws.specs.Moments.{AlikeButEnds, Sees}
use Rattle.sa_user_laws.specs.Scene.{Holds as HoldsNow, HoldsIn}
use Rattle.sa_fast_laws.proofs.relation.Notices.{note_of}
use Rattle.sa_fast_laws.specs.FastFits.{FitsLists, FastFits, fast_fits, FastHears, fast_hears}
use Rattle.sa_fast_laws.specs.View.{view}
use Rattle.sa_fast_laws.proofs.notices.Handovers.{told-ready}
use Rattle.sa_fast_laws.proofs.lives.Answers.{settled_new, answer-inside, answer-fits}
use Rattle.sa_fast_laws.proofs.lives.Upcalls.{hand-hears, add-hears, blocked-hears}
use Rattle.sa_fast_laws.proofs.FrameLaws.{hears-of, told-of, fits-of}

-- A NOTICE OF A STOP OR AN UNBLOCK
module _ (w : WorkloadView) (s : Setting) (e : ℕ) (r : Readings) (u : Package) (cs : Contexts Context) (p : ProcNo) (n : ActNo) (ss : List Frame)
    (wk : Option ThreadNo) (number : ℕ) (b : ActNo) (life : Life) (d : Context)
    (h : IsStanding s e u cs) (k : FastHears s.space r n u cs) (is : cs n.0 ≡ Some (record { state = Work None; sections = ss; work = wk }))
    (upped : r.upped ≡ Some n) (there : life_of r b ≡ Some life)
    (theirs : cs b.0 ≡ Some d) (differ : b.0 ≢ n.0) where
  abbrev c : Context
  c = record { state = Work None; sections = ss; work = wk }

  abbrev new : Context
  new = (took_over u c d).ctx

  pub tells-by : (kind : Bool) → Contains (untold_of r s.space) (note_of kind b)
      → FastHears s.space (after_record w number p r (records.Told (note_of kind b))) n
      (took_over u (record { state = Work None; sections = ss; work = wk }) d).user
      (put (put cs n.0 (Some (took_over u (record { state = Work None; sections = ss; work = wk }) d).ctx)) b.0 None)
  tells-by kind told =
      let its = k.holds.lives n c is in
      let runs = k.runs its.0 its.1 in
      hears-of s.space _ _ _ n
      (subst (FitsLists u) (sym
      (ap (λ ls. slice_index_or ls s.space.0 [])
      (told-ready s e u cs h s.space r k.holds n b ss wk d is theirs differ w number p its.0 life its.1 there upped runs.0 kind told))) k.lists)
      (hand-hears view s e r u cs cs h n b (told-of s.space r u cs n k) ss wk d is theirs differ life there upped w p number kind told new)

pub fast-tells : (w : WorkloadView) (s : Setting) (e : ℕ) (r : Readings) (u : Package) (cs : Contexts Context) (p : ProcNo) (n : ActNo) (c : Context)
    (number : ℕ) (note : Note) (b : ActNo) (life : Life) (held : Stopped Context)
    → HoldsIn fast_stands w s e r u cs → fast_hears w s r n u cs → cs n.0 ≡ Some c → r.upped ≡ Some n → Contains (untold_of r s.space) note
    → (note ≡ Preempted b) ⊎ (note ≡ Unblocked b)
    → life_of r b ≡ Some life → life.space ≡ s.space → held.thread ≡ life.thread → IsHanded cs n.0 note (Some held)
    → fast_hears w s (after_record w number p r (records.Told note)) n (fast_calls.told u c note (Some held)).0
    (told_contexts cs n.0 (fast_calls.told u c note (Some held)).1 note)
fast-tells w s e r u cs p n c number note b life held h k is upped told kind there of thread handed =
    let c_is : c ≡ record { state = Work None; sections = c.sections; work = c.work } =
    ap (λ x. record { state = x; sections = c.sections; work = c.work }) (k.begins c is) in
    subst
    (λ y. fast_hears w s (after_record w number p r (records.Told note)) n (fast_calls.told u y note (Some held)).0
    (told_contexts cs n.0 (fast_calls.told u y note (Some held)).1 note)) (sym c_is) (elim kind [
      | inl stop ↦
          subst
          (λ m. fast_hears w s (after_record w number p r (records.Told m)) n
          (fast_calls.told u (record { state = Work None; sections = c.sections; work = c.work }) m (Some held)).0
          (told_contexts cs n.0 (fast_calls.told u (record { state = Work None; sections = c.sections; work = c.work }) m (Some held)).1 m)) (sym stop)
          (over true (subst (λ m. IsHanded cs n.0 m (Some held)) stop handed) (subst (λ m. Contains (untold_of r s.space) m) stop told))
      | inr back ↦
          subst
          (λ m. fast_hears w s (after_record w number p r (records.Told m)) n
          (fast_calls.told u (record { state = Work None; sections = c.sections; work = c.work }) m (Some held)).0
          (told_contexts cs n.0 (fast_calls.told u (record { state = Work None; sections = c.sections; work = c.work }) m (Some held)).1 m)) (sym back)
          (over false (subst (λ m. IsHanded cs n.0 m (Some held)) back handed) (subst (λ m. Contains (untold_of r s.space) m) back told))
    ]) where
      over : (kd : Bool) → IsHandedOver cs n.0 b.0 (Some held) → Contains (untold_of r s.space) (note_of kd b)
          → FastHears s.space (after_record w number p r (records.Told (note_of kd b))) n
          (took_over u (record { state = Work None; sections = c.sections; work = c.work }) held.ctx).user
          (put (put cs n.0 (Some (took_over u (record { state = Work None; sections = c.sections; work = c.work }) held.ctx).ctx)) b.0 None)
      over kd o has =
          let same : o.stopped ≡ held = sym (same_Some held o.stopped o.is) in
          tells-by w s e r u cs p n c.sections c.work number b life held.ctx h.value k
          (is ∙ ap Some (ap (λ x. record { state = x; sections = c.sections; work = c.work }) (k.begins c is))) upped there
          (o.theirs ∙ ap (λ (z : Stopped Context). Some z.ctx) same) o.differ kd has

-- NOTICES that hand nothing over
pub fast-tells_add : (w : WorkloadView) (s : Setting) (e : ℕ) (r : Readings) (u : Package) (cs : Contexts Context) (p : ProcNo) (n : ActNo)
    (c : Context) (number : ℕ) (z : ProcNo)
    → HoldsIn fast_stands w s e r u cs → fast_hears w s r n u cs → cs n.0 ≡ Some c → r.upped ≡ Some n
    → fast_hears w s (after_record w number p r (records.Told (Add z))) n u (put cs n.0 (Some c))
fast-tells_add w s e r u cs p n c number z h k is upped =
    let q = after_record w number p r (records.Told (Add z)) in
    subst (FastHears s.space q n u) (sym (ap (put cs n.0) (sym is) ∙ put-self cs n.0))
    (hears-of s.space q u cs n k.lists (add-hears view s.space r u cs cs w p n number z (told-of s.space r u cs n k)))

pub fast-tells_blocked : (w : WorkloadView) (s : Setting) (e : ℕ) (r : Readings) (u : Package) (cs : Contexts Context) (p : ProcNo) (n : ActNo)
    (c : Context) (number : ℕ) (z : ActNo)
    → HoldsIn fast_stands w s e r u cs → fast_hears w s r n u cs → cs n.0 ≡ Some c → r.upped ≡ Some n → Contains (untold_of r s.space) (Blocked z)
    → fast_hears w s (after_record w number p r (records.Told (Blocked z))) n u (put cs n.0 (Some c))
fast-tells_blocked w s e r u cs p n c number z h k is upped has =
    let q = after_record w number p r (records.Told (Blocked z)) in
    subst (FastHears s.space q n u) (sym (ap (put cs n.0) (sym is) ∙ put-self cs n.0))
    (hears-of s.space q u cs n k.lists (blocked-hears view s.space r u cs cs w p n number z (told-of s.space r u cs n k)))

-- THE END OF AN UPCALL
pub fast-answers : (w : WorkloadView) (s : Setting) (e : ℕ) (before r last : Readings) (ev : Event) (u : Package) (cs : Contexts Context) (n : ActNo)
    (c : Context) (seen : Seen)
    → HoldsNow fast_stands w s e r u cs → fast_hears w s r n u cs → cs n.0 ≡ Some c → running_of r ev.proc ≡ Some n
    → Contains ev.records (records.Up s.space n) → AlikeButEnds last r → Sees s.space r ev.proc ev.number seen
    → fast_fits w s (record r { lives = with_life (arisen is_inside w before ev last) (Some n) r.lives }) (fast_calls.answered u seen c).0
    (put cs n.0 (Some (fast_calls.answered u seen c).1))
fast-answers w s e before r last ev u cs n c seen h k is runs upped alike sees =
    let c_is : c ≡ record { state = Work None; sections = c.sections; work = c.work } =
    ap (λ x. record { state = x; sections = c.sections; work = c.work }) (k.begins c is) in
    subst
    (λ y. fast_fits w s (record r { lives = with_life (arisen is_inside w before ev last) (Some n) r.lives }) (fast_calls.answered u seen y).0
    (put cs n.0 (Some (fast_calls.answered u seen y).1))) (sym c_is)
    (by c.sections c.work (is ∙ ap Some c_is)) where
      by : (fs : List Frame) (wk : Option ThreadNo) → cs n.0 ≡ Some (record { state = Work None; sections = fs; work = wk })
          → fast_fits w s (record r { lives = with_life (arisen is_inside w before ev last) (Some n) r.lives }) u
          (put cs n.0 (Some (record { state = settled_to None (has_some fs || is_some wk) (is_some (owed u seen)) (has_bulk seen); sections = fs; work = wk })))
      by fs wk at =
          let new = settled_new w s e before r last ev u cs n fs wk seen h.of h.value h.moment at runs alike sees in
          let its = k.holds.lives n (record { state = Work None; sections = fs; work = wk }) at in
          let inside = is_inside w before ev last true its.0 in
          let lives = told-of s.space r u cs n k in
          let is_in = answer-inside w s e before r last ev u cs n fs wk seen h.of h.value h.moment at runs alike sees view cs lives in
          subst (λ ls. FastFits s.space (record r { lives = ls }) u (put cs n.0 (Some new)))
          (sym (ap (λ o. put r.lives n.0 (option_map (arisen is_inside w before ev last) o)) its.1))
          (fits-of s.space _ u (put cs n.0 (Some new)) k.lists
          (answer-fits w s e before r last ev u cs n fs wk seen h.of h.value h.moment at runs alike sees view cs lives new inside
          (ap (λ b. record (view new) { inside = b }) (sym is_in))))
