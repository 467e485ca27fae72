-- The laws of stops, unblocks and upcalls, and of what a life owes.
use Rattle.std.proofs.Common.{◌≡◌, ◌≢◌, ℕ, ◌<◌, ◌&&◌, Bool, true, false, not, length, List, [], Option, Some, None, IsSome, Contains, is_none, ◌⊎◌, refl, sym, ap, ◌∙◌, subst, inl, inr, arith}
use Rattle.std.specs.List.{list_any}
use Rattle.std.proofs.lemmas.Option.{same_Some, slice_get_within}
use Rattle.sa_base.specs.declared.context.Seen.{Seen}
use Rattle.sa_base.specs.declared.context.Stopped.{Stopped}
use Rattle.sa_base.specs.declared.number.ActNo.{ActNo}
use Rattle.sa_base.specs.declared.number.ProcNo.{ProcNo}
use Rattle.sa_base.specs.declared.number.ThreadNo.{ThreadNo}
use Rattle.sa_base.specs.declared.record.Note.{Note}
use Rattle.sa_base.specs.declared.record.Note.TheVariants.{Add, Preempted, Blocked, Unblocked}
use Rattle.sa_base.specs.declared.record.Record.TheVariants as records
use Rattle.sa_lemmas.proofs.FunctionUpdates.{put-self}
use Rattle.sa_lemmas.proofs.ListReads.{some-below}
use Rattle.sa_lemmas.specs.Function.{put}
use Rattle.sa_spaces.specs.Workload.{WorkloadView}
use Rattle.sa_abstract.specs.Calls.{Contexts}
use Rattle.sa_abstract.specs.Keeps.{IsHanded, IsHandedOver, told_contexts}
use Rattle.sa_abstract.specs.Setting.{Setting}
use Rattle.sa_driven_model.specs.declared.context.DrivenContext.{DrivenContext}
use Rattle.sa_driven_model.specs.declared.space.DrivenSpace.{DrivenSpace}
use Rattle.sa_driven_model.specs.Stands.{driven_stands}
use Rattle.sa_driven_model.specs.Step.{driven_calls}
use Rattle.sa_laws.specs.Life.{Life}
use Rattle.sa_laws.specs.Readings.{Readings, running_of, life_of, untold_of, owner_of}
use Rattle.sa_laws.specs.Record.{after_record, same_note, stopped_with}
use Rattle.sa_laws.specs.Step.{StandsIn}
use Rattle.sa_laws.specs.declared.place.Place.TheVariants as place
use Rattle.sa_user_laws.specs.Moments.{AreSized}
use Rattle.sa_user_laws.specs.Scene.{event_begun_at, IsActing, IsOfSpace, Holds as HoldsNow, HoldsIn, IsOn}
use Rattle.sa_fast_laws.proofs.lives.PlainNotices.{add-less, blocked-less}
use Rattle.sa_fast_laws.proofs.relation.NoteLists.{any-note}
use Rattle.sa_fast_laws.proofs.relation.Notices.{note_of}
use Rattle.sa_fast_laws.specs.Stage.{is_running, was_idle}
use Rattle.sa_driven_laws.specs.DrivenFits.{Holds, DrivenHears, driven_fits, driven_hears}
use Rattle.sa_driven_laws.proofs.Changed.{changed-holds, changed-rest}
use Rattle.sa_driven_laws.proofs.Ceases.{stop-changed, stop-stage, back-changed, back-stage, back-named, back-stands, returned-stage}
use Rattle.sa_driven_laws.proofs.Frames.{begun-held, held-holds, held-others}
use Rattle.sa_driven_laws.proofs.Told.{less-hears, told-hears}
use Rattle.sa_driven_laws.proofs.Ups.{up-hears}

pub known-space : (w : WorkloadView) (s : Setting) (r : Readings) → IsOfSpace w s → AreSized w r → s.space.0 < length r.state.spaces
known-space w s r of sizes = let less = slice_get_within w.spaces s.space.0 s.def of.def in let same = sizes.spaces in omega (arith, less, same)

pub heard-space : (w : WorkloadView) (s : Setting) (r : Readings) → IsOfSpace w s → AreSized w r → s.space.0 < length r.untold
heard-space w s r of sizes = let less = slice_get_within w.spaces s.space.0 s.def of.def in let same = sizes.untold in omega (arith, less, same)

idle-or : (b : Bool) (o : Option ThreadNo) → o ≡ None → (not b && is_none o) ≡ false → b ≡ true
idle-or true o none e = refl
idle-or false o none e = absurd (let yes = sym (ap is_none none) ∙ e in cc)

-- A STOP
pub driven-stops : (w : WorkloadView) (s : Setting) (e : ℕ) (r : Readings) (u : DrivenSpace) (cs : Contexts DrivenContext) (p : ProcNo) (a : ActNo)
    (life : Life) (c : DrivenContext) (number : ℕ)
    → IsActing driven_calls driven_stands driven_fits w s e r u cs p a life c
    → ((not c.inside && is_none c.thread) ≡ (not life.inside && is_none c.thread))
    × driven_fits w s (after_record w number p (event_begun_at w number p r) (records.Stop s.space c.thread a)) u cs
driven-stops w s e r u cs p a life c number i =
    let r0 = event_begun_at w number p r in
    let begun = begun-held s.space w (record { number = number; proc = p; records = [] }) r in
    let k0 : Holds s.space r0 u.base.shared cs = held-holds s.space r r0 begun u.base.shared cs i.fit.holds in
    let known = known-space w s r i.holds.of i.holds.sizes in
    let heard = heard-space w s r i.holds.of i.holds.sizes in
    let procs = some-below r.running p.0 a i.on.runs in
    let own = i.fit.rest a c life i.on.mine i.on.is in
    let runs = (i.fit.holds.runs p a life i.on.runs i.on.is i.on.space).2 in
    let x = stop-changed s e u cs i.holds.value s.space r0 k0 a c i.on.mine w number p life i.on.is i.on.space known heard i.on.runs procs in
    let stage = stop-stage s e u cs i.holds.value s.space r0 k0 a c i.on.mine w number p life i.on.is i.on.space known heard i.on.runs procs in (
      ap (λ b. not b && is_none c.thread) (sym (own.inside (ap is_running runs))),
      record {
        holds = changed-holds s.space r0 _ u.base.shared u.base.shared cs cs a _ c x k0;
        rest = changed-rest s.space r0 _ u.base.shared u.base.shared cs cs a _ c x
            (held-others s.space r r0 begun a cs (λ y d l ne at is. i.fit.rest y d l at is))
            (record {
              lowers = own.lowers;
              inside = λ yes. absurd (let no = ap is_running stage in cc);
              busy = λ no none idle. idle-or life.inside c.thread none (sym (ap (λ g. was_idle g (stopped_with c.thread life)) stage) ∙ idle);
            });
      },
    )

-- A RETURN
not-any : (kind : Bool) (b : ActNo) (ns : List Note) → (Contains ns (note_of kind b) → ⊥) → list_any (same_note (note_of kind b)) ns ≡ false
not-any kind b ns never = by (list_any (same_note (note_of kind b)) ns) refl where
  by : (z : Bool) → list_any (same_note (note_of kind b)) ns ≡ z → list_any (same_note (note_of kind b)) ns ≡ false
  by false is = is
  by true is = absurd (never (any-note kind b ns is))

pub driven-unblocks : (w : WorkloadView) (s : Setting) (e : ℕ) (r : Readings) (u : DrivenSpace) (cs : Contexts DrivenContext) (p : ProcNo) (a : ActNo)
    (life : Life) (c : DrivenContext) (number : ℕ)
    → HoldsNow driven_stands w s e r u cs → driven_fits w s r u cs → cs a.0 ≡ Some c → life_of r a ≡ Some life → life.space ≡ s.space
    → ((q : ProcNo) → running_of r q ≢ Some a)
    → (Contains (untold_of r s.space) (Preempted a) → ⊥) → (Contains (untold_of r s.space) (Unblocked a) → ⊥)
    → StandsIn place.Blocked r.state s.space life.thread
    × driven_fits w s (after_record w number p r (records.Unblock s.space life.thread a)) u cs
driven-unblocks w s e r u cs p a life c number h k mine is of nowhere no_stop no_back =
    let known = known-space w s r h.of h.sizes in
    let heard = heard-space w s r h.of h.sizes in
    let stops = not-any true a (untold_of r s.space) no_stop in
    let backs = not-any false a (untold_of r s.space) no_back in
    let name = back-named s e u cs h.value s.space r k.holds a c mine w number p life is of known heard nowhere stops backs in
    let x = back-changed s e u cs h.value s.space r k.holds a c mine w number p life is of known heard nowhere stops backs in
    let was = back-stage s e u cs h.value s.space r k.holds a c mine w number p life is of known heard nowhere stops backs in
    let stage = returned-stage s e u cs h.value s.space r k.holds a c mine w number p life is of known heard nowhere stops backs in
    let own = k.rest a c life mine is in (
      subst (λ t. StandsIn place.Blocked r.state s.space t) (sym name)
          (back-stands s e u cs h.value s.space r k.holds a c mine w number p life is of known heard nowhere stops backs),
      subst (λ t. driven_fits w s (after_record w number p r (records.Unblock s.space t a)) u cs) (sym name) (record {
        holds = changed-holds s.space r _ u.base.shared u.base.shared cs cs a _ c x k.holds;
        rest = changed-rest s.space r _ u.base.shared u.base.shared cs cs a _ c x (λ y d l ne at is. k.rest y d l at is) (record {
          lowers = own.lowers;
          inside = λ yes. absurd (let no = ap is_running stage in cc);
          busy = λ no none idle. own.busy (ap is_running was) none (ap (λ g. was_idle g life) was);
        });
      }),
    )

-- AN UPCALL begins
pub driven-begins : (w : WorkloadView) (s : Setting) (e : ℕ) (r : Readings) (u : DrivenSpace) (cs : Contexts DrivenContext) (p : ProcNo) (n : ActNo)
    (seen : Seen) (number : ℕ)
    → HoldsIn driven_stands w s e r u cs → driven_fits w s r u cs → seen.proc ≡ p → p.0 < w.processors → owner_of r p ≡ Some s.space
    → running_of r p ≡ None → life_of r n ≡ None → cs n.0 ≡ None → ((q : ProcNo) → running_of r q ≢ Some n)
    → driven_hears w s (after_record w number p r (records.Up s.space n)) n (driven_calls.begun u seen).0 (put cs n.0 (Some (driven_calls.begun u seen).1))
driven-begins w s e r u cs p n seen number h k proc below owner free unused none nowhere =
    up-hears s.space r u.base.shared cs k.holds w number p n free unused none nowhere (let all = h.sizes.running in omega (arith, below, all)) k.rest

-- NOTICES
pub driven-tells_add : (w : WorkloadView) (s : Setting) (e : ℕ) (r : Readings) (u : DrivenSpace) (cs : Contexts DrivenContext) (p : ProcNo) (n : ActNo)
    (c : DrivenContext) (number : ℕ) (z : ProcNo)
    → HoldsIn driven_stands w s e r u cs → driven_hears w s r n u cs → cs n.0 ≡ Some c → r.upped ≡ Some n
    → driven_hears w s (after_record w number p r (records.Told (Add z))) n u (put cs n.0 (Some c))
driven-tells_add w s e r u cs p n c number z h k is upped =
    let q = after_record w number p r (records.Told (Add z)) in
    subst (DrivenHears s.space q n u.base.shared) (sym (ap (put cs n.0) (sym is) ∙ put-self cs n.0))
    (less-hears s.space r q (Add z) u.base.shared cs (add-less w s.space r p number z) n k)

pub driven-tells_blocked : (w : WorkloadView) (s : Setting) (e : ℕ) (r : Readings) (u : DrivenSpace) (cs : Contexts DrivenContext) (p : ProcNo)
    (n : ActNo) (c : DrivenContext) (number : ℕ) (z : ActNo)
    → HoldsIn driven_stands w s e r u cs → driven_hears w s r n u cs → cs n.0 ≡ Some c → r.upped ≡ Some n → Contains (untold_of r s.space) (Blocked z)
    → driven_hears w s (after_record w number p r (records.Told (Blocked z))) n u (put cs n.0 (Some c))
driven-tells_blocked w s e r u cs p n c number z h k is upped has =
    let q = after_record w number p r (records.Told (Blocked z)) in
    subst (DrivenHears s.space q n u.base.shared) (sym (ap (put cs n.0) (sym is) ∙ put-self cs n.0))
    (less-hears s.space r q (Blocked z) u.base.shared cs (blocked-less w s.space r p number z) n k)

pub driven-tells : (w : WorkloadView) (s : Setting) (e : ℕ) (r : Readings) (u : DrivenSpace) (cs : Contexts DrivenContext) (p : ProcNo) (n : ActNo)
    (c : DrivenContext) (number : ℕ) (note : Note) (b : ActNo) (life : Life) (held : Stopped DrivenContext)
    → HoldsIn driven_stands w s e r u cs → driven_hears w s r n u cs → cs n.0 ≡ Some c → r.upped ≡ Some n → Contains (untold_of r s.space) note
    → (note ≡ Preempted b) ⊎ (note ≡ Unblocked b)
    → life_of r b ≡ Some life → life.space ≡ s.space → held.thread ≡ life.thread → IsHanded cs n.0 note (Some held)
    → driven_hears w s (after_record w number p r (records.Told note)) n (driven_calls.told u c note (Some held)).0
    (told_contexts cs n.0 (driven_calls.told u c note (Some held)).1 note)
driven-tells w s e r u cs p n c number note b life held h k is upped told kind there of thread handed = elim kind [
  | inl stop ↦
      subst
      (λ m. driven_hears w s (after_record w number p r (records.Told m)) n (driven_calls.told u c m (Some held)).0
      (told_contexts cs n.0 (driven_calls.told u c m (Some held)).1 m)) (sym stop)
      (over true (subst (λ m. IsHanded cs n.0 m (Some held)) stop handed) (subst (λ m. Contains (untold_of r s.space) m) stop told))
  | inr back ↦
      subst
      (λ m. driven_hears w s (after_record w number p r (records.Told m)) n (driven_calls.told u c m (Some held)).0
      (told_contexts cs n.0 (driven_calls.told u c m (Some held)).1 m)) (sym back)
      (over false (subst (λ m. IsHanded cs n.0 m (Some held)) back handed) (subst (λ m. Contains (untold_of r s.space) m) back told))
] where
  -- the value after it, whichever notice it is
  abbrev-hears : (kd : Bool) → Type 0
  abbrev-hears kd = driven_hears w s (after_record w number p r (records.Told (note_of kd b))) n (driven_calls.told u c (note_of true b) (Some held)).0
      (put (put cs n.0 (Some (driven_calls.told u c (note_of true b) (Some held)).1)) b.0 None)

  over : (kd : Bool) → IsHandedOver cs n.0 b.0 (Some held) → Contains (untold_of r s.space) (note_of kd b) → abbrev-hears kd
  over kd o has =
      let same : o.stopped ≡ held = sym (same_Some held o.stopped o.is) in
      let theirs : cs b.0 ≡ Some held.ctx = o.theirs ∙ ap (λ (z : Stopped DrivenContext). Some z.ctx) same in
      let its = k.holds.lives n c is in
      told-hears s e u cs h.value s.space r k.holds n b c held.ctx is theirs o.differ w number p its.0 life its.1 there upped (k.runs its.0 its.1) kd has
      (k.lowers c is) k.others

-- WHAT A LIFE OWES
pub driven-inside : (w : WorkloadView) (s : Setting) (e : ℕ) (r : Readings) (u : DrivenSpace) (cs : Contexts DrivenContext) (a : ActNo) (life : Life)
    → HoldsNow driven_stands w s e r u cs → driven_fits w s r u cs
    → life_of r a ≡ Some life → life.space ≡ s.space → life.inside ≡ true → IsSome (cs a.0)
driven-inside w s e r u cs a life h k is of inside = by (cs a.0) refl where
  by : (o : Option DrivenContext) → cs a.0 ≡ o → IsSome (cs a.0)
  by (Some c) at = subst IsSome (sym at) refl
  by None at = absurd (let bare = k.holds.others a life is of at in let no_such = sym bare ∙ inside in cc)

pub driven-owes : (w : WorkloadView) (s : Setting) (e : ℕ) (r : Readings) (u : DrivenSpace) (cs : Contexts DrivenContext) (p : ProcNo) (a : ActNo)
    (life : Life) (c : DrivenContext)
    → HoldsNow driven_stands w s e r u cs → driven_fits w s r u cs → IsOn s.space r p a life cs c → life.inside ≡ c.inside
driven-owes w s e r u cs p a life c h k on =
    (k.rest a c life on.mine on.is).inside (ap is_running (k.holds.runs p a life on.runs on.is on.space).2)
