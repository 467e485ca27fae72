-- The laws of stops, of returns and of an upcall's beginning, and who is in.
use Rattle.std.proofs.Common.{◌≡◌, ◌≢◌, ℕ, ◌<◌, Bool, true, false, ◌&&◌, ◌||◌, not, length, List, Option, Some, None, IsSome, is_none, slice_set, slice_index_or, option_map, length-set, ◌≤◌, Contains, refl, sym, ap, ◌∙◌, subst, inl, inr, arith}
use Rattle.std.proofs.lemmas.Bool.{cases_eq, cases_lt}
use Rattle.std.proofs.lemmas.List.{get_or-set_same, get_or-set_other, get_or_past}
use Rattle.std.proofs.lemmas.Option.{same_Some, none-some}
use Rattle.sa_base.specs.declared.context.Seen.{Seen}
use Rattle.sa_base.specs.declared.number.ActNo.{ActNo}
use Rattle.sa_base.specs.declared.number.ProcNo.{ProcNo}
use Rattle.sa_base.specs.declared.record.Note.TheVariants.{Preempted, Unblocked}
use Rattle.sa_base.specs.declared.record.Record.TheVariants as records
use Rattle.sa_lemmas.proofs.FunctionUpdates.{put-same, put-other, put-at}
use Rattle.sa_lemmas.specs.Function.{put}
use Rattle.sa_spaces.specs.Workload.{WorkloadView}
use Rattle.sa_abstract.specs.Calls.{Contexts}
use Rattle.sa_abstract.specs.Setting.{Setting}
use Rattle.sa_package_model.specs.Context.{carried_by, fresh, stands_idle, stands_inside}
use Rattle.sa_package_model.specs.declared.context.Context.{Context}
use Rattle.sa_package_model.specs.declared.context.ContextState.{ContextState}
use Rattle.sa_package_model.specs.declared.context.ContextState.TheVariants.{Code, Work, Hint, Return, User, Look}
use Rattle.sa_laws.specs.Life.{Life}
use Rattle.sa_laws.specs.Readings.{Readings, running_of, life_of, untold_of, owner_of}
use Rattle.sa_laws.specs.Record.{after_record}
use Rattle.sa_laws.specs.Step.{StandsIn}
use Rattle.sa_laws.specs.declared.place.Place.TheVariants as place
use Rattle.sa_user_laws.specs.Scene.{event_begun_at, IsActing, Holds as HoldsNow, HoldsIn, IsOn}
use Rattle.sa_fast_laws.proofs.lives.Ceases.{stop-fits, return-fits, return-stands}
use Rattle.sa_fast_laws.proofs.lives.Upcalls.{up-hears}
use Rattle.sa_fast_laws.specs.Rests.{LivesHear}
use Rattle.sa_prio_model.proofs.Contexts.{bases-put}
use Rattle.sa_prio_model.specs.Prio.{Prio, on_at, with_on}
use Rattle.sa_prio_model.specs.Stands.{bases, prio_stands}
use Rattle.sa_prio_model.specs.Step.{prio_calls}
use Rattle.sa_prio_model.specs.Urge.{unmarked}
use Rattle.sa_prio_model.specs.declared.context.PrioContext.{PrioContext}
use Rattle.sa_prio_laws.specs.PrioFits.{prio_view, prio_fits, prio_hears}
use Rattle.sa_prio_laws.proofs.frames.Frames.{prio-based}

-- A STOP: a context is idle where it is not in and carries no thread
idle-is : (state : ContextState) (urge : Bool) → (stands_idle state && not urge) ≡ (not (stands_inside state || urge) && is_none (carried_by state))
idle-is (Code f) urge = refl
idle-is (Work t) urge = refl
idle-is (Hint t) urge = refl
idle-is Return urge = refl
idle-is (User t) true = refl
idle-is (User t) false = refl
idle-is (Look looks) true = refl
idle-is (Look looks) false = refl

-- where nobody is put on one processor, all others run as before
set-none : (xs : List (Option ActNo)) (p q : ℕ) (a : ActNo) → slice_index_or (slice_set xs p None) q None ≡ Some a → slice_index_or xs q None ≡ Some a
set-none xs p q a is = elim (cases_eq q p) [
  | inr ne ↦ sym (get_or-set_other xs p q None None ne) ∙ is
  | inl same ↦ elim (cases_lt p (length xs)) [
    | inl below ↦ absurd (none-some a (sym (ap (λ i. slice_index_or (slice_set xs p None) i None) same ∙ get_or-set_same xs p None None below) ∙ is))
    | inr past ↦ absurd (none-some a (sym (past-set xs p q past same) ∙ is))
  ]
] where
  past-set : (xs : List (Option ActNo)) (p q : ℕ) → length xs ≤ p → q ≡ p → slice_index_or (slice_set xs p None) q None ≡ None
  past-set xs p q past same =
      get_or_past (slice_set xs p None) q None (let size = length-set xs p None in omega arith)

pub prio-stops : (w : WorkloadView) (s : Setting) (e : ℕ) (r : Readings) (v : Prio) (cs : Contexts PrioContext) (p : ProcNo) (a : ActNo)
    (life : Life) (c : PrioContext) (number : ℕ)
    → IsActing prio_calls prio_stands prio_fits w s e r v cs p a life c
    → ((stands_idle c.base.state && not c.urge) ≡ (not life.inside && is_none (carried_by c.base.state)))
    × prio_fits w s (after_record w number p (event_begun_at w number p r) (records.Stop s.space (carried_by c.base.state) a)) v cs
prio-stops w s e r v cs p a life c number i = (
  idle-is c.base.state c.urge ∙ ap (λ b. not b && is_none (carried_by c.base.state)) (sym (i.fit.lives.rest a c life i.on.mine i.on.is).marks.inside),
  record {
    lives = stop-fits prio_view (λ d. d.base) (bases cs) cs (prio-based cs) w s e r v.base i.holds.of i.holds.sizes i.holds.value.base i.fit.lives
        p a life c number i.on.mine i.on.is i.on.space i.on.runs;
    ranked = i.fit.ranked;
    on = λ q b d at mine. i.fit.on q b d (set-none r.running p.0 q.0 b at) mine;
  },
)

pub prio-unblocks : (w : WorkloadView) (s : Setting) (e : ℕ) (r : Readings) (v : Prio) (cs : Contexts PrioContext) (p : ProcNo) (a : ActNo)
    (life : Life) (c : PrioContext) (number : ℕ)
    → HoldsNow prio_stands w s e r v cs → prio_fits w s r v cs → cs a.0 ≡ Some c → life_of r a ≡ Some life → life.space ≡ s.space
    → ((q : ProcNo) → running_of r q ≢ Some a)
    → (Contains (untold_of r s.space) (Preempted a) → ⊥) → (Contains (untold_of r s.space) (Unblocked a) → ⊥)
    → StandsIn place.Blocked r.state s.space life.thread
    × prio_fits w s (after_record w number p r (records.Unblock s.space life.thread a)) v cs
prio-unblocks w s e r v cs p a life c number h k mine is of nowhere no_stop no_back = (
  return-stands prio_view (λ d. d.base) (bases cs) cs (prio-based cs) w s e r v.base h.of h.sizes h.value.base k.lives p a life c number mine is of
      nowhere no_stop no_back,
  record {
    lives = return-fits prio_view (λ d. d.base) (bases cs) cs (prio-based cs) w s e r v.base h.of h.sizes h.value.base k.lives p a life c number mine is of
        nowhere no_stop no_back;
    ranked = k.ranked;
    on = k.on;
  },
)

-- AN UPCALL begins: nobody is on its processor
pub prio-begins : (w : WorkloadView) (s : Setting) (e : ℕ) (r : Readings) (v : Prio) (cs : Contexts PrioContext) (p : ProcNo) (n : ActNo) (seen : Seen)
    (number : ℕ)
    → HoldsIn prio_stands w s e r v cs → prio_fits w s r v cs → seen.proc ≡ p → p.0 < w.processors → owner_of r p ≡ Some s.space
    → running_of r p ≡ None → life_of r n ≡ None → cs n.0 ≡ None → ((q : ProcNo) → running_of r q ≢ Some n)
    → prio_hears w s (after_record w number p r (records.Up s.space n)) n (prio_calls.begun v seen).0 (put cs n.0 (Some (prio_calls.begun v seen).1))
prio-begins w s e r v cs p n seen number h k sees inside owner free unused none nowhere =
    let q = after_record w number p r (records.Up s.space n) in
    let ds = put cs n.0 (Some (unmarked fresh)) in
    let procs : p.0 < length r.running = (let same = h.sizes.running in omega arith) in
    let here : p.0 < length v.on = (let same = h.value.processors in let of = h.of.processors in omega arith) in
    record {
      lives = subst (λ bs. LivesHear prio_view s.space q n v.base bs ds) (sym (bases-put cs n.0 (Some (unmarked fresh))))
          (up-hears prio_view s.space r v.base (bases cs) cs k.lives w p n (unmarked fresh) number free unused
          (ap (λ o. option_map base_in o) none) nowhere procs);
      ranked = k.ranked;
      on = λ y b d at mine. elim (cases_eq y.0 p.0) [
        | inl same ↦
            let act : n ≡ b = same_Some n b (sym (ap (λ i. slice_index_or q.running i None) same ∙ get_or-set_same r.running p.0 (Some n) None procs) ∙ at) in
            let ctx : unmarked fresh ≡ d =
            same_Some (unmarked fresh) d (sym (put-at cs n.0 b.0 (Some (unmarked fresh)) (ap (λ (z : ActNo). z.0) (sym act))) ∙ mine) in
            ap (λ (z : ProcNo). on_at (with_on v z None) y.0) sees ∙ ap (λ i. slice_index_or (slice_set v.on p.0 None) i None) same
            ∙ get_or-set_same v.on p.0 None None here ∙ ap (λ (z : PrioContext). carried_by z.base.state) ctx
        | inr ne ↦
            let before : running_of r y ≡ Some b = sym (get_or-set_other r.running p.0 y.0 (Some n) None ne) ∙ at in
            let apart : b.0 ≢ n.0 = λ same. nowhere y (before ∙ ap (λ i. Some (record { 0 = i })) same) in
            ap (λ (z : ProcNo). on_at (with_on v z None) y.0) sees ∙ get_or-set_other v.on p.0 y.0 None None ne
            ∙ k.on y b d before (sym (put-other cs n.0 b.0 (Some (unmarked fresh)) apart) ∙ mine)
      ];
      calm = λ d mine. ap (λ (z : PrioContext). z.urge) (sym (same_Some (unmarked fresh) d (sym (put-same cs n.0 (Some (unmarked fresh))) ∙ mine)));
    } where
      base_in : PrioContext → Context
      base_in c = c.base

-- WHO IS IN
pub prio-inside : (w : WorkloadView) (s : Setting) (e : ℕ) (r : Readings) (v : Prio) (cs : Contexts PrioContext) (a : ActNo) (life : Life)
    → HoldsNow prio_stands w s e r v cs → prio_fits w s r v cs
    → life_of r a ≡ Some life → life.space ≡ s.space → life.inside ≡ true → IsSome (cs a.0)
prio-inside w s e r v cs a life h k is of inside = by (cs a.0) refl where
  by : (o : Option PrioContext) → cs a.0 ≡ o → IsSome (cs a.0)
  by (Some c) at = subst IsSome (sym at) refl
  by None at = absurd (
      let bare = k.lives.holds.others a life is of (ap (option_map (λ (z : PrioContext). z.base)) at) in let no_such = sym bare.inside ∙ inside in cc)

pub prio-owes : (w : WorkloadView) (s : Setting) (e : ℕ) (r : Readings) (v : Prio) (cs : Contexts PrioContext) (p : ProcNo) (a : ActNo) (life : Life)
    (c : PrioContext)
    → HoldsNow prio_stands w s e r v cs → prio_fits w s r v cs → IsOn s.space r p a life cs c → life.inside ≡ prio_calls.owes v c
prio-owes w s e r v cs p a life c h k on = (k.lives.rest a c life on.mine on.is).marks.inside
