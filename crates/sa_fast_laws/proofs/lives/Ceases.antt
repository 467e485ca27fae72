-- Lives fit as before where a stop or a return of one is read.
use Rattle.std.proofs.Common.{◌≡◌, ◌≢◌, ℕ, ◌<◌, ◌&&◌, Bool, false, true, not, length, List, Option, Some, None, option_map, is_none, Contains, refl, sym, ap, ◌∙◌, subst, arith, []}
use Rattle.std.proofs.lemmas.Option.{slice_get_within}
use Rattle.std.specs.List.{list_any}
use Rattle.sa_base.specs.declared.number.ActNo.{ActNo}
use Rattle.sa_base.specs.declared.number.ProcNo.{ProcNo}
use Rattle.sa_base.specs.declared.number.ThreadNo.{ThreadNo}
use Rattle.sa_base.specs.declared.record.Note.{Note}
use Rattle.sa_base.specs.declared.record.Note.TheVariants.{Preempted, Unblocked}
use Rattle.sa_base.specs.declared.record.Record.TheVariants as records
use Rattle.sa_lemmas.proofs.FunctionUpdates.{put-same, put-other}
use Rattle.sa_lemmas.specs.Function.{put}
use Rattle.sa_spaces.specs.Workload.{WorkloadView}
use Rattle.sa_lemmas.proofs.ListReads.{some-below}
use Rattle.sa_abstract.specs.Calls.{Contexts}
use Rattle.sa_abstract.specs.Setting.{Setting}
use Rattle.sa_package_model.specs.Context.{carried_by}
use Rattle.sa_package_model.specs.Stands.{IsStanding}
use Rattle.sa_package_model.specs.declared.context.Context.{Context}
use Rattle.sa_package_model.specs.declared.package.Package.{Package}
use Rattle.sa_laws.specs.Life.{Life, with_hand}
use Rattle.sa_laws.specs.Readings.{Readings, running_of, life_of, untold_of}
use Rattle.sa_laws.specs.Record.{after_record, same_note, stopped_with, one_thread, lives_after}
use Rattle.sa_laws.specs.State.{space_at, thread_in}
use Rattle.sa_laws.specs.Step.{StandsIn}
use Rattle.sa_laws.specs.declared.place.Place.TheVariants as place
use Rattle.sa_user_laws.specs.Moments.{AreSized}
use Rattle.sa_user_laws.specs.Scene.{IsOfSpace, event_begun_at}
use Rattle.sa_fast_laws.proofs.relation.EventEnds.{begun-holds}
use Rattle.sa_fast_laws.proofs.relation.NoteLists.{any-note}
use Rattle.sa_fast_laws.proofs.relation.Notices.{note_of}
use Rattle.sa_fast_laws.specs.FastFits.{Holds}
use Rattle.sa_fast_laws.specs.Life.{IsAtRest}
use Rattle.sa_fast_laws.specs.Stage.{is_running, was_idle, stage_of}
use Rattle.sa_fast_laws.specs.View.{View}
use Rattle.sa_fast_laws.proofs.notices.Stops as stops
use Rattle.sa_fast_laws.proofs.notices.Unblocks as back
use Rattle.sa_fast_laws.specs.Rests.{IsBasedOn, LivesFit}
use Rattle.sa_fast_laws.proofs.lives.Rests.{kept-marks, others-rest, rests-with}

-- a notice that does not wait is not found
pub not-any : (kind : Bool) (b : ActNo) (ns : List Note) → (Contains ns (note_of kind b) → ⊥) → list_any (same_note (note_of kind b)) ns ≡ false
not-any kind b ns never = by (list_any (same_note (note_of kind b)) ns) refl where
  by : (z : Bool) → list_any (same_note (note_of kind b)) ns ≡ z → list_any (same_note (note_of kind b)) ns ≡ false
  by false is = is
  by true is = absurd (never (any-note kind b ns is))

module _ {C : Type 0} (look : C → View) (base : C → Context) (bs : Contexts Context) (cs : Contexts C) (on : IsBasedOn look base bs cs)
    (w : WorkloadView) (s : Setting) (e : ℕ) (r : Readings) (u : Package) (of_space : IsOfSpace w s) (sizes : AreSized w r) (h : IsStanding s e u bs)
    (k : LivesFit look s.space r u bs cs)
    (p : ProcNo) (a : ActNo) (life : Life) (c : C) (number : ℕ) (mine : cs a.0 ≡ Some c) (there : life_of r a ≡ Some life) (of : life.space ≡ s.space) where
  below : s.space.0 < length w.spaces
  below = slice_get_within w.spaces s.space.0 s.def of_space.def

  known : s.space.0 < length r.state.spaces
  known = let less = below in let same = sizes.spaces in omega arith

  heard : s.space.0 < length r.untold
  heard = let less = below in let same = sizes.untold in omega arith

  is : bs a.0 ≡ Some (base c)
  is = on.down a.0 c mine

  own : IsAtRest (stage_of r s.space a life) (look c) life
  own = k.rest a c life mine there

  -- A STOP, by the first record of an event: the life was idle exactly where its context shows so.
  pub stop-fits : running_of r p ≡ Some a
      → LivesFit look s.space (after_record w number p (event_begun_at w number p r) (records.Stop s.space (carried_by (base c).state) a)) u bs cs
  stop-fits runs =
      let r0 = event_begun_at w number p r in
      let o = carried_by (base c).state in
      let q = after_record w number p r0 (records.Stop s.space o a) in
      let holds : Holds s.space r0 u bs = begun-holds s.space r u bs w (record { number = number; proc = p; records = [] }) k.holds in
      let procs : p.0 < length r.running = some-below r.running p.0 a runs in
      let now : Life = stopped_with o life in
      let lives_are : lives_after w p r0 (records.Stop s.space o a) ≡ put r.lives a.0 (Some now) =
      ap (λ x. put r.lives a.0 (option_map (stopped_with o) x)) there in
      record {
        holds = stops.stop-holds s e u bs h s.space r0 holds a (base c) is w number p life runs there of known heard procs;
        rest = rests-with look s.space r0 q a cs c now mine (ap (λ (f : ℕ → Option Life). f a.0) lives_are ∙ put-same r.lives a.0 (Some now))
            (record {
              marks = kept-marks (look c) life now refl refl refl refl own.marks;
              idle = λ no. ap (λ g. was_idle g now) (stops.stage_a s e u bs h s.space r0 holds a (base c) is w number p life runs there of known heard procs)
                  ∙ ap (λ x. not x && is_none o) own.marks.inside ∙ ap (λ x. not (look c).inside && is_none x) (sym (on.carries c));
            })
            (others-rest look s.space r0 q a cs cs (λ x ne. refl)
            (λ x ne. ap (λ (f : ℕ → Option Life). f x.0) lives_are ∙ put-other r.lives a.0 x.0 (Some now) ne)
            (λ x y ne. stops.stage_x s e u bs h s.space r0 holds a (base c) is w number p life runs there of known heard procs x y ne)
            (λ x d l ne at its. k.rest x d l at its));
      }

  -- A RETURN, of a life that runs nowhere and of which no notice waits.
  module _ (nowhere : (q : ProcNo) → running_of r q ≢ Some a) (no_stop : Contains (untold_of r s.space) (Preempted a) → ⊥)
      (no_back : Contains (untold_of r s.space) (Unblocked a) → ⊥) where
    stopped : list_any (same_note (Preempted a)) (untold_of r s.space) ≡ false
    stopped = not-any true a (untold_of r s.space) no_stop

    returned : list_any (same_note (Unblocked a)) (untold_of r s.space) ≡ false
    returned = not-any false a (untold_of r s.space) no_back

    name : life.thread ≡ carried_by (base c).state
    name = back.named s e u bs h s.space r k.holds a (base c) is w number p life nowhere there of known heard stopped returned

    pub return-fits : LivesFit look s.space (after_record w number p r (records.Unblock s.space life.thread a)) u bs cs
    return-fits = subst (λ t. LivesFit look s.space (after_record w number p r (records.Unblock s.space t a)) u bs cs) (sym name) (
        let o = carried_by (base c).state in
        let q = after_record w number p r (records.Unblock s.space o a) in
        let now : Life = with_hand (one_thread o) life in
        let lives_are : lives_after w p r (records.Unblock s.space o a) ≡ put r.lives a.0 (Some now) =
        ap (λ x. put r.lives a.0 (option_map (with_hand (one_thread o)) x)) there in
        let stage = back.stage s e u bs h s.space r k.holds a (base c) is w number p life nowhere there of known heard stopped returned in
        record {
          holds = back.unblock-holds s e u bs h s.space r k.holds a (base c) is w number p life nowhere there of known heard stopped returned;
          rest = rests-with look s.space r q a cs c now mine (ap (λ (f : ℕ → Option Life). f a.0) lives_are ∙ put-same r.lives a.0 (Some now))
              (record {
                marks = kept-marks (look c) life now refl refl refl refl own.marks;
                idle =
                    λ no. ap (λ g. was_idle g now)
                    (back.stage_a s e u bs h s.space r k.holds a (base c) is w number p life nowhere there of known heard stopped returned)
                    ∙ sym (ap (λ g. was_idle g life) stage) ∙ own.idle (ap is_running stage);
              })
              (others-rest look s.space r q a cs cs (λ x ne. refl)
              (λ x ne. ap (λ (f : ℕ → Option Life). f x.0) lives_are ∙ put-other r.lives a.0 x.0 (Some now) ne)
              (λ x y ne. back.stage_x s e u bs h s.space r k.holds a (base c) is w number p life nowhere there of known heard stopped returned x y ne)
              (λ x d l ne at its. k.rest x d l at its));
        })

    -- Its thread was blocked before.
    pub return-stands : StandsIn place.Blocked r.state s.space life.thread
    return-stands = subst (λ t. StandsIn place.Blocked r.state s.space t) (sym name)
        (there_in (carried_by (base c).state)
        (back.stands s e u bs h s.space r k.holds a (base c) is w number p life nowhere there of known heard stopped returned))
      where
        there_in : (o : Option ThreadNo) → ((n : ThreadNo) → o ≡ Some n → (thread_in (space_at r.state s.space) n).place ≡ place.Blocked)
            → StandsIn place.Blocked r.state s.space o
        there_in None at = tt
        there_in (Some n) at = at n refl
