-- The end of an own event: from what a life has after its records to what fits between events.
use Rattle.std.proofs.Common.{Bool, ◌≡◌, ◌≢◌, ℕ, ◌≤◌, true, false, List, [], ◌∷◌, Contains, count_by, ◌⊎◌, Option, Some, None, option_map, slice_index_or, refl, sym, ap, ◌∙◌, subst, inl, inr, arith}
use Rattle.std.specs.Prelude.{◌+◌, if◌then◌else◌}
use Rattle.std.proofs.lemmas.Bool.{cases_eq}
use Rattle.std.proofs.lemmas.Option.{same_Some, none-some}
use Rattle.std.specs.List.{list_any}
use Rattle.sa_base.specs.declared.number.ActNo.{ActNo}
use Rattle.sa_base.specs.declared.number.SpaceNo.{SpaceNo}
use Rattle.sa_base.specs.declared.record.Note.TheVariants.{Preempted, Unblocked}
use Rattle.sa_base.specs.declared.record.Record.{Record}
use Rattle.sa_base.specs.declared.record.Record.TheVariants.{Want, Aim, Line}
use Rattle.sa_lemmas.proofs.FunctionUpdates.{put-same, put-other}
use Rattle.sa_lemmas.specs.Function.{put}
use Rattle.sa_spaces.specs.Workload.{WorkloadView}
use Rattle.sa_abstract.specs.Calls.{Contexts}
use Rattle.sa_package_model.specs.declared.context.Context.{Context}
use Rattle.sa_package_model.specs.declared.package.Package.{Package}
use Rattle.sa_laws.specs.Demand.{DemandIsAnnounced}
use Rattle.sa_laws.specs.Event.{Event}
use Rattle.sa_laws.specs.History.{Test, is_inside, is_step, is_up, stepped, arisen, with_step, ended, event_begun}
use Rattle.sa_laws.specs.Life.{Life}
use Rattle.sa_laws.specs.Locks.{LocksAreKept, OrderIsKept}
use Rattle.sa_laws.specs.Readings.{Readings, running_of, life_of, untold_of, ready_of, stopped_thread}
use Rattle.sa_laws.specs.Record.{with_life}
use Rattle.sa_laws.specs.State.{space_at, active_threads}
use Rattle.sa_laws.specs.Turns.{IsClosing, AreRaising, IsStep}
use Rattle.sa_fast_laws.proofs.relation.Places.{same-threads, load-moves}
use Rattle.sa_fast_laws.proofs.relation.Stages.{stage-same}
use Rattle.sa_fast_laws.specs.FastFits.{is_of, FitsShared, FitsLists, Holds, FastFits, OthersRest}
use Rattle.sa_fast_laws.specs.Life.{HasLife, IsAtRest}
use Rattle.sa_fast_laws.specs.Stage.{stage_of}
use Rattle.sa_fast_laws.specs.View.{view}

-- FRAME: what holds looks at these four alone
pub record SameHeld (s : SpaceNo) (r q : Readings) : Type 0 where
  pub space : space_at q.state s ≡ space_at r.state s
  pub untold : untold_of q s ≡ untold_of r s
  pub running : q.running ≡ r.running
  pub lives : q.lives ≡ r.lives

pub same-holds : (s : SpaceNo) (r q : Readings) (u : Package) (cs : Contexts Context) → SameHeld s r q → Holds s r u cs → Holds s q u cs
same-holds s r q u cs i k =
    let stages = stage-same s r q i.untold i.running in
    record {
      space = subst (FitsShared u.shared) (sym i.space) k.space;
      load =
          let moves = load-moves r q s (λ x. ap (λ (f : ℕ → Option Life). stopped_thread (f x.0)) i.lives) i.untold in
          let active : active_threads (space_at q.state s) ≡ active_threads (space_at r.state s) = ap active_threads i.space in
          let was = k.load in omega arith;
      lives = λ x c at. let its = k.lives x c at in (
        its.0,
        ap (λ (f : ℕ → Option Life). f x.0) i.lives ∙ its.1,
        subst (λ y. HasLife s u.shared y (stage_of q s x its.0) (view c) its.0) (sym i.space)
            (subst (λ g. HasLife s u.shared (space_at r.state s) g (view c) its.0) (sym (stages x its.0)) its.2),
      );
      others = λ x life at mine none. k.others x life (sym (ap (λ (f : ℕ → Option Life). f x.0) i.lives) ∙ at) mine none;
      noted = λ x there. k.noted x (subst (λ ns. Contains ns (Preempted x) ⊎ Contains ns (Unblocked x)) i.untold there);
      single = λ x. subst (λ ns. count_by (is_of x) ns ≤ 1) (sym i.untold) (k.single x);
      runs = λ y x life at its mine.
          let old =
          k.runs y x life (sym (ap (λ ps. slice_index_or ps y.0 None) i.running) ∙ at) (sym (ap (λ (f : ℕ → Option Life). f x.0) i.lives) ∙ its) mine in
          (old.0, old.1, stages x life ∙ old.2);
    }

-- the moment after an event's beginning
pub begun-holds : (s : SpaceNo) (r : Readings) (u : Package) (cs : Contexts Context) (w : WorkloadView) (ev : Event) → Holds s r u cs
    → Holds s (event_begun w ev r) u cs
begun-holds s r u cs w ev k = same-holds s r (event_begun w ev r) u cs (record { space = refl; untold = refl; running = refl; lives = refl }) k

-- a closing has no up
raising-ups : (xs : List Record) → AreRaising xs → list_any is_up xs ≡ false
raising-ups [] h = refl
raising-ups (Aim p (Some s) ∷ xs) h = raising-ups xs h
raising-ups (Line p ∷ xs) h = raising-ups xs h
raising-ups (x ∷ xs) h = absurd h

pub closing-ups : (xs : List Record) → IsClosing xs → list_any is_up xs ≡ false
closing-ups [] h = refl
closing-ups (Want s n ∷ xs) h = closing-ups xs h
closing-ups (Aim p (Some s) ∷ xs) h = raising-ups xs h
closing-ups (Line p ∷ xs) h = raising-ups xs h
closing-ups (x ∷ xs) h = absurd h

-- THE RULES of an event of one operation on lists, with a closing after it
pub record Follows (w : WorkloadView) (r : Readings) (ev : Event) (own : List Record) : Type 0 where
  pub steps : IsStep w (event_begun w ev r) ev.proc own
  pub demand : DemandIsAnnounced w r ev
  pub locks : LocksAreKept w r ev
  pub order : OrderIsKept w r ev

-- THE MARKS of one life are set, at the end of an own event of it: what holds stays
module _ (s : SpaceNo) (last : Readings) (v : Package) (ds : Contexts Context) (h : Holds s last v ds) (a : ActNo) (new : Context)
    (mine : ds a.0 ≡ Some new) (life : Life) (there : life_of last a ≡ Some life) (freed inside : Bool) (scans : ℕ)
    (number : ℕ) (before : Option Record) (moved : Option SpaceNo) where
  abbrev marked_life : Life
  marked_life = record life { freed = freed; scans = scans; inside = inside }

  abbrev remarked : Readings
  remarked = record last {
    number = number;
    lives = put last.lives a.0 (Some (record life { freed = freed; scans = scans; inside = inside }));
    last = before;
    moved = moved;
  }

  pub live_here : remarked.lives a.0 ≡ Some marked_life
  live_here = put-same last.lives a.0 (Some marked_life)

  pub live_there : (b : ℕ) → b ≢ a.0 → remarked.lives b ≡ last.lives b
  live_there b ne = put-other last.lives a.0 b (Some marked_life) ne

  pub set-holds : Holds s remarked v ds
  set-holds = record {
    space = h.space;
    load =
        let moves = load-moves last remarked s (same-threads last remarked a life marked_life there refl refl) refl in
        let was = h.load in omega arith;
    lives = λ x c at. elim (cases_eq x.0 a.0) [
      | inl e ↦
          let its = h.lives x c at in
          let one : its.0 ≡ life = same_Some its.0 life (sym its.1 ∙ ap last.lives e ∙ there) in
          let l = subst (λ z. HasLife s v.shared (space_at last.state s) (stage_of last s x z) (view c) z) one its.2 in (
            marked_life,
            ap remarked.lives e
                ∙ live_here,
            record {
              space = l.space;
              locks = l.locks;
              cont = l.cont;
              hand = l.hand;
              place = l.place;
              kept = l.kept;
              stopped = l.stopped;
              named = l.named;
            },
          )
      | inr ne ↦ let its = h.lives x c at in (its.0, live_there x.0 ne ∙ its.1, its.2)
    ];
    others = λ x l at of none. elim (cases_eq x.0 a.0) [
      | inl e ↦ absurd (none-some new (sym none ∙ ap ds e ∙ mine))
      | inr ne ↦ h.others x l (sym (live_there x.0 ne) ∙ at) of none
    ];
    noted = h.noted;
    single = h.single;
    runs = λ y x l at its of. elim (cases_eq x.0 a.0) [
      | inl e ↦
          let one : l ≡ marked_life = same_Some l marked_life (sym its ∙ ap remarked.lives e ∙ live_here) in
          let old = h.runs y x life at (ap last.lives e ∙ there) (sym (ap (λ (z : Life). z.space) one) ∙ of) in
          (old.0, ap (λ (z : Life). z.proc) one ∙ old.1, ap (λ (z : Life). stage_of last s x z) one ∙ old.2)
      | inr ne ↦ h.runs y x l at (sym (live_there x.0 ne) ∙ its) of
    ];
  }

-- and with these marks it rests as its context does
module _ (s : SpaceNo) (last : Readings) (v : Package) (ds : Contexts Context) (h : Holds s last v ds) (a : ActNo) (new : Context)
    (mine : ds a.0 ≡ Some new) (life : Life) (there : life_of last a ≡ Some life)
    (others : OthersRest s last a ds) (lists : FitsLists v (ready_of last s)) (freed inside : Bool) (scans : ℕ)
    (number : ℕ) (before : Option Record) (moved : Option SpaceNo) where
  abbrev after_marks : Life
  after_marks = record life { freed = freed; scans = scans; inside = inside }

  pub set-marked : IsAtRest (stage_of last s a life) (view new) (record life { freed = freed; scans = scans; inside = inside })
      → FastFits s (record last {
        number = number;
        lives = put last.lives a.0 (Some (record life { freed = freed; scans = scans; inside = inside }));
        last = before;
        moved = moved;
      }) v ds
  set-marked own = record {
    holds = set-holds s last v ds h a new mine life there freed inside scans number before moved;
    lists = lists;
    rest = λ x c l at its. elim (cases_eq x.0 a.0) [
      | inl e ↦
          let is_new : c ≡ new = same_Some c new (sym at ∙ ap ds e ∙ mine) in
          let one : l ≡ after_marks =
          same_Some l after_marks
          (sym its ∙ ap (put last.lives a.0 (Some after_marks)) e ∙ live_here s last v ds h a new mine life there freed inside scans number before moved) in
          let act : x ≡ a = ap (λ n. record { 0 = n }) e in
          subst (λ z. IsAtRest (stage_of last s x l) (view z) l) (sym is_new)
          (subst (λ z. IsAtRest (stage_of last s x z) (view new) z) (sym one)
          (subst (λ z. IsAtRest (stage_of last s z life) (view new) after_marks) (sym act) own))
      | inr ne ↦ others x c l ne at (sym (live_there s last v ds h a new mine life there freed inside scans number before moved x.0 ne) ∙ its)
    ];
  }

-- THE END of an own event of life a, by whichever test of who is in
module _ (a : ActNo) (w : WorkloadView) (r : Readings) (ev : Event) (runs : running_of r ev.proc ≡ Some a) (last : Readings)
    (life : Life) (there : life_of last a ≡ Some life)
    (first : Record) (rest : List Record) (records : ev.records ≡ first ∷ rest) (step : is_step first ≡ true)
    (no_up : list_any is_up ev.records ≡ false) (test : Test) where
  pub ended-lives : (ended test w r ev last).lives ≡ put last.lives a.0 (Some (stepped test w r ev last first life))
  ended-lives =
      ap
      (λ b. if b then with_life (arisen test w r ev last) (running_of last ev.proc)
      (with_step test w r ev last ev.records last.lives) else with_step test w r ev last ev.records last.lives) no_up
      ∙ ap (λ xs. with_step test w r ev last xs last.lives) records
      ∙ ap (λ b. if b then with_life (stepped test w r ev last first) (running_of r ev.proc) last.lives else last.lives) step
      ∙ ap (λ o. with_life (stepped test w r ev last first) o last.lives) runs
      ∙ ap (λ o. put last.lives a.0 (option_map (stepped test w r ev last first) o)) there

  -- what held after the event's records holds after the event
  pub ended-holds : (s : SpaceNo) (v : Package) (ds : Contexts Context) (new : Context) → Holds s last v ds → ds a.0 ≡ Some new
      → Holds s (ended test w r ev last) v ds
  ended-holds s v ds new h mine =
      let after = stepped test w r ev last first life in
      subst (λ ls. Holds s (record last { number = last.number + 1; lives = ls; last = None; moved = None }) v ds) (sym ended-lives)
      (set-holds s last v ds h a new mine life there after.freed after.inside after.scans (last.number + 1) None None)

-- and by FastThreads' test
module _ (s : SpaceNo) (r : Readings) (u : Package) (cs : Contexts Context) (a : ActNo) (w : WorkloadView) (ev : Event)
    (runs : running_of r ev.proc ≡ Some a)
    (last : Readings) (others : OthersRest s last a cs) (v : Package) (new : Context) (h : Holds s last v (put cs a.0 (Some new)))
    (lists : FitsLists v (ready_of last s)) (life : Life) (there : life_of last a ≡ Some life)
    (first : Record) (rest : List Record) (records : ev.records ≡ first ∷ rest) (step : is_step first ≡ true)
    (no_up : list_any is_up ev.records ≡ false) where
  abbrev after : Life
  after = stepped is_inside w r ev last first life

  pub ended-fits : IsAtRest (stage_of last s a life) (view new) (stepped is_inside w r ev last first life)
      → FastFits s (ended is_inside w r ev last) v (put cs a.0 (Some new))
  ended-fits own =
      subst (λ ls. FastFits s (record last { number = last.number + 1; lives = ls; last = None; moved = None }) v (put cs a.0 (Some new)))
      (sym (ended-lives a w r ev runs last life there first rest records step no_up is_inside))
      (set-marked s last v (put cs a.0 (Some new)) h a new (put-same cs a.0 (Some new)) life there
      (λ x c l ne at is. others x c l ne (sym (put-other cs a.0 x.0 (Some new) ne) ∙ at) is) lists
      after.freed after.inside after.scans (last.number + 1) None None own)
