-- A step of a running life changes what its context has, and leaves all others alone; the end of its own event marks its life.
use Rattle.std.proofs.Common.{◌≡◌, ◌≢◌, ℕ, zero, ◌+◌, ◌≤◌, Bool, true, false, ◌||◌, ◌&&◌, List, ◌∷◌, Contains, count_by, Option, Some, None, option_map, slice_index_or, ◌⊎◌, refl, sym, ap, ◌∙◌, subst, inl, arith}
use Rattle.std.specs.Prelude.{if◌then◌else◌}
use Rattle.std.specs.List.{list_any}
use Rattle.sa_base.specs.declared.number.ActNo.{ActNo}
use Rattle.sa_base.specs.declared.number.SpaceNo.{SpaceNo}
use Rattle.sa_base.specs.declared.number.ThreadNo.{ThreadNo}
use Rattle.sa_base.specs.declared.record.Note.TheVariants.{Preempted, Unblocked}
use Rattle.sa_base.specs.declared.record.Record.{Record}
use Rattle.sa_lemmas.proofs.FunctionUpdates.{put-same, put-other}
use Rattle.sa_lemmas.specs.Function.{put}
use Rattle.sa_spaces.specs.Workload.{WorkloadView}
use Rattle.sa_fast.specs.Rest.{is_carried, place_at}
use Rattle.sa_fast.specs.Threads.{load_of as loaded}
use Rattle.sa_fast.specs.declared.shared.Shared.{Shared}
use Rattle.sa_abstract.specs.Calls.{Contexts}
use Rattle.sa_abstract.specs.Setting.{Setting}
use Rattle.sa_driven_model.specs.declared.context.DrivenContext.{DrivenContext}
use Rattle.sa_driven_model.specs.declared.space.DrivenSpace.{DrivenSpace}
use Rattle.sa_driven_model.specs.Stands.{IsStanding}
use Rattle.sa_driven_model.specs.Threads.{has}
use Rattle.sa_laws.specs.Event.{Event}
use Rattle.sa_laws.specs.History.{Test, is_step, is_up, stepped, arisen, with_step, ended}
use Rattle.sa_laws.specs.Life.{Life}
use Rattle.sa_laws.specs.Readings.{Readings, running_of, life_of, untold_of, load_of}
use Rattle.sa_laws.specs.Record.{with_life}
use Rattle.sa_laws.specs.State.{space_at, thread_in}
use Rattle.sa_fast_laws.proofs.relation.Places.{same-threads, load-moves}
use Rattle.sa_fast_laws.proofs.relation.Stages.{stage-same}
use Rattle.sa_fast_laws.specs.FastFits.{is_of, FitsShared}
use Rattle.sa_fast_laws.specs.Stage.{stage_on, stage_of, is_gone}
use Rattle.sa_driven_laws.specs.Life.{is_own, HasLife, IsAtRest}
use Rattle.sa_driven_laws.specs.DrivenFits.{Holds, RestBut, DrivenFits}
use Rattle.sa_driven_laws.proofs.Changed.{life-here, IsChanged, changed-holds, changed-rest}
use Rattle.sa_driven_laws.proofs.Runners.{carried-apart, carried-not}

-- A STEP
pub record IsTurned (s : SpaceNo) (r q : Readings) (u v : Shared) (a : ActNo) (c new : DrivenContext) (life : Life) : Type 0 where
  pub space : FitsShared v (space_at q.state s)
  pub load : load_of q s ≡ loaded v.threads
  pub was : Life
  pub old : life_of r a ≡ Some was
  pub lives : q.lives ≡ put r.lives a.0 (Some life)
  pub proc : life.proc ≡ was.proc
  pub of : was.space ≡ s
  pub untold : untold_of q s ≡ untold_of r s
  pub running : q.running ≡ r.running
  pub own : HasLife s v (space_at q.state s) (stage_of r s a life) new life
  -- threads that other contexts carry stay where they are
  pub places : (t : ThreadNo) → is_carried (place_at u t.0) ≡ true → ((n : ThreadNo) → c.thread ≡ Some n → t.0 ≢ n.0)
      → ((thread_in (space_at q.state s) t).place ≡ (thread_in (space_at r.state s) t).place) × (place_at v t.0 ≡ place_at u t.0)

carried-is : (b : Bool) → (if b then zero else 1) ≡ zero → b ≡ true
carried-is true e = refl
carried-is false e = absurd (omega (arith, e))

module _ (set : Setting) (e : ℕ) (u : DrivenSpace) (cs : Contexts DrivenContext) (h : IsStanding set e u cs) (s : SpaceNo) (r q : Readings) (v : Shared)
    (k : Holds s r u.base.shared cs) (a : ActNo) (c new : DrivenContext) (is : cs a.0 ≡ Some c) (life : Life)
    (i : IsTurned s r q u.base.shared v a c new life) where
  pub turned : IsChanged s r q u.base.shared v cs (put cs a.0 (Some new)) a life new
  turned = record {
    space = i.space;
    load = i.load;
    here = ap (λ (f : ℕ → Option Life). f a.0) i.lives ∙ put-same r.lives a.0 (Some life);
    mine = put-same cs a.0 (Some new);
    own = subst (λ g. HasLife s v (space_at q.state s) g new life) (sym (stage-same s r q i.untold i.running a life)) i.own;
    single = λ x. subst (λ ns. count_by (is_of x) ns ≤ 1) (sym i.untold) (k.single x);
    runs = λ y at.
        let at_r : running_of r y ≡ Some a = sym (ap (λ ps. slice_index_or ps y.0 None) i.running) ∙ at in
        let old = k.runs y a i.was at_r i.old i.of in (
          i.proc ∙ old.1,
          stage-same s r q i.untold i.running a life ∙ ap (stage_on r s a) i.proc ∙ old.2,
        );
    others = λ x ne. inl (record {
      life = ap (λ (f : ℕ → Option Life). f x.0) i.lives ∙ put-other r.lives a.0 x.0 (Some life) ne;
      ctx = put-other cs a.0 x.0 (Some new) ne;
      stage = λ y. stage-same s r q i.untold i.running x (record i.was { proc = y });
      runs = λ y at. sym (ap (λ ps. slice_index_or ps y.0 None) i.running) ∙ at;
      noted = λ there. subst (λ ns. Contains ns (Preempted x) ⊎ Contains ns (Unblocked x)) i.untold there;
      places = λ d t at carries. i.places t (carried-is (is_carried (place_at u.base.shared t.0)) (carried-not set e u cs h x.0 d t at carries))
          (λ n mine same. ne (carried-apart set e u cs h x.0 a.0 d c t n at is carries mine same));
    });
  }

-- a context is another one that has the same
pub record IsLike (c new : DrivenContext) : Type 0 where
  pub thread : new.thread ≡ c.thread
  pub locks : new.locks ≡ c.locks
  pub continues : new.continues ≡ c.continues
  pub hand : new.hand ≡ c.hand

-- MARKS of one life are set: what holds stays
module _ (s : SpaceNo) (r : Readings) (u : Shared) (cs : Contexts DrivenContext) (k : Holds s r u cs) (a : ActNo) (c new : DrivenContext)
    (is : cs a.0 ≡ Some c) (life : Life) (there : life_of r a ≡ Some life) (freed inside : Bool) (scans : ℕ)
    (number : ℕ) (before : Option Record) (moved : Option SpaceNo) where
  abbrev pub marked : Life
  marked = record life { freed = freed; scans = scans; inside = inside }

  abbrev pub remarked : Readings
  remarked = record r { number = number; lives = put r.lives a.0 (Some (record life { freed = freed; scans = scans; inside = inside })); last = before; moved = moved }

  pub remark : IsLike c new → IsChanged s r remarked u u cs (put cs a.0 (Some new)) a marked new
  remark same =
      let l = life-here s r u cs k a c life is there in record {
        space = k.space;
        load =
            let moves = load-moves r remarked s (same-threads r remarked a life marked there refl refl) refl in
            let was = k.load in omega (arith, moves, was);
        here = put-same r.lives a.0 (Some marked);
        mine = put-same cs a.0 (Some new);
        own = record {
          space = l.space;
          locks = l.locks ∙ sym same.locks;
          cont = l.cont ∙ sym same.continues;
          hand = λ n. l.hand n ∙ ap (λ m. has m n || (is_gone (stage_of r s a life) && is_own c.thread n)) (sym same.hand)
              ∙ ap (λ o. has new.hand n || (is_gone (stage_of r s a life) && is_own o n)) (sym same.thread);
          place = λ t at. l.place t (sym same.thread ∙ at);
          kept = λ t at. l.kept t (sym same.thread ∙ at);
          named = λ no. l.named no ∙ sym same.thread;
        };
        single = k.single;
        runs = λ y at. let old = k.runs y a life at there l.space in (old.1, old.2);
        others = λ x ne. inl (record {
          life = put-other r.lives a.0 x.0 (Some marked) ne;
          ctx = put-other cs a.0 x.0 (Some new) ne;
          stage = λ y. refl;
          runs = λ y at. at;
          noted = λ it. it;
          places = λ d t at carries. (refl, refl);
        });
      }

-- THE END of an event that is a step of life a, by whichever test of who is in
module _ (a : ActNo) (w : WorkloadView) (r : Readings) (ev : Event) (runs : running_of r ev.proc ≡ Some a) (last : Readings)
    (life : Life) (there : life_of last a ≡ Some life) (first : Record) (rest : List Record) (records : ev.records ≡ first ∷ rest)
    (step : is_step first ≡ true) (test : Test) where
  pub step-lives : with_step test w r ev last ev.records last.lives ≡ put last.lives a.0 (Some (stepped test w r ev last first life))
  step-lives =
      ap (λ xs. with_step test w r ev last xs last.lives) records
      ∙ ap (λ b. if b then with_life (stepped test w r ev last first) (running_of r ev.proc) last.lives else last.lives) step
      ∙ ap (λ o. with_life (stepped test w r ev last first) o last.lives) runs
      ∙ ap (λ o. put last.lives a.0 (option_map (stepped test w r ev last first) o)) there

  module _ (no_up : list_any is_up ev.records ≡ false) where
    pub ended-lives : (ended test w r ev last).lives ≡ put last.lives a.0 (Some (stepped test w r ev last first life))
    ended-lives =
        ap
        (λ b. if b then with_life (arisen test w r ev last) (running_of last ev.proc)
        (with_step test w r ev last ev.records last.lives) else with_step test w r ev last ev.records last.lives) no_up
        ∙ step-lives

    pub ended-fits : (s : SpaceNo) (u : Shared) (cs : Contexts DrivenContext) (c new : DrivenContext) → Holds s last u cs → cs a.0 ≡ Some c
        → IsLike c new → RestBut s last a cs → IsAtRest (stage_of last s a life) new (stepped test w r ev last first life)
        → DrivenFits s (ended test w r ev last) u (put cs a.0 (Some new))
    ended-fits s u cs c new k is like others own =
        let after = stepped test w r ev last first life in
        let i = remark s last u cs k a c new is life there after.freed after.inside after.scans (last.number + 1) None None
        like in
        subst (λ ls. DrivenFits s (record last { number = last.number + 1; lives = ls; last = None; moved = None }) u (put cs a.0 (Some new))) (sym ended-lives)
        (record {
          holds = changed-holds s last _ u u cs (put cs a.0 (Some new)) a after new i k;
          rest = changed-rest s last _ u u cs (put cs a.0 (Some new)) a after new i others own;
        })
