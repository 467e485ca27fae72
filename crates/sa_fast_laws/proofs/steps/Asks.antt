-- A step that asks the kernel for a hint or for the return of activations: the kernel's records, and the context goes on.
use Rattle.std.proofs.Common.{◌≡◌, ℕ, true, false, List, [], ◌∷◌, ◌++◌, Option, Some, None, refl, sym, ap, ◌∙◌, subst, slice_index_or}
use Rattle.std.specs.List.{list_any}
use Rattle.sa_base.specs.declared.context.Seen.{Seen}
use Rattle.sa_base.specs.declared.number.ActNo.{ActNo}
use Rattle.sa_base.specs.declared.number.ProcNo.{ProcNo}
use Rattle.sa_base.specs.declared.number.SpaceNo.{SpaceNo}
use Rattle.sa_base.specs.declared.record.Record.{Record}
use Rattle.sa_lemmas.proofs.FunctionUpdates.{put-same, put-put}
use Rattle.sa_lemmas.specs.Function.{put}
use Rattle.sa_spaces.specs.Workload.{WorkloadView}
use Rattle.sa_abstract.specs.Calls.{Contexts}
use Rattle.sa_abstract.specs.Setting.{Setting}
use Rattle.sa_abstract.specs.declared.answer.Step.{Step}
use Rattle.sa_package_model.proofs.BeginRule.{answers}
use Rattle.sa_package_model.specs.Rules.{pair, asks}
use Rattle.sa_package_model.specs.Stands.{IsStanding}
use Rattle.sa_package_model.specs.Step.{fast_calls, answered}
use Rattle.sa_package_model.specs.declared.context.Context.{Context}
use Rattle.sa_package_model.specs.declared.package.Package.{Package}
use Rattle.sa_laws.specs.Demand.{IsFree}
use Rattle.sa_laws.specs.Event.{Event}
use Rattle.sa_laws.specs.History.{is_inside, is_step, is_up, after_records, stepped as ends, after_event}
use Rattle.sa_laws.specs.Life.{Life}
use Rattle.sa_laws.specs.Locks.{KeepsLocks, StandsAlone, is_back, back_is_due, RunsNext}
use Rattle.sa_laws.specs.Readings.{Readings, running_of, life_of}
use Rattle.sa_laws.specs.Rules.{fast_threads}
use Rattle.sa_laws.specs.State.{space_at}
use Rattle.sa_laws.specs.Turns.{is_of_locks, StepBy}
use Rattle.sa_user_laws.specs.Moments.{AlikeButDemands, Sees}
use Rattle.sa_user_laws.specs.Scene.{event_begun_at}
use Rattle.sa_user_laws.specs.Steps.{event_with, IsClosed, IsLegalAsk, RulesHold, records_asked}
use Rattle.sa_fast_laws.proofs.relation.EventEnds.{same-holds, closing-ups, ended-fits}
use Rattle.sa_fast_laws.proofs.relation.Stages.{stage-same, others-stay}
use Rattle.sa_fast_laws.specs.FastFits.{FitsLists, Holds, fast_fits}
use Rattle.sa_fast_laws.specs.Life.{IsMarked}
use Rattle.sa_fast_laws.specs.Stage.{stage_of, is_running}
use Rattle.sa_fast_laws.specs.View.{view}
use Rattle.sa_fast_laws.proofs.steps.Moves.{IsBehind}
use Rattle.sa_fast_laws.proofs.steps.Scenes.{IsScene, IsFastScene, runs-there}
use Rattle.sa_fast_laws.proofs.steps.Turns.{rules-of, any-ups}

-- THE MOVE of a context that asks the kernel for a hint, or for the return of activations: the kernel writes x and then xs, and
-- the context goes on by what it sees after them.
pub record IsAsking (set : Setting) (e : ℕ) (u : Package) (cs : Contexts Context) (w : WorkloadView) (r : Readings) (p : ProcNo) (a : ActNo) (life : Life)
    (c : Context) (seen : Seen) (answer : Step) (x : Record) (xs : List Record) : Type 0 where
  pub records : records_asked r set.space answer ≡ x ∷ xs
  pub first : is_step x ≡ true
  pub no_up : list_any is_up (x ∷ xs) ≡ false
  pub back : is_back x ≡ back_is_due life
  -- after them its own life is what it was, and so are those of other contexts
  pub running : (after_records w seen.event p (event_begun_at w seen.event p r) (x ∷ xs)).running ≡ r.running
  pub ready : (after_records w seen.event p (event_begun_at w seen.event p r) (x ∷ xs)).ready ≡ r.ready
  pub untold : (after_records w seen.event p (event_begun_at w seen.event p r) (x ∷ xs)).untold ≡ r.untold
  pub elsewhere : (z : SpaceNo) → space_at (after_records w seen.event p (event_begun_at w seen.event p r) (x ∷ xs)).state z ≡ space_at r.state z
  pub lives : (b : ActNo) (d : Context) → cs b.0 ≡ Some d
      → life_of (after_records w seen.event p (event_begun_at w seen.event p r) (x ∷ xs)) b ≡ life_of r b
  pub holds : (later : Seen)
      → Holds set.space (after_records w seen.event p (event_begun_at w seen.event p r) (x ∷ xs)) u (put cs a.0 (Some (answered u later c).1))
  pub marks : (ev : Event) (last : Readings) (later : Seen)
      → IsBehind set e u (put cs a.0 (Some (answered u later c).1)) a (answered u later c).1 life later
      (after_records w seen.event p (event_begun_at w seen.event p r) (x ∷ xs)) last
      → IsMarked (view (answered u later c).1) (ends is_inside w r ev last x life)

-- what is known after them and the closing
module _ (set : Setting) (e : ℕ) (u : Package) (cs : Contexts Context) (w : WorkloadView) (r : Readings) (p : ProcNo) (a : ActNo) (life : Life)
    (c : Context) (seen : Seen)
    (i : IsScene set e u cs w r p a life c seen) {answer : Step} {x : Record} {xs : List Record}
    (m : IsAsking set e u cs w r p a life c seen answer x xs)
    (last : Readings) (later : Seen)
    (same : AlikeButDemands (after_records w seen.event p (event_begun_at w seen.event p r) (x ∷ xs)) last) (sees : Sees set.space last p seen.event later) where
  abbrev q : Readings
  q = after_records w seen.event p (event_begun_at w seen.event p r) (x ∷ xs)

  abbrev new : Context
  new = (answered u later c).1

  abbrev ds : Contexts Context
  ds = put cs a.0 (Some (answered u later c).1)

  ask-holds : Holds set.space last u ds
  ask-holds = same-holds set.space q last u ds (record {
    space = ap (λ z. space_at z set.space) same.state;
    untold = ap (λ z. slice_index_or z set.space.0 []) same.untold;
    running = same.running;
    lives = same.lives;
  }) (m.holds later)

  pub ask-behind : IsBehind set e u ds a new life later q last
  ask-behind =
      let stands : IsStanding set e u ds = answers set e u cs i.stands a.0 c i.on.mine later in
      let mine : ds a.0 ≡ Some new = put-same cs a.0 (Some new) in
      let there : life_of last a ≡ Some life = ap (λ (f : ℕ → Option Life). f a.0) same.lives ∙ m.lives a c i.on.mine ∙ i.on.is in
      let runs : running_of last p ≡ Some a = ap (λ ps. slice_index_or ps p.0 None) (same.running ∙ m.running) ∙ i.on.runs in
      record {
        stands = stands;
        holds = ask-holds;
        mine = mine;
        there = there;
        carries =
            runs-there set e u ds stands r last i.moment ask-holds p a new life i.on.owner runs there i.on.space mine
            (λ z ne. ap (λ y. space_at y z) same.state ∙ m.elsewhere z);
        demand = sees.demand;
        taken = sees.taken;
        stage = (ask-holds.runs p a life runs there i.on.space).2;
        state = same.state;
      }

module _ (set : Setting) (e : ℕ) (u : Package) (cs : Contexts Context) (w : WorkloadView) (r : Readings) (p : ProcNo) (a : ActNo) (life : Life)
    (c : Context) (seen : Seen)
    (i : IsFastScene set e u cs w r p a life c seen) where
  -- what FastThreads' rules ask of it
  pub record MayAsk (x : Record) (xs : List Record) : Type 0 where
    pub table : StepBy w (event_begun_at w seen.event p r) p a life x xs
    pub keeps : KeepsLocks w (event_begun_at w seen.event p r) p life x
    pub alone : StandsAlone (list_any is_of_locks (x ∷ xs)) xs
    pub free : IsFree w r life x
    pub next : (behind : List Record) → RunsNext r p (x ∷ behind)

  module _ {answer : Step} {x : Record} {xs : List Record} (m : IsAsking set e u cs w r p a life c seen answer x xs) (t : MayAsk x xs) where
    abbrev asked : Readings
    asked = after_records w seen.event p (event_begun_at w seen.event p r) (x ∷ xs)

    pub ask-legal : IsLegalAsk fast_calls fast_threads fast_fits w set r p seen.event a cs (asks (pair u c) answer)
    ask-legal = record {
      none = refl;
      rules_hold =
          subst (λ own. (closing : List Record) → IsClosed own closing → RulesHold fast_threads w r (event_with seen.event p own closing) own) (sym m.records)
          (λ closing closed.
          let follows =
          rules-of w r (event_with seen.event p (x ∷ xs) closing) a life x xs
          (xs ++ closing) i.scene.on.runs i.scene.on.is refl closed.is_own m.first t.table t.keeps m.back t.alone t.free (t.next (xs ++ closing)) in
          record { steps = follows.steps; demand = follows.demand; locks = follows.locks; order = follows.order });
      after = subst (λ own. (closing : List Record) (later : Seen) → IsClosed own closing
          → AlikeButDemands (after_records w seen.event p (event_begun_at w seen.event p r) own)
          (after_records w seen.event p (event_begun_at w seen.event p r) (own ++ closing))
          → Sees set.space (after_records w seen.event p (event_begun_at w seen.event p r) (own ++ closing)) p seen.event later
          → fast_fits w set (after_event is_inside w r (event_with seen.event p own closing)) u (put (put cs a.0 (Some c)) a.0 (Some (answered u later c).1)))
          (sym m.records)
          (λ closing later closed same sees.
          let ev = event_with seen.event p (x ∷ xs) closing in
          let last = after_records w seen.event p (event_begun_at w seen.event p r) ((x ∷ xs) ++ closing) in
          let new = (answered u later c).1 in
          let b = ask-behind set e u cs w r p a life c seen i.scene m last later same sees in
          subst (fast_fits w set (after_event is_inside w r ev) u) (sym (put-put cs a.0 (Some c) (Some new)))
          (ended-fits set.space r u cs a w ev i.scene.on.runs last
          (others-stay set.space r last a cs
          (λ y d ne at. ap (λ (f : ℕ → Option Life). f y.0) same.lives ∙ m.lives y d at)
          (λ y l ne. stage-same set.space r last (ap (λ ls. slice_index_or ls set.space.0 []) (same.untold ∙ m.untold))
          (same.running ∙ m.running) y l) i.others)
          u new b.holds (subst (FitsLists u) (sym (ap (λ ls. slice_index_or ls set.space.0 []) (same.ready ∙ m.ready))) i.lists)
          life b.there x (xs ++ closing) refl m.first (any-ups (x ∷ xs) closing m.no_up (closing-ups closing closed.closes))
          (record {
            idle = λ no. absurd (let yes : is_running (stage_of last set.space a life) ≡ true = ap is_running b.stage in cc);
            marks = m.marks ev last later b;
          })));
    }
