-- A move: what a step that asks for nothing does to the machine and to what is read, and what holds after it. It cites no
-- rule of a user level, so it serves each package whose steps are these.
use Rattle.std.proofs.Common.{◌≡◌, ℕ, List, [], ◌∷◌, length, Option, Some, None, false, true, sym, ap, ◌∙◌, subst, slice_index_or, slice_index}
use Rattle.std.proofs.lemmas.Option.{same_Some}
use Rattle.std.specs.List.{list_any}
use Rattle.sa_base.specs.declared.context.Seen.{Seen}
use Rattle.sa_base.specs.declared.number.ActNo.{ActNo}
use Rattle.sa_base.specs.declared.number.ProcNo.{ProcNo}
use Rattle.sa_base.specs.declared.record.Record.{Record}
use Rattle.sa_lemmas.proofs.FunctionUpdates.{put-same}
use Rattle.sa_lemmas.specs.Function.{put}
use Rattle.sa_spaces.specs.Workload.{WorkloadView}
use Rattle.sa_abstract.specs.Calls.{Contexts}
use Rattle.sa_abstract.specs.Keeps.{IsStepped}
use Rattle.sa_abstract.specs.Setting.{Setting}
use Rattle.sa_package_model.specs.Context.{carried_by}
use Rattle.sa_package_model.specs.Rules.{pair, did}
use Rattle.sa_package_model.specs.Stands.{IsStanding}
use Rattle.sa_package_model.specs.Step.{stepped}
use Rattle.sa_package_model.specs.declared.context.Context.{Context}
use Rattle.sa_package_model.specs.declared.package.Package.{Package}
use Rattle.sa_laws.specs.Event.{Event}
use Rattle.sa_laws.specs.History.{is_inside, is_step, is_up, after_records, stepped as ends}
use Rattle.sa_laws.specs.Life.{Life}
use Rattle.sa_laws.specs.Locks.{is_back, back_is_due}
use Rattle.sa_laws.specs.Readings.{Readings, running_of, life_of, carried_by as runs_by, demand_of, taken_of}
use Rattle.sa_laws.specs.State.{space_at}
use Rattle.sa_laws.specs.Step.{AreSteps}
use Rattle.sa_user_laws.proofs.Runners.{all-elsewhere}
use Rattle.sa_user_laws.specs.Moments.{Alike}
use Rattle.sa_user_laws.specs.Scene.{event_begun_at}
use Rattle.sa_fast_laws.proofs.relation.EventEnds.{same-holds, begun-holds}
use Rattle.sa_fast_laws.proofs.relation.OneLife.{IsHeld, held-holds}
use Rattle.sa_fast_laws.specs.FastFits.{Holds}
use Rattle.sa_fast_laws.specs.Life.{IsMarked}
use Rattle.sa_fast_laws.specs.Stage.{Runs, stage_of}
use Rattle.sa_fast_laws.specs.View.{view}
use Rattle.sa_fast_laws.proofs.steps.Events.{alike-held}
use Rattle.sa_fast_laws.proofs.steps.Scenes.{IsScene, runs-there, steps}

-- what is known after the records and the closing
pub record IsBehind (set : Setting) (n : ℕ) (v : Package) (ds : Contexts Context) (a : ActNo) (new : Context) (now : Life) (seen : Seen)
    (q last : Readings) : Type 0 where
  pub stands : IsStanding set n v ds
  pub holds : Holds set.space last v ds
  pub mine : ds a.0 ≡ Some new
  pub there : life_of last a ≡ Some now
  pub carries : runs_by last now ≡ carried_by new.state
  pub demand : seen.demand ≡ demand_of last set.space
  pub taken : seen.taken ≡ length (taken_of last set.space)
  pub stage : stage_of last set.space a now ≡ Runs
  pub state : last.state ≡ q.state

-- THE MOVE of the context c of life a on processor p, before whose event r was read: it says x and then xs, and leads to the
-- package v and the context new.
pub record IsMove (set : Setting) (u : Package) (cs : Contexts Context) (w : WorkloadView) (r : Readings) (p : ProcNo) (a : ActNo) (life : Life) (c : Context)
    (seen : Seen) (x : Record) (xs : List Record) (v : Package) (new : Context) : Type 0 where
  pub step : stepped u seen c ≡ did (pair v new) (x ∷ xs)
  pub first : is_step x ≡ true
  pub no_up : list_any is_up (x ∷ xs) ≡ false
  pub needs : AreSteps w seen.event p (event_begun_at w seen.event p r) (x ∷ xs)
  pub back : is_back x ≡ back_is_due life
  pub held : IsHeld set.space (event_begun_at w seen.event p r) (after_records w seen.event p (event_begun_at w seen.event p r) (x ∷ xs)) u v a c new
  pub demands : (after_records w seen.event p (event_begun_at w seen.event p r) (x ∷ xs)).demands ≡ r.demands
  pub taken : (after_records w seen.event p (event_begun_at w seen.event p r) (x ∷ xs)).taken ≡ r.taken
  -- the marks of its life, by what it has and what its space announced and was given
  pub marks : (ev : Event) (last : Readings)
      → IsBehind set seen.event v (put cs a.0 (Some new)) a new held.life seen
      (after_records w seen.event p (event_begun_at w seen.event p r) (x ∷ xs)) last
      → IsMarked (view new) (ends is_inside w r ev last x held.life)

module _ (set : Setting) (e : ℕ) (u : Package) (cs : Contexts Context) (w : WorkloadView) (r : Readings) (p : ProcNo) (a : ActNo) (life : Life)
    (c : Context) (seen : Seen)
    (i : IsScene set e u cs w r p a life c seen)
    {x : Record} {xs : List Record} {v : Package} {new : Context} (m : IsMove set u cs w r p a life c seen x xs v new) where
  abbrev q : Readings
  q = after_records w seen.event p (event_begun_at w seen.event p r) (x ∷ xs)

  abbrev ds : Contexts Context
  ds = put cs a.0 (Some new)

  well : IsStepped IsStanding set seen cs a.0 (did (pair v new) (x ∷ xs))
  well = subst (IsStepped IsStanding set seen cs a.0) m.step (steps set e u cs w r p a life c seen i)

  pub move-holds : Holds set.space q v ds
  move-holds = held-holds set e u cs i.stands set.space (event_begun_at w seen.event p r)
      (begun-holds set.space r u cs w (record { number = seen.event; proc = p; records = [] }) i.holds) a c i.on.mine q v new m.held

  pub move-behind : (last : Readings) → Alike q last → IsBehind set seen.event v ds a new m.held.life seen q last
  move-behind last same =
      let holds = same-holds set.space q last v ds (alike-held set.space q last same.kernel) move-holds in
      let mine : ds a.0 ≡ Some new = put-same cs a.0 (Some new) in
      let there : life_of last a ≡ Some m.held.life = ap (λ (f : ℕ → Option Life). f a.0) (same.kernel.lives ∙ m.held.lives)
      ∙ put-same r.lives a.0 (Some m.held.life) in
      let runs : running_of last p ≡ Some a = ap (λ ps. slice_index_or ps p.0 None) (same.kernel.running ∙ m.held.running) ∙ i.on.runs in
      let was : life ≡ m.held.was = same_Some life m.held.was (sym i.on.is ∙ m.held.old) in
      let of : m.held.life.space ≡ set.space = m.held.stays.0 ∙ sym (ap (λ (l : Life). l.space) was) ∙ i.on.space in
      record {
        stands = well.value;
        holds = holds;
        mine = mine;
        there = there;
        carries = runs-there set seen.event v ds well.value r last i.moment holds p a new m.held.life i.on.owner runs there of mine
            (λ z ne. ap (λ y. space_at y z) same.kernel.state ∙ all-elsewhere w seen.event p (event_begun_at w seen.event p r) set.space z (x ∷ xs) well.own ne);
        demand = i.sees.demand ∙ sym (ap (λ ns. slice_index ns set.space.0) (same.demands ∙ m.demands));
        taken = i.sees.taken ∙ sym (ap (λ ns. length (slice_index_or ns set.space.0 [])) (same.kernel.taken ∙ m.taken));
        stage = (holds.runs p a m.held.life runs there of).2;
        state = same.kernel.state;
      }
