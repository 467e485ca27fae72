-- What is known before a step of a running life: sizes, who runs on its processor, and who runs there after it.
use Rattle.std.proofs.Common.{◌≡◌, ◌≢◌, ℕ, ◌≤◌, ◌<◌, length, Option, Some, None, option_map, refl, sym, ap, ◌∙◌, arith}
use Rattle.std.specs.Prelude.{min, false, true, ◌⊎◌, Contains}
use Rattle.std.proofs.lemmas.Option.{slice_get_within, get_or_from_slice_get}
use Rattle.sa_base.specs.declared.context.Seen.{Seen}
use Rattle.sa_base.specs.declared.limits.TheConstants.{MAX_EVENTS}
use Rattle.sa_base.specs.declared.number.ActNo.{ActNo}
use Rattle.sa_base.specs.declared.number.ProcNo.{ProcNo}
use Rattle.sa_base.specs.declared.number.SpaceNo.{SpaceNo}
use Rattle.sa_base.specs.declared.number.ThreadNo.{ThreadNo}
use Rattle.sa_instr.specs.declared.limits.TheConstants.{MAX_PATIENCE}
use Rattle.sa_spaces.specs.Workload.{WorkloadView}
use Rattle.sa_lemmas.proofs.ListReads.{some-below}
use Rattle.sa_lists.proofs.Changes.{home-inside}
use Rattle.sa_abstract.specs.Calls.{Contexts}
use Rattle.sa_abstract.specs.Keeps.{IsStepped}
use Rattle.sa_abstract.specs.Setting.{Setting}
use Rattle.sa_package_model.proofs.StepRule.{steps_well}
use Rattle.sa_package_model.specs.Context.{carried_by, stands_inside, is_left}
use Rattle.sa_package_model.specs.Rules.{own_list}
use Rattle.sa_package_model.specs.Stands.{IsStanding}
use Rattle.sa_package_model.specs.Step.{stepped}
use Rattle.sa_package_model.specs.declared.context.Context.{Context}
use Rattle.sa_package_model.specs.declared.package.Package.{Package}
use Rattle.sa_laws.specs.Demand.{OwesNothing}
use Rattle.sa_laws.specs.Life.{Life}
use Rattle.sa_laws.specs.Locks.{back_is_due}
use Rattle.sa_laws.specs.Readings.{Readings, running_of, life_of, owner_of, ready_of, carried_by as runs_by, taken_of}
use Rattle.sa_laws.specs.State.{Runner, space_at, space_def, no_space, runner_on, runner_of}
use Rattle.sa_user_laws.proofs.Runners.{runner-behind}
use Rattle.sa_user_laws.specs.Moments.{IsMoment, AreSized, Sees}
use Rattle.sa_user_laws.specs.Scene.{IsOfSpace, IsOn, event_begun_at}
use Rattle.sa_fast_laws.proofs.relation.ReadyOrders.{own-list-is}
use Rattle.sa_fast_laws.proofs.relation.Runners.{alone-runs}
use Rattle.sa_fast_laws.specs.FastFits.{Holds, FitsLists, OthersRest}
use Rattle.sa_fast_laws.specs.View.{at_yield, looks_of, left_at, is_lone}

-- the marks of a context, but whether it is in
pub record IsOwnMarked (c : Context) (life : Life) : Type 0 where
  pub back : back_is_due life ≡ at_yield c.state
  pub scans : min life.scans MAX_PATIENCE ≡ looks_of c.state
  pub left : is_left c ≡ left_at c.state (is_left c)
  pub lone : is_lone c.state c.sections ≡ true

-- What is known before a step, whichever rules its user level keeps.
pub record IsScene (set : Setting) (e : ℕ) (u : Package) (cs : Contexts Context) (w : WorkloadView) (r : Readings) (p : ProcNo) (a : ActNo) (life : Life)
    (c : Context) (seen : Seen) : Type 0 where
  pub of : IsOfSpace w set
  pub moment : IsMoment r
  pub sizes : AreSized w r
  pub stands : IsStanding set e u cs
  pub holds : Holds set.space r u cs
  pub own : IsOwnMarked c life
  pub on : IsOn set.space r p a life cs c
  pub runner : runner_on r.state p ≡ runner_of set.space (carried_by c.state)
  pub sees : Sees set.space (event_begun_at w seen.event p r) p seen.event seen
  -- who was taken was handed over
  pub given : (b : ActNo) → Contains (taken_of r set.space) b → cs b.0 ≡ None
  pub later : e < seen.event
  pub within : seen.event ≤ MAX_EVENTS

-- What FastThreads knows beside it: its ready lists, and that other lives are as between events.
pub record IsFastScene (set : Setting) (e : ℕ) (u : Package) (cs : Contexts Context) (w : WorkloadView) (r : Readings) (p : ProcNo) (a : ActNo) (life : Life)
    (c : Context) (seen : Seen) : Type 0 where
  pub scene : IsScene set e u cs w r p a life c seen
  pub lists : FitsLists u (ready_of r set.space)
  pub others : OthersRest set.space r a cs
  -- where it is not inside the package it is out, or owes nothing
  pub free : stands_inside c.state ≡ false → (life.inside ≡ false) ⊎ OwesNothing w r life

-- WHO RUNS on a processor that the space owns, at a moment at which other spaces are as before
pub runs-there : (set : Setting) (e : ℕ) (v : Package) (ds : Contexts Context) → IsStanding set e v ds → (r last : Readings) → IsMoment r
    → Holds set.space last v ds
    → (p : ProcNo) (a : ActNo) (c : Context) (life : Life) → owner_of r p ≡ Some set.space → running_of last p ≡ Some a → life_of last a ≡ Some life
    → life.space ≡ set.space → ds a.0 ≡ Some c → ((z : SpaceNo) → z.0 ≢ set.space.0 → space_at last.state z ≡ space_at r.state z)
    → runs_by last life ≡ carried_by c.state
runs-there set e v ds h r last moment k p a c life owner runs there of is elsewhere =
    ap (λ y. option_map (λ (x : Runner). x.thread) (runner_on last.state y)) (k.runs p a life runs there of).1
    ∙ ap (option_map (λ (x : Runner). x.thread)) (runner-behind set.space r last p (carried_by c.state) moment owner elsewhere
    (alone-runs set e v ds h set.space last k p a c life is there of runs)) ∙ by (carried_by c.state) where
      by : (o : Option ThreadNo) → option_map (λ (x : Runner). x.thread) (runner_of set.space o) ≡ o
      by None = refl
      by (Some t) = refl

-- WHAT IS KNOWN
module _ (set : Setting) (e : ℕ) (u : Package) (cs : Contexts Context) (w : WorkloadView) (r : Readings) (p : ProcNo) (a : ActNo) (life : Life)
    (c : Context) (seen : Seen)
    (i : IsScene set e u cs w r p a life c seen) where
  pub below : set.space.0 < length w.spaces
  below = slice_get_within w.spaces set.space.0 set.def i.of.def

  pub known : set.space.0 < length r.state.spaces
  known = let less = below in let same = i.sizes.spaces in omega arith

  pub named : set.space.0 < length r.ready
  named = let less = below in let same = i.sizes.ready in omega arith

  pub heard : set.space.0 < length r.untold
  heard = let less = below in let same = i.sizes.untold in omega arith

  pub procs : p.0 < length r.running
  procs = some-below r.running p.0 a i.on.runs

  pub inside : p.0 < w.processors
  inside = let less = procs in let same = i.sizes.running in omega arith

  pub processors : u.processors ≡ w.processors
  processors = i.stands.made.processors ∙ i.of.processors

  pub def : space_def w set.space ≡ u.def
  def = get_or_from_slice_get w.spaces set.space.0 set.def no_space i.of.def ∙ sym i.stands.made.def

  pub space : u.shared.state.space ≡ set.space
  space = i.stands.made.space

  pub steps : IsStepped IsStanding set seen cs a.0 (stepped u seen c)
  steps =
      steps_well set e u cs a.0 c seen i.stands i.on.mine
      (let same = ap (λ (x : ProcNo). x.0) i.sees.proc in let less = inside in let procs_are = i.of.processors in omega arith) i.later i.within

  pub runner : runner_on r.state p ≡ runner_of set.space (carried_by c.state)
  runner = i.runner

  pub carries : runs_by r life ≡ carried_by c.state
  carries = runs-there set e u cs i.stands r r i.moment i.holds p a c life i.on.owner i.on.runs i.on.is i.on.space i.on.mine (λ z ne. refl)

  -- the processor is one of the package's
  pub own_proc : p.0 < u.processors
  own_proc = let less = inside in let same = processors in omega arith

  -- the list that counts as its own is one of the package's
  pub list-inside : (own_list u seen.proc).0 < length u.shared.state.lists.lists
  list-inside = home-inside u.shared.state.lists u.processors seen.proc.0 i.stands.parts.lists
      (let same = ap (λ (x : ProcNo). x.0) i.sees.proc in let less = own_proc in omega arith)

-- FastThreads has a list for each processor
pub lists-many : (set : Setting) (e : ℕ) (u : Package) (cs : Contexts Context) (w : WorkloadView) (r : Readings) (p : ProcNo) (a : ActNo) (life : Life)
    (c : Context) (seen : Seen) → IsFastScene set e u cs w r p a life c seen → length u.shared.state.lists.lists ≡ w.processors
lists-many set e u cs w r p a life c seen i = i.lists.many ∙ processors set e u cs w r p a life c seen i.scene

-- and each processor's own list is that of its number
pub list-own : (set : Setting) (e : ℕ) (u : Package) (cs : Contexts Context) (w : WorkloadView) (r : Readings) (p : ProcNo) (a : ActNo) (life : Life)
    (c : Context) (seen : Seen) → IsFastScene set e u cs w r p a life c seen → own_list u seen.proc ≡ p
list-own set e u cs w r p a life c seen i =
    ap (own_list u) i.scene.sees.proc ∙ own-list-is u (ready_of r set.space) i.lists p (own_proc set e u cs w r p a life c seen i.scene)
