-- Which thread runs on the processor of a running life; and what is known before its step.
use Rattle.std.proofs.Common.{◌≡◌, ◌≢◌, ℕ, ◌≤◌, ◌<◌, length, Option, Some, None, option_map, refl, sym, ap, ◌∙◌, Contains, arith}
use Rattle.std.proofs.lemmas.Option.{slice_get_within, get_or_from_slice_get}
use Rattle.sa_base.specs.declared.context.Seen.{Seen}
use Rattle.sa_base.specs.declared.limits.TheConstants.{MAX_EVENTS}
use Rattle.sa_base.specs.declared.number.ActNo.{ActNo}
use Rattle.sa_base.specs.declared.number.ProcNo.{ProcNo}
use Rattle.sa_base.specs.declared.number.SpaceNo.{SpaceNo}
use Rattle.sa_base.specs.declared.number.ThreadNo.{ThreadNo}
use Rattle.sa_lemmas.proofs.ListReads.{some-below}
use Rattle.sa_spaces.specs.Workload.{WorkloadView}
use Rattle.sa_abstract.specs.Calls.{Contexts}
use Rattle.sa_abstract.specs.Keeps.{IsStepped}
use Rattle.sa_abstract.specs.Setting.{Setting}
use Rattle.sa_driven_model.proofs.StepRule.{steps_well}
use Rattle.sa_driven_model.specs.declared.context.DrivenContext.{DrivenContext}
use Rattle.sa_driven_model.specs.declared.space.DrivenSpace.{DrivenSpace}
use Rattle.sa_driven_model.specs.Stands.{IsStanding, driven_stands}
use Rattle.sa_driven_model.specs.Step.{stepped}
use Rattle.sa_laws.specs.Life.{Life}
use Rattle.sa_laws.specs.Readings.{Readings, running_of, life_of, owner_of, carried_by, taken_of}
use Rattle.sa_laws.specs.State.{Runner, no_space, space_at, space_def, runner_on, runner_of}
use Rattle.sa_user_laws.proofs.Runners.{runner-behind}
use Rattle.sa_user_laws.specs.Moments.{IsMoment, AreSized, Sees}
use Rattle.sa_user_laws.specs.Scene.{IsOfSpace, IsOn, event_begun_at}
use Rattle.sa_driven_laws.specs.DrivenFits.{Holds, DrivenFits}
use Rattle.sa_driven_laws.proofs.Runners.{alone-runs}

-- WHO RUNS on a processor that the space owns, at a moment at which other spaces are as before
pub runs-there : (set : Setting) (e : ℕ) (v : DrivenSpace) (ds : Contexts DrivenContext) → IsStanding set e v ds → (r last : Readings) → IsMoment r
    → Holds set.space last v.base.shared ds
    → (p : ProcNo) (a : ActNo) (c : DrivenContext) (life : Life) → owner_of r p ≡ Some set.space → running_of last p ≡ Some a → life_of last a ≡ Some life
    → life.space ≡ set.space → ds a.0 ≡ Some c → ((z : SpaceNo) → z.0 ≢ set.space.0 → space_at last.state z ≡ space_at r.state z)
    → carried_by last life ≡ c.thread
runs-there set e v ds h r last moment k p a c life owner runs there of is elsewhere =
    ap (λ y. option_map (λ (x : Runner). x.thread) (runner_on last.state y)) (k.runs p a life runs there of).1
    ∙ ap (option_map (λ (x : Runner). x.thread)) (runner-behind set.space r last p c.thread moment owner elsewhere
    (alone-runs set e v ds h set.space last k p a c life is there of runs)) ∙ by c.thread where
      by : (o : Option ThreadNo) → option_map (λ (x : Runner). x.thread) (runner_of set.space o) ≡ o
      by None = refl
      by (Some t) = refl

-- What is known before a step.
pub record IsScene (set : Setting) (e : ℕ) (u : DrivenSpace) (cs : Contexts DrivenContext) (w : WorkloadView) (r : Readings) (p : ProcNo) (a : ActNo)
    (life : Life) (c : DrivenContext) (seen : Seen) : Type 0 where
  pub of : IsOfSpace w set
  pub moment : IsMoment r
  pub sizes : AreSized w r
  pub stands : IsStanding set e u cs
  pub fits : DrivenFits set.space r u.base.shared cs
  pub on : IsOn set.space r p a life cs c
  pub runner : runner_on r.state p ≡ runner_of set.space c.thread
  pub sees : Sees set.space (event_begun_at w seen.event p r) p seen.event seen
  -- who was taken was handed over
  pub given : (b : ActNo) → Contains (taken_of r set.space) b → cs b.0 ≡ None
  pub later : e < seen.event
  pub within : seen.event ≤ MAX_EVENTS

module _ (set : Setting) (e : ℕ) (u : DrivenSpace) (cs : Contexts DrivenContext) (w : WorkloadView) (r : Readings) (p : ProcNo) (a : ActNo) (life : Life)
    (c : DrivenContext) (seen : Seen)
    (i : IsScene set e u cs w r p a life c seen) where
  pub below : set.space.0 < length w.spaces
  below = slice_get_within w.spaces set.space.0 set.def i.of.def

  pub known : set.space.0 < length r.state.spaces
  known = let less = below in let same = i.sizes.spaces in omega (arith, less, same)

  pub heard : set.space.0 < length r.untold
  heard = let less = below in let same = i.sizes.untold in omega (arith, less, same)

  pub procs : p.0 < length r.running
  procs = some-below r.running p.0 a i.on.runs

  pub inside : p.0 < w.processors
  inside = let less = procs in let same = i.sizes.running in omega (arith, less, same)

  pub processors : u.base.processors ≡ w.processors
  processors = i.stands.made.processors ∙ i.of.processors

  pub def : space_def w set.space ≡ u.base.def
  def = get_or_from_slice_get w.spaces set.space.0 set.def no_space i.of.def ∙ sym i.stands.made.def

  pub space : u.base.shared.state.space ≡ set.space
  space = i.stands.made.space

  pub steps : IsStepped driven_stands set seen cs a.0 (stepped u seen c)
  steps =
      steps_well set e u cs a.0 c seen i.stands i.on.mine
      (let same = ap (λ (x : ProcNo). x.0) i.sees.proc in let less = inside in let procs_are = i.of.processors in omega (arith, same, less, procs_are))
      i.later i.within

  pub carries : carried_by r life ≡ c.thread
  carries = runs-there set e u cs i.stands r r i.moment i.fits.holds p a c life i.on.owner i.on.runs i.on.is i.on.space i.on.mine (λ z ne. refl)
