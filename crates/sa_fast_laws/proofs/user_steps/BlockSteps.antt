-- FastThreads' steps that end with a block: all fits after one, and a fault is legal.
use Rattle.std.proofs.Common.{◌≡◌, ℕ, true, List, [], ◌∷◌, Option, Some, refl, sym, ap, ◌∙◌, subst}
use Rattle.std.specs.Prelude.{if◌then◌else◌, ◌++◌}
use Rattle.std.specs.List.{list_any}
use Rattle.std.specs.Option.{option_map}
use Rattle.sa_base.specs.declared.context.Seen.{Seen}
use Rattle.sa_base.specs.declared.number.ActNo.{ActNo}
use Rattle.sa_base.specs.declared.number.IoNo.{IoNo}
use Rattle.sa_base.specs.declared.number.ProcNo.{ProcNo}
use Rattle.sa_base.specs.declared.record.Record.{Record}
use Rattle.sa_base.specs.declared.record.Record.TheVariants as records
use Rattle.sa_lemmas.proofs.FunctionUpdates.{put-self, put-same, put-other}
use Rattle.sa_lemmas.specs.Function.{put}
use Rattle.sa_spaces.specs.Workload.{WorkloadView}
use Rattle.sa_fast.specs.declared.threads.KeptPlace.TheVariants as kept
use Rattle.sa_abstract.specs.Calls.{Contexts}
use Rattle.sa_abstract.specs.Setting.{Setting}
use Rattle.sa_package_model.specs.Context.{carried_by}
use Rattle.sa_package_model.specs.Rules.{placed_in}
use Rattle.sa_package_model.specs.Step.{stepped}
use Rattle.sa_package_model.specs.declared.context.Context.{Context}
use Rattle.sa_package_model.specs.declared.package.Package.{Package}
use Rattle.sa_laws.specs.Demand.{IsFree}
use Rattle.sa_laws.specs.Event.{Event}
use Rattle.sa_laws.specs.History.{is_inside, is_step, with_step, stepped as ends}
use Rattle.sa_laws.specs.Life.{Life, first_lock, held_with}
use Rattle.sa_laws.specs.Readings.{Readings, life_of, running_of, ready_of}
use Rattle.sa_laws.specs.Record.{after_record, with_life}
use Rattle.sa_laws.specs.Turns.{is_of_locks, CanFault}
use Rattle.sa_laws.proofs.Records.{passage-plain, alone-plain}
use Rattle.sa_user_laws.specs.Scene.{event_begun_at}
use Rattle.sa_user_laws.specs.Steps.{event_with}
use Rattle.sa_fast_laws.proofs.relation.EventEnds.{set-marked}
use Rattle.sa_fast_laws.proofs.relation.Stages.{others-stay}
use Rattle.sa_fast_laws.specs.FastFits.{FastFits, FitsLists}
use Rattle.sa_fast_laws.specs.Stage.{was_idle}
use Rattle.sa_fast_laws.proofs.steps.Events.{IsLegal}
use Rattle.sa_fast_laws.proofs.steps.Scenes.{IsScene, IsFastScene}
use Rattle.sa_fast_laws.proofs.steps.Turns.{rules-of}
use Rattle.sa_fast_laws.proofs.user_steps.BlockMoves.{IsBlocked, IsFault, fault-for, fault-needs, fault-blocked}

module _ (set : Setting) (e : ℕ) (u : Package) (cs : Contexts Context) (w : WorkloadView) (r : Readings) (p : ProcNo) (a : ActNo) (life : Life)
    (c : Context) (seen : Seen)
    (y : IsFastScene set e u cs w r p a life c seen) where
  abbrev i : IsScene set e u cs w r p a life c seen
  i = y.scene

  -- AFTER A BLOCK all fits, whatever the kernel writes after it
  pub blocked-fits : (v : Package) (here : Readings) (x : Record) (xs : List Record) (ev : Event) (last : Readings) → ev.proc ≡ p → ev.records ≡ x ∷ xs
      → is_step x ≡ true
      → IsBlocked set cs w r a life c v here x → FitsLists v (ready_of here set.space) → last.state.spaces ≡ here.state.spaces
      → FastFits set.space (record here { lives = with_step is_inside w r ev last ev.records here.lives }) v (put cs a.0 (Some c))
  blocked-fits v here x xs ev last proc records step b lists spaces =
      let now : Life = held_with (carried_by c.state) life in
      let there : life_of here a ≡ Some now = ap (λ (f : ℕ → Option Life). f a.0) b.lives ∙ put-same r.lives a.0 (Some now) in
      let after : Life = ends is_inside w r ev last x now in
      let fits = set-marked set.space here v cs b.holds a c i.on.mine now there
      (others-stay set.space r here a cs
      (λ z d ne at. ap (λ (f : ℕ → Option Life). f z.0) b.lives ∙ put-other r.lives a.0 z.0 (Some now) ne)
      (λ z l ne. b.others z l ne) y.others)
      lists after.freed after.inside after.scans here.number here.last here.moved
      (record { idle = λ no. ap (λ g. was_idle g after) b.stage ∙ sym b.busy; marks = b.marks ev last spaces }) in
      subst (λ ls. FastFits set.space (record here { lives = ls }) v (put cs a.0 (Some c)))
      (sym (ap (λ zs. with_step is_inside w r ev last zs here.lives) records
      ∙ ap (λ z. if z then with_life (ends is_inside w r ev last x) (running_of r ev.proc) here.lives else here.lives) step
      ∙ ap (λ o. with_life (ends is_inside w r ev last x) (running_of r o) here.lives) proc
      ∙ ap (λ o. with_life (ends is_inside w r ev last x) o here.lives) i.on.runs
      ∙ ap (λ o. put here.lives a.0 (option_map (ends is_inside w r ev last x) o)) there))
      (subst (FastFits set.space (record here { lives = put here.lives a.0 (Some after) }) v) (sym (ap (put cs a.0) (sym i.on.mine) ∙ put-self cs a.0)) fits)

  -- what the rules ask of a fault
  pub record MayFault : Type 0 where
    pub fault : CanFault (event_begun_at w seen.event p r) life (first_lock life)
    pub free : (io : IoNo) → IsFree w r life (records.Block set.space (carried_by c.state) a io)

  module _ {page : ℕ} (z : IsFault set e u cs w r p a life c seen y.scene page) (t : MayFault) where
    pub fault-legal : IsLegal w set r p seen.event a cs (stepped u seen c)
    fault-legal = subst (IsLegal w set r p seen.event a cs) (sym z.step) (record {
      steps = tt;
      answer = record {
        begins = λ io. refl;
        for = fault-for set e u cs w r p a life c seen i z;
        needs = fault-needs set e u cs w r p a life c seen i z;
        rules_hold = λ io passage closing passes closed.
            let x = records.Block set.space (carried_by c.state) a io in
            let follows =
            rules-of w r (event_with seen.event p (x ∷ passage) closing) a life x passage (passage ++ closing) i.on.runs i.on.is refl closed.is_own refl
            (passes, t.fault) tt (sym (i.own.back ∙ z.yields)) (alone-plain (list_any is_of_locks passage) passage (passage-plain passage passes))
            (t.free io) tt in
            record { steps = follows.steps; demand = follows.demand; locks = follows.locks; order = follows.order };
        after = λ io behind last spaces.
            let x = records.Block set.space (carried_by c.state) a io in
            blocked-fits (placed_in u (carried_by c.state) kept.Blocked) (after_record w seen.event p (event_begun_at w seen.event p r) x) x behind
            (event_with seen.event p (x ∷ []) behind) last refl refl refl
            (fault-blocked set e u cs w r p a life c seen i z io) (record { many = y.lists.many; ranks = y.lists.ranks; numbers = y.lists.numbers }) spaces;
      };
    })
