-- A context that asks the kernel for a hint, or for the return of activations: from its move in FastThreads' part, and what
-- the rules of priorities ask beside it, to the law of the composition.
use Rattle.std.proofs.Common.{◌≡◌, ℕ, ◌<◌, Bool, true, false, ◌||◌, ◌&&◌, List, [], ◌∷◌, length, Option, Some, None, is_some, length-set, refl, sym, ap, ◌∙◌, subst, arith}
use Rattle.std.specs.Prelude.{if◌then◌else◌}
use Rattle.std.proofs.lemmas.List.{get_or-set_same, get_or-set_other}
use Rattle.sa_base.specs.declared.context.Seen.{Seen}
use Rattle.sa_base.specs.declared.number.ActNo.{ActNo}
use Rattle.sa_base.specs.declared.number.ProcNo.{ProcNo}
use Rattle.sa_base.specs.declared.number.ThreadNo.{ThreadNo}
use Rattle.sa_base.specs.declared.record.Record.{Record}
use Rattle.sa_lemmas.specs.Function.{put}
use Rattle.sa_spaces.specs.Workload.{WorkloadView}
use Rattle.sa_lemmas.proofs.ListReads.{some-below}
use Rattle.sa_abstract.specs.Calls.{Contexts}
use Rattle.sa_abstract.specs.Setting.{Setting}
use Rattle.sa_abstract.specs.declared.answer.Step.{Step}
use Rattle.sa_package_model.proofs.BeginRule.{answers}
use Rattle.sa_package_model.proofs.Views.{settled_between}
use Rattle.sa_package_model.specs.Context.{carried_by, has_bulk, stands_between, stands_inside}
use Rattle.sa_package_model.specs.Rules.{owed}
use Rattle.sa_package_model.specs.Stands.{IsStanding}
use Rattle.sa_package_model.specs.Step as fast
use Rattle.sa_package_model.specs.declared.context.Context.{Context}
use Rattle.sa_package_model.specs.declared.context.ContextState.{ContextState}
use Rattle.sa_laws.specs.History.{is_inside, after_records, settles, stepped as ends}
use Rattle.sa_laws.specs.Life.{Life}
use Rattle.sa_laws.specs.Readings.{Readings}
use Rattle.sa_user_laws.specs.Scene.{event_begun_at}
use Rattle.sa_user_laws.specs.Steps.{IsLegalAsk}
use Rattle.sa_fast_laws.specs.FastFits.{Holds}
use Rattle.sa_fast_laws.specs.Life.{IsMarked}
use Rattle.sa_fast_laws.specs.View.{view}
use Rattle.sa_fast_laws.proofs.steps.Asks.{IsAsking}
use Rattle.sa_ranks.specs.Inside.{has_entry}
use Rattle.sa_ranks.specs.Rules.{prio_threads}
use Rattle.sa_prio_model.specs.Prio.{Prio, on_at, with_on, has_pair as prio_pair}
use Rattle.sa_prio_model.specs.Stands.{bases}
use Rattle.sa_prio_model.specs.Step.{prio_calls, answered}
use Rattle.sa_prio_model.specs.Urge.{settles as settles_by}
use Rattle.sa_prio_model.specs.declared.context.PrioContext.{PrioContext}
use Rattle.sa_prio_laws.specs.PrioFits.{prio_fits}
use Rattle.sa_prio_laws.proofs.steps.Asks.{IsPrioAsking, ask-legal}
use Rattle.sa_prio_laws.proofs.frames.Frames.{base-is}
use Rattle.sa_prio_laws.proofs.steps.Rules.{IsRuled}
use Rattle.sa_prio_laws.proofs.steps.Scenes.{IsPrioScene}
use Rattle.sa_prio_laws.proofs.steps.Turns.{IsBehind}

base-if : (b : Bool) (x y : PrioContext) → (if b then x else y).base ≡ (if b then x.base else y.base)
base-if true x y = refl
base-if false x y = refl

carried-if : (b : Bool) (x y : Context) (t : Option ThreadNo) → carried_by x.state ≡ t → carried_by y.state ≡ t → carried_by (if b then x else y).state ≡ t
carried-if true x y t one two = one
carried-if false x y t one two = two

module _ (set : Setting) (e : ℕ) (v : Prio) (cs : Contexts PrioContext) (w : WorkloadView) (r : Readings) (p : ProcNo) (a : ActNo) (life : Life)
    (state : ContextState) (seen : Seen)
    (i : IsPrioScene set e v cs w r p a life (record { base = record { state = state; sections = []; work = None }; urge = false }) seen)
    (answer : Step) (x : Record) (xs : List Record) where
  abbrev c : Context
  c = record { state = state; sections = []; work = None }

  abbrev old : PrioContext
  old = record { base = record { state = state; sections = []; work = None }; urge = false }

  -- the value after the step
  abbrev pub now : Prio
  now = with_on v seen.proc (carried_by state)

  abbrev new : Seen → PrioContext
  new later = (answered (with_on v seen.proc (carried_by state)) later (record { base = record { state = state; sections = []; work = None }; urge = false })).1

  -- what the rules ask beside the move
  pub record IsAllowedAsk : Type 0 where
    pub entry : has_entry (x ∷ xs) ≡ true
    pub ruled : IsRuled w r (event_begun_at w seen.event p r) p a life x xs
    pub unmoved : (after_records w seen.event p (event_begun_at w seen.event p r) (x ∷ xs)).state ≡ r.state
    pub urged : (last : Readings) (later : Seen)
        → (stands_inside (new later).base.state || (settles r last x && prio_pair now later)) ≡ (stands_inside (new later).base.state || (new later).urge)

  module _ (m : IsAsking set e v.base (bases cs) w r p a life c seen answer x xs) (t : IsAllowedAsk) where
    abbrev q : Readings
    q = after_records w seen.event p (event_begun_at w seen.event p r) (x ∷ xs)

    same : (later : Seen) → (new later).base ≡ (fast.answered v.base later c).1
    same later = base-if (stands_between state) (settles_by now later c) old

    mine : bases cs a.0 ≡ Some c
    mine = base-is cs a.0 old i.on.mine

    inside : p.0 < length v.on
    inside = let many = i.stands.processors in let of = i.of.processors in let size = i.sizes.running in
        let below = some-below r.running p.0 a i.on.runs in omega arith

    asking : IsPrioAsking set e v cs w r p a life old seen i now old answer x xs
    asking = record {
      records = m.records;
      base = refl;
      many = length-set v.on seen.proc.0 (carried_by state);
      no_up = m.no_up;
      entry = t.entry;
      ruled = t.ruled;
      running = m.running;
      ready = m.ready;
      untold = m.untold;
      state = t.unmoved;
      lives = λ b d at. m.lives b d.base (base-is cs b.0 d at);
      carries = λ later. ap (λ (z : Context). carried_by z.state) (same later)
          ∙ carried-if (stands_between state) _ c (carried_by state)
          (settled_between (carried_by state) false (is_some (owed v.base later)) (has_bulk later)).carries refl;
      on = λ y ne. ap (λ (z : ProcNo). on_at (with_on v z (carried_by state)) y.0) i.sees.proc ∙ get_or-set_other v.on p.0 y.0 (carried_by state) None ne;
      on_here = ap (λ (z : ProcNo). on_at (with_on v z (carried_by state)) p.0) i.sees.proc ∙ get_or-set_same v.on p.0 (carried_by state) None inside;
      stands = λ later. subst (λ z. IsStanding set e v.base (put (bases cs) a.0 (Some z))) (sym (same later))
          (answers set e v.base (bases cs) i.stands.base a.0 c mine later);
      holds = λ later. subst (λ z. Holds set.space q v.base (put (bases cs) a.0 (Some z))) (sym (same later)) (m.holds later);
      marks = λ ev last later b.
          let here = subst (λ z. IsBehind set e v.base (put (bases cs) a.0 (Some z)) a z life later q last) (same later) b in
          subst (λ z. IsMarked (view z) (ends is_inside w r ev last x life)) (sym (same later)) (m.marks ev last later (record {
            stands = here.stands;
            holds = here.holds;
            mine = here.mine;
            there = here.there;
            carries = here.carries;
            demand = here.demand;
            taken = here.taken;
            stage = here.stage;
            state = here.state;
          }));
      urged = t.urged;
    }

    pub asked-legal : IsLegalAsk prio_calls prio_threads prio_fits w set r p seen.event a cs (record { user = now; ctx = old; says = []; answer = answer })
    asked-legal = ask-legal set e v cs w r p a life old seen i now old answer x xs asking
