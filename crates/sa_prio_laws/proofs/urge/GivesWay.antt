-- Urge: a thread that some ready thread outranks gives way.
use Rattle.std.proofs.Common.{◌≡◌, ℕ, zero, suc, true, [], ◌∷◌, All, Some, None, refl, sym, ap, ◌∙◌, subst, arith}
use Rattle.sa_base.specs.declared.context.Seen.{Seen}
use Rattle.sa_base.specs.declared.number.ActNo.{ActNo}
use Rattle.sa_base.specs.declared.number.ProcNo.{ProcNo}
use Rattle.sa_base.specs.declared.number.SpaceNo.{SpaceNo}
use Rattle.sa_base.specs.declared.number.ThreadNo.{ThreadNo}
use Rattle.sa_base.specs.declared.record.Record.{Record}
use Rattle.sa_base.specs.declared.record.Record.TheVariants as records
use Rattle.sa_lemmas.specs.Function.{put}
use Rattle.sa_spaces.specs.Workload.{WorkloadView}
use Rattle.sa_abstract.specs.Calls.{Contexts}
use Rattle.sa_abstract.specs.Keeps.{IsOwn}
use Rattle.sa_abstract.specs.Setting.{Setting}
use Rattle.sa_package_model.proofs.BeginRule.{later}
use Rattle.sa_package_model.specs.declared.context.Context.{Context}
use Rattle.sa_package_model.specs.declared.context.ContextState.TheVariants.{User, Work}
use Rattle.sa_package_model.specs.declared.package.Package.{Package}
use Rattle.sa_laws.specs.Life.{Life}
use Rattle.sa_laws.specs.Readings.{Readings, ready_of}
use Rattle.sa_user_laws.specs.Scene.{event_begun_at}
use Rattle.sa_user_laws.specs.Steps.{IsLegalStep}
use Rattle.sa_fast_laws.proofs.relation.SettledMarks.{settled-marked}
use Rattle.sa_fast_laws.specs.Stage.{is_gone}
use Rattle.sa_fast_laws.proofs.lives.Answers.{life-carries}
use Rattle.sa_ranks.specs.Pairs.{outranked_on}
use Rattle.sa_ranks.specs.Rules.{prio_threads}
use Rattle.sa_ranks.specs.Steps.{BacksBy, IsOutranked}
use Rattle.sa_prio_model.proofs.Way.{way_stands}
use Rattle.sa_prio_model.specs.Prio.{Prio, outranked}
use Rattle.sa_prio_model.specs.Stands.{bases}
use Rattle.sa_prio_model.specs.Step.{prio_calls, gives_way}
use Rattle.sa_prio_model.specs.declared.context.PrioContext.{PrioContext}
use Rattle.sa_prio_laws.proofs.relation.Ranked.{ranked-same}
use Rattle.sa_prio_laws.specs.PrioFits.{prio_fits}
use Rattle.sa_prio_laws.proofs.frames.Frames.{base-is}
use Rattle.sa_prio_laws.proofs.urge.Interrupts.{owes-nothing}
use Rattle.sa_prio_laws.proofs.steps.Scenes.{IsPrioScene, known, holds0, seen-pair}
use Rattle.sa_prio_laws.proofs.steps.Turns.{IsPrioTurn, turn-legal}
use Rattle.sa_prio_laws.proofs.urge.Ways.{way_package, way-held, way-programs}

one-own : (s : SpaceNo) (x : Record) → IsOwn s x → All (IsOwn s) (x ∷ [])
one-own s x own zero d below = own
one-own s x own (suc n) d below = absurd (omega (arith, below))

module _ (set : Setting) (e : ℕ) (v : Prio) (cs : Contexts PrioContext) (w : WorkloadView) (r : Readings) (p : ProcNo) (a : ActNo) (life : Life)
    (t : ThreadNo) (seen : Seen)
    (i : IsPrioScene set e v cs w r p a life (record { base = record { state = User t; sections = []; work = None }; urge = true }) seen)
    (rank : ℕ) (is : outranked v seen seen.proc ≡ Some rank) where
  abbrev c : Context
  c = record { state = User t; sections = []; work = None }

  abbrev old : PrioContext
  old = record { base = record { state = User t; sections = []; work = None }; urge = true }

  abbrev r0 : Readings
  r0 = event_begun_at w seen.event p r

  mine : bases cs a.0 ≡ Some c
  mine = base-is cs a.0 old i.on.mine

  -- the package and the context after it
  abbrev wayed : Package
  wayed =
      way_package set e v.base (bases cs) i.stands.base set.space r0
      (holds0 set e v cs w r p a life old seen i) a t mine w seen.event p life i.on.runs i.on.is i.on.space
      (known set e v cs w r p a life old seen i)

  abbrev new : Context
  new = record { state = Work None; sections = []; work = Some t }

  -- it is in a pair, as is read
  pair : IsOutranked r0 life.space p
  pair = record {
    rank = rank;
    pair = ap (λ s. outranked_on r0 s p) i.on.space ∙ sym (seen-pair set e v cs w r p a life old seen i p) ∙ sym (ap (outranked v seen) i.sees.proc) ∙ is;
  }

  turn : IsPrioTurn set e v cs w r p a life old seen i (records.Back set.space (Some t)) [] wayed new
  turn =
      let nothing = owes-nothing set e v cs w r p a life (User t) refl seen i in
      let holds = holds0 set e v cs w r p a life old seen i in
      let there = known set e v cs w r p a life old seen i in
      record {
        stands =
            later set e seen.event wayed (put (bases cs) a.0 (Some new)) (way_stands set e v.base (bases cs) i.stands.base a.0 c mine refl seen)
            (let less = i.later in omega arith);
        own = one-own set.space (records.Back set.space (Some t)) refl;
        no_up = refl;
        no_entry = refl;
        needs = ((i.on.owner, i.runner), tt);
        ruled = record {
          step = refl;
          table = (
            refl,
            subst (λ b. BacksBy b r0 p life set.space (Some t)) (sym nothing.cont) (record {
              nothing = record { locks = nothing.locks; cont = nothing.cont; hand = nothing.hand };
              space = sym i.on.space;
              thread = sym (life-carries set.space r0 p life (Some t) i.on.proc i.runner);
              pair = pair;
            }),
          );
          keeps = record { keeps = sym i.on.space; due = λ due. refl; back = λ is_back cont. absurd (let no = sym nothing.cont ∙ cont in cc) };
          alone = refl;
          free = record { free = λ no. absurd cc };
          unurged = record { unurged = λ no. absurd cc };
          next = λ behind. tt;
        };
        held = way-held set e v.base (bases cs) i.stands.base set.space r0 holds a t mine w seen.event p life i.on.runs i.on.is i.on.space there;
        ranked = ranked-same v.base wayed refl
            (λ n made. way-programs set e v.base (bases cs) i.stands.base set.space r0 holds a t mine w seen.event p life i.on.runs i.on.is i.on.space there n)
            (ready_of r set.space) i.ranked;
        demands = refl;
        taken = refl;
        lines = refl;
        owners = refl;
        marks =
            λ ev last b. settled-marked set seen.event wayed (put (bases cs) a.0 (Some new)) b.stands set.space last b.holds a None seen [] (Some t) _ b.there
            (ap is_gone b.stage) w r ev
            (records.Back set.space (Some t)) b.mine b.demand b.taken (i.stands.base.made.processors ∙ i.of.processors) b.carries refl refl (λ some. absurd cc);
        settled = λ last state out. absurd cc;
      }

  pub gives_way-legal : IsLegalStep prio_calls prio_threads prio_fits w set r p seen.event a cs (gives_way v seen c)
  gives_way-legal =
      let legal = turn-legal set e v cs w r p a life old seen i (records.Back set.space (Some t)) [] wayed new turn in
      subst (λ s. IsLegalStep prio_calls prio_threads prio_fits w set r p seen.event a cs
      (record (gives_way v seen c) { says = records.Back s (Some t) ∷ [] })) (sym i.stands.base.made.space) legal
