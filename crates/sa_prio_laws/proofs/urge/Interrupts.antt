-- Urge: another processor of the space is interrupted, whose thread is the lowest-ranked of those in pairs.
use Rattle.std.proofs.Common.{◌≡◌, ◌≢◌, ℕ, true, false, [], Some, None, is_some, refl, sym, ap, ◌∙◌, subst}
use Rattle.std.proofs.lemmas.Option.{none-some}
use Rattle.sa_base.specs.declared.context.Seen.{Seen}
use Rattle.sa_base.specs.declared.number.ActNo.{ActNo}
use Rattle.sa_base.specs.declared.number.ProcNo.{ProcNo}
use Rattle.sa_base.specs.declared.record.Record.TheVariants as records
use Rattle.sa_lemmas.specs.Function.{put}
use Rattle.sa_spaces.specs.Workload.{WorkloadView}
use Rattle.sa_abstract.specs.Calls.{Contexts}
use Rattle.sa_abstract.specs.Setting.{Setting}
use Rattle.sa_abstract.specs.declared.answer.Step.TheVariants.{InterruptOwn}
use Rattle.sa_package_model.proofs.Views.{settled_between}
use Rattle.sa_package_model.specs.Context.{carried_by, has_bulk, settled_to, stands_inside}
use Rattle.sa_package_model.specs.Rules.{owed}
use Rattle.sa_package_model.specs.declared.context.Context.{Context}
use Rattle.sa_package_model.specs.declared.context.ContextState.{ContextState}
use Rattle.sa_package_model.specs.declared.context.ContextState.TheVariants as states
use Rattle.sa_laws.specs.Life.{Life}
use Rattle.sa_laws.specs.Readings.{Readings, HasNothing, life_if}
use Rattle.sa_laws.specs.Record.{after_record}
use Rattle.sa_user_laws.specs.Scene.{event_begun_at}
use Rattle.sa_user_laws.specs.Steps.{IsLegalStep}
use Rattle.sa_fast_laws.proofs.relation.EventEnds.{same-holds}
use Rattle.sa_fast_laws.proofs.relation.InsideMarks.{settled-copy}
use Rattle.sa_fast_laws.proofs.relation.Restated.{restated}
use Rattle.sa_fast_laws.proofs.relation.SettledMarks.{settled-marked}
use Rattle.sa_fast_laws.specs.FastFits.{Holds}
use Rattle.sa_fast_laws.specs.Stage.{is_gone}
use Rattle.sa_fast_laws.specs.View.{at_yield, in_copy}
use Rattle.sa_fast_laws.proofs.steps.Hints.{nothing}
use Rattle.sa_ranks.specs.Pairs.{IsLowest, outranked_on}
use Rattle.sa_ranks.specs.Rules.{prio_threads}
use Rattle.sa_ranks.specs.Steps.{Interrupts, InterruptsBy}
use Rattle.sa_prio_model.proofs.Way.{settled_stands}
use Rattle.sa_prio_model.proofs.Calling.{out-no-section}
use Rattle.sa_prio_model.specs.Prio.{Prio, outranked, lowest, has_pair as prio_pair}
use Rattle.sa_prio_model.specs.Stands.{bases}
use Rattle.sa_prio_model.specs.Step.{prio_calls, interrupts}
use Rattle.sa_prio_model.specs.Urge.{is_out}
use Rattle.sa_prio_model.specs.declared.context.PrioContext.{PrioContext}
use Rattle.sa_prio_model.specs.declared.pair.Outranked.{Outranked}
use Rattle.sa_prio_laws.specs.PrioFits.{prio_fits}
use Rattle.sa_prio_laws.proofs.notices.Answers.{out-or}
use Rattle.sa_prio_laws.proofs.steps.Asks.{IsPrioAsking, ask-legal}
use Rattle.sa_prio_laws.proofs.frames.Frames.{base-is}
use Rattle.sa_prio_laws.proofs.steps.Rules.{IsRuled}
use Rattle.sa_prio_laws.proofs.steps.Scenes.{IsPrioScene, outranked-same, seen-pair, seen-lowest}

pub out-copy : (state : ContextState) → is_out state ≡ true → in_copy state ≡ false
out-copy (states.User t) e = refl
out-copy (states.Look looks) e = refl
out-copy _ e = absurd cc

pub out-yield : (state : ContextState) → is_out state ≡ true → at_yield state ≡ false
out-yield (states.User t) e = refl
out-yield (states.Look looks) e = refl
out-yield _ e = absurd cc

module _ (set : Setting) (e : ℕ) (v : Prio) (cs : Contexts PrioContext) (w : WorkloadView) (r : Readings) (p : ProcNo) (a : ActNo) (life : Life)
    (state : ContextState) (out : is_out state ≡ true) (seen : Seen)
    (i : IsPrioScene set e v cs w r p a life (record { base = record { state = state; sections = []; work = None }; urge = true }) seen) where
  abbrev c : Context
  c = record { state = state; sections = []; work = None }

  abbrev old : PrioContext
  old = record { base = record { state = state; sections = []; work = None }; urge = true }

  abbrev r0 : Readings
  r0 = event_begun_at w seen.event p r

  mine : bases cs a.0 ≡ Some c
  mine = base-is cs a.0 old i.on.mine

  processors : v.base.processors ≡ w.processors
  processors = i.stands.base.made.processors ∙ i.of.processors

  -- ITS LIFE OWES NOTHING ELSE
  pub owes-nothing : HasNothing r life
  owes-nothing = nothing set e v.base (bases cs) i.stands.base set.space r i.holds a state mine life i.on.is
      (ap is_gone (i.holds.runs p a life i.on.runs i.on.is i.on.space).2) (out-no-section state out) (out-copy state out) w seen i.sees.demand

  module _ (calm : outranked v seen seen.proc ≡ None) (other : Outranked) (found : lowest v seen ≡ Some other) where
    low : IsLowest r0 set.space other.proc
    low = seen-lowest set e v cs w r p a life old seen i other found

    calm-here : outranked_on r0 set.space p ≡ None
    calm-here = sym (seen-pair set e v cs w r p a life old seen i p) ∙ sym (ap (outranked v seen) i.sees.proc) ∙ calm

    apart : other.proc ≢ p
    apart same = none-some low.rank (sym calm-here ∙ ap (outranked_on r0 set.space) (sym same) ∙ low.pair)

    -- what is read after the event's beginning, and before it
    pub rule-behind : Interrupts r0 p life other.proc
    rule-behind = record {
      nothing = record { locks = owes-nothing.locks; cont = owes-nothing.cont; hand = owes-nothing.hand };
      calm = ap (λ s. outranked_on r0 s p) i.on.space ∙ calm-here;
      apart = apart;
      lowest = subst (λ s. IsLowest r0 s other.proc) (sym i.on.space) low;
    }

    pub rule-before : Interrupts r p life other.proc
    rule-before =
        let same : (q : ProcNo) → outranked_on r0 set.space q ≡ outranked_on r set.space q = outranked-same set e v cs w r p a life old seen i in
        record {
          nothing = owes-nothing;
          calm = ap (λ s. outranked_on r s p) i.on.space ∙ sym (same p) ∙ calm-here;
          apart = apart;
          lowest = subst (λ s. IsLowest r s other.proc) (sym i.on.space) (record {
            rank = low.rank;
            pair = sym (same other.proc) ∙ low.pair;
            lowest = λ q n is. low.lowest q n (same q ∙ is);
            first = λ q n below is. low.first q n below (same q ∙ is);
          });
        }

    ruled : IsRuled w r r0 p a life (records.Line other.proc) []
    ruled = record {
      step = refl;
      table = (refl, rule-behind);
      keeps = record {
        keeps = tt;
        due = λ due. absurd (let no = sym i.own.back ∙ due in let none = out-yield state out in cc);
        back = λ no. absurd cc;
      };
      alone = tt;
      free = record { free = λ no. absurd cc };
      unurged = record { unurged = λ no. absurd cc };
      next = λ behind. tt;
    }

    asking : IsPrioAsking set e v cs w r p a life old seen i v old (InterruptOwn other.proc) (records.Line other.proc) []
    asking = record {
      records = refl;
      base = refl;
      many = refl;
      no_up = refl;
      entry = refl;
      ruled = ruled;
      running = refl;
      ready = refl;
      untold = refl;
      state = refl;
      lives = λ b d at. refl;
      carries = λ later. (settled_between (carried_by state) false (is_some (owed v.base later)) (has_bulk later)).carries;
      on = λ y ne. refl;
      on_here = i.kept p a old i.on.runs i.on.mine;
      stands = λ later. settled_stands set e v.base (bases cs) i.stands.base a.0 c mine (out-no-section state out) later;
      holds = λ later. holds-later later;
      marks = λ ev last later b.
          let between = settled_between (carried_by state) false (is_some (owed v.base later)) (has_bulk later) in
          settled-marked set e v.base
          (put (bases cs) a.0 (Some
          (record {
            state = settled_to (carried_by state) false (is_some (owed v.base later)) (has_bulk later);
            sections = [];
            work = None;
          }))) b.stands set.space last b.holds a (carried_by state) later [] None life b.there (ap is_gone b.stage) w r ev
          (records.Line other.proc) b.mine b.demand b.taken processors (b.carries ∙ between.carries) refl refl (λ some. absurd cc);
      urged =
          λ last later. sym (out-or (stands_inside (settled_to (carried_by state) false (is_some (owed v.base later)) (has_bulk later))) (prio_pair v later));
    } where
      holds-later : (later : Seen) → Holds set.space (after_record w seen.event p (event_begun_at w seen.event p r) (records.Line other.proc)) v.base
          (put (bases cs) a.0 (Some
          (record { state = settled_to (carried_by state) false (is_some (owed v.base later)) (has_bulk later); sections = []; work = None })))
      holds-later later =
          let between = settled_between (carried_by state) false (is_some (owed v.base later)) (has_bulk later) in
          same-holds set.space r (after_record w seen.event p (event_begun_at w seen.event p r) (records.Line other.proc)) v.base
          (put (bases cs) a.0 (Some
          (record { state = settled_to (carried_by state) false (is_some (owed v.base later)) (has_bulk later); sections = []; work = None })))
          (record { space = refl; untold = refl; running = refl; lives = refl })
          (restated set.space r v.base (bases cs) i.holds a state
          (settled_to (carried_by state) false (is_some (owed v.base later)) (has_bulk later)) [] None mine
          (out-no-section state out) (out-copy state out) between.section
          (settled-copy (carried_by state) false (is_some (owed v.base later)) (has_bulk later)) between.carries)

    -- THE STEP
    pub interrupts-legal : IsLegalStep prio_calls prio_threads prio_fits w set r p seen.event a cs (interrupts v c other)
    interrupts-legal = record {
      steps = tt;
      answer = (
        ask-legal set e v cs w r p a life old seen i v old (InterruptOwn other.proc) (records.Line other.proc) [] asking,
        subst (λ o. InterruptsBy r p o other.proc) (sym (ap (life_if r) i.on.runs ∙ i.on.is)) rule-before,
      );
    }
