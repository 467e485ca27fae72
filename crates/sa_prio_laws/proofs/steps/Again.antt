-- A context settles again without an event: a hint that is no longer owed, activations that are too few by now, and a
-- pair that is there no longer.
use Rattle.std.proofs.Common.{◌≡◌, ℕ, Bool, true, false, not, ◌||◌, [], Option, Some, None, is_some, is_none, nat_le, nat_lt, min, refl, sym, ap, ◌∙◌, subst, inl, inr, arith}
use Rattle.std.proofs.Math.Path.{fun_ext}
use Rattle.std.proofs.lemmas.Bool.{cases_eq, ltb-false}
use Rattle.std.proofs.lemmas.Option.{none-some, same_Some}
use Rattle.sa_assign.specs.Aims.{least_below}
use Rattle.sa_assign.specs.Reaim.{proc_no}
use Rattle.sa_base.specs.declared.context.Seen.{Seen}
use Rattle.sa_base.specs.declared.number.ActNo.{ActNo}
use Rattle.sa_base.specs.declared.number.ProcNo.{ProcNo}
use Rattle.sa_base.specs.declared.number.ThreadNo.{ThreadNo}
use Rattle.sa_lemmas.proofs.FunctionUpdates.{put-same, put-other, put-at, put-put}
use Rattle.sa_lemmas.specs.Function.{put}
use Rattle.sa_spaces.specs.Workload.{WorkloadView}
use Rattle.sa_abstract.specs.Calls.{Contexts, Stepped}
use Rattle.sa_abstract.specs.Setting.{Setting}
use Rattle.sa_abstract.specs.declared.answer.Step.{Step}
use Rattle.sa_abstract.specs.declared.answer.Step.TheVariants as asked
use Rattle.sa_package_model.proofs.Views.{settled_between}
use Rattle.sa_package_model.specs.Context.{carried_by, has_bulk, section_in, settled_to, stands_inside}
use Rattle.sa_package_model.specs.Rules.{load, owed}
use Rattle.sa_package_model.specs.Stands.{IsStanding}
use Rattle.sa_package_model.specs.declared.context.Context.{Context}
use Rattle.sa_package_model.specs.declared.context.ContextState.{ContextState}
use Rattle.sa_laws.specs.Demand.{OwesNothing}
use Rattle.sa_laws.specs.History.{after_event}
use Rattle.sa_laws.specs.Life.{Life}
use Rattle.sa_laws.specs.Readings.{Readings, demand_of, many_taken, usable, carried_by as runs_by}
use Rattle.sa_laws.specs.State.{runner_of}
use Rattle.sa_user_laws.specs.Steps.{event_with, IsLegalAnswer, IsLegalAsk, IsLegalStep, records_asked}
use Rattle.sa_fast_laws.proofs.relation.InsideMarks.{owed_by, settled-copy, settled-left, settled-looks}
use Rattle.sa_fast_laws.proofs.relation.Restated.{restated}
use Rattle.sa_fast_laws.proofs.relation.SettledMarks.{settled-yield}
use Rattle.sa_fast_laws.specs.FastFits.{Holds}
use Rattle.sa_fast_laws.specs.Stage.{is_gone}
use Rattle.sa_fast_laws.specs.View.{at_yield, in_copy, looks_of}
use Rattle.sa_fast_laws.proofs.lives.Answers.{life-carries}
use Rattle.sa_fast_laws.proofs.steps.Hints.{nothing}
use Rattle.sa_fast_laws.proofs.steps.GivingSteps.{outside_calm}
use Rattle.sa_ranks.specs.Inside.{is_inside_or_urged}
use Rattle.sa_ranks.specs.Pairs.{has_pair}
use Rattle.sa_ranks.specs.Rules.{prio_threads}
use Rattle.sa_prio_model.proofs.Contexts.{bases-put, marks-put}
use Rattle.sa_prio_model.proofs.Way.{settled_stands}
use Rattle.sa_prio_model.specs.Prio.{Prio, has_pair as prio_pair}
use Rattle.sa_prio_model.specs.Stands.{bases}
use Rattle.sa_prio_model.specs.Step.{prio_calls, answered}
use Rattle.sa_prio_model.specs.Urge.{is_out}
use Rattle.sa_prio_model.specs.declared.context.PrioContext.{PrioContext}
use Rattle.sa_prio_laws.specs.PrioFits.{prio_fits}
use Rattle.sa_prio_laws.proofs.frames.Frames.{base-is}
use Rattle.sa_prio_laws.proofs.steps.Scenes.{IsPrioScene, outranked-same, seen-pairs}
use Rattle.sa_prio_laws.proofs.steps.Unbound.{IsUnbound}

-- a context in this state, with nothing left to do and this mark
abbrev pub at_rest : ContextState → Bool → PrioContext
at_rest state urge = record { base = record { state = state; sections = []; work = None }; urge = urge }

-- WHAT IS LEGAL of a step does not hang on what the context was
module _ (w : WorkloadView) (set : Setting) (r : Readings) (p : ProcNo) (n : ℕ) (a : ActNo) (cs : Contexts PrioContext) where
  pub legal-put : (d : PrioContext) (st : Stepped Prio PrioContext) → IsLegalStep prio_calls prio_threads prio_fits w set r p n a (put cs a.0 (Some d)) st
      → IsLegalStep prio_calls prio_threads prio_fits w set r p n a cs st
  legal-put d st g = record { steps = g.steps; answer = by st.answer g.answer } where
    same : (x : PrioContext) → put (put cs a.0 (Some d)) a.0 (Some x) ≡ put cs a.0 (Some x)
    same x = put-put cs a.0 (Some d) (Some x)

    asks_too : IsLegalAsk prio_calls prio_threads prio_fits w set r p n a (put cs a.0 (Some d)) st
        → IsLegalAsk prio_calls prio_threads prio_fits w set r p n a cs st
    asks_too h = record {
      none = h.none;
      rules_hold = h.rules_hold;
      after =
          λ closing later closed same_too sees. subst
          (λ ds. prio_fits w set (after_event is_inside_or_urged w r (event_with n p (records_asked r set.space st.answer) closing)) st.user
          (put ds a.0 (Some (answered st.user later st.ctx).1))) (same st.ctx) (h.after closing later closed same_too sees);
    }

    by : (answer : Step) → IsLegalAnswer prio_calls prio_threads prio_fits w set r p n a (put cs a.0 (Some d)) st answer
        → IsLegalAnswer prio_calls prio_threads prio_fits w set r p n a cs st answer
    by asked.Did h =
        record {
          some = h.some;
          rules_hold = h.rules_hold;
          after = λ closing closed alike. subst (prio_fits w set _ st.user) (same st.ctx) (h.after closing closed alike);
        }
    by (asked.Block len page) h = record {
      begins = h.begins;
      for = h.for;
      needs = h.needs;
      rules_hold = h.rules_hold;
      after = λ io behind last spaces. subst (prio_fits w set _ st.user) (same st.ctx) (h.after io behind last spaces);
    }
    by (asked.More k) h = asks_too h
    by asked.Idle h = asks_too h
    by asked.GiveBack h = asks_too h
    by (asked.InterruptOwn q) h = (asks_too h.0, h.1)

module _ (set : Setting) (e : ℕ) (v : Prio) (cs : Contexts PrioContext) (w : WorkloadView) (r : Readings) (p : ProcNo) (a : ActNo) (life : Life)
    (old : ContextState) (mark : Bool) (t : Option ThreadNo) (seen : Seen)
    (i : IsPrioScene set e v cs w r p a life (record { base = record { state = old; sections = []; work = None }; urge = mark }) seen)
    (out : section_in old ≡ None) (no_copy : in_copy old ≡ false) (carries : carried_by old ≡ t) (yields : at_yield old ≡ false) where
  abbrev was : Context
  was = record { state = old; sections = []; work = None }

  abbrev state : ContextState
  state = settled_to t false (is_some (owed v.base seen)) (has_bulk seen)

  mine : bases cs a.0 ≡ Some was
  mine = base-is cs a.0 (at_rest old mark) i.on.mine

  -- no pair is seen where none is read
  pub pairs-before : prio_pair v seen ≡ has_pair w r set.space
  pairs-before = seen-pairs set e v cs w r p a life (at_rest old mark) seen i
      ∙ ap (λ (f : ℕ → Bool). is_some (least_below w.processors f))
      (fun_ext (λ q. ap is_some (outranked-same set e v cs w r p a life (at_rest old mark) seen i (proc_no q))))

  -- out of the package it owes nothing
  pub settled-owes : stands_inside (settled_to t false (is_some (owed v.base seen)) (has_bulk seen)) ≡ false → OwesNothing w r life
  settled-owes outside =
      let both = outside_calm t (owed v.base seen) (has_bulk seen) outside in
      let calm = both.0 in let few = both.1 in
      let none = nothing set e v.base (bases cs) i.stands.base set.space r i.holds a old mine life i.on.is
      (ap is_gone (i.holds.runs p a life i.on.runs i.on.is i.on.space).2) out no_copy w seen i.sees.demand in
      let processors = i.stands.base.made.processors ∙ i.of.processors in
      let runs : runs_by r life ≡ carried_by old = life-carries set.space r p life (carried_by old) i.on.proc i.runner in
      let enough : nat_lt seen.demand (min v.base.processors (load v.base)) ≡ false = sym (owed_by seen.demand v.base.processors (load v.base))
      ∙ ap is_some calm in
      record {
        nothing = none;
        announced =
            let less = ltb-false seen.demand (min v.base.processors (load v.base)) enough in
            let one : usable w r life.space ≡ min v.base.processors (load v.base) = ap (usable w r) i.on.space ∙ ap (min w.processors) i.holds.load
            ∙ ap (λ m. min m (load v.base)) (sym processors) in
            let two : demand_of r life.space ≡ seen.demand = ap (demand_of r) i.on.space ∙ sym i.sees.demand in
            omega arith;
        given =
            ap (λ o. is_some o || not (many_taken r life.space)) (runs ∙ carries)
            ∙ ap (λ b. is_some t || not b) (ap (many_taken r) i.on.space ∙ ap (nat_le _) (sym i.sees.taken)) ∙ by t few;
      } where
        by : (o : Option ThreadNo) → (is_none o ≡ true → has_bulk seen ≡ false) → (is_some o || not (has_bulk seen)) ≡ true
        by None less = ap not (less refl)
        by (Some x) less = refl

  pub settled-unbound : prio_pair v seen ≡ false → stands_inside (settled_to t false (is_some (owed v.base seen)) (has_bulk seen)) ≡ false → IsUnbound w r life
  settled-unbound none outside = inr (settled-owes outside, ap (has_pair w r) i.on.space ∙ sym pairs-before ∙ none)

  -- THE SCENE of it as it settled
  module _ (looks : looks_of old ≡ 0) (urge : Bool) (well : urge ≡ true → is_out (settled_to t false (is_some (owed v.base seen)) (has_bulk seen)) ≡ true) where
    abbrev new : PrioContext
    new = record { base = record { state = settled_to t false (is_some (owed v.base seen)) (has_bulk seen); sections = []; work = None }; urge = urge }

    pub settled-scene : IsPrioScene set e v (put cs a.0 (Some new)) w r p a life new seen
    settled-scene =
        let between = settled_between t false (is_some (owed v.base seen)) (has_bulk seen) in
        let bases-new = bases-put cs a.0 (Some new) in
        record {
          of = i.of;
          moment = i.moment;
          sizes = i.sizes;
          stands = record {
            base = subst (IsStanding set e v.base) (sym bases-new)
                (subst (λ o. IsStanding set e v.base
                (put (bases cs) a.0 (Some
                (record { state = settled_to o false (is_some (owed v.base seen)) (has_bulk seen); sections = []; work = None })))) carries
                (settled_stands set e v.base (bases cs) i.stands.base a.0 was mine out seen));
            marks = marks-put cs a.0 new i.stands.marks well;
            processors = i.stands.processors;
            threads = i.stands.threads;
          };
          holds = subst (Holds set.space r v.base) (sym bases-new)
              (restated set.space r v.base (bases cs) i.holds a old state [] None mine out no_copy between.section
              (settled-copy t false (is_some (owed v.base seen)) (has_bulk seen)) (between.carries ∙ sym carries));
          ranked = i.ranked;
          kept = λ y b d at there. elim (cases_eq b.0 a.0) [
            | inl same ↦
                i.kept y b (at_rest old mark) at (ap cs same ∙ i.on.mine) ∙ carries ∙ sym between.carries
                ∙ ap (λ (z : PrioContext). carried_by z.base.state) (same_Some new d (sym (put-at cs a.0 b.0 (Some new) same) ∙ there))
            | inr ne ↦ i.kept y b d at (sym (put-other cs a.0 b.0 (Some new) ne) ∙ there)
          ];
          others = λ x d l ne at is. i.others x d l ne (sym (put-other cs a.0 x.0 (Some new) ne) ∙ at) is;
          own = record {
            back = i.own.back ∙ yields ∙ sym (settled-yield t false (is_some (owed v.base seen)) (has_bulk seen));
            scans = i.own.scans ∙ looks ∙ sym (settled-looks t false (is_some (owed v.base seen)) (has_bulk seen));
            left = settled-left t false (is_some (owed v.base seen)) (has_bulk seen);
            lone = refl;
          };
          fresh = λ marked. settled-looks t false (is_some (owed v.base seen)) (has_bulk seen);
          on = record { runs = i.on.runs; is = i.on.is; space = i.on.space; proc = i.on.proc; owner = i.on.owner; mine = put-same cs a.0 (Some new) };
          runner = i.runner ∙ ap (runner_of set.space) (carries ∙ sym between.carries);
          sees = i.sees;
          low = i.low;
          given = λ x has. elim (cases_eq x.0 a.0) [
            | inl same ↦ absurd (none-some (at_rest old mark) (sym (i.given x has) ∙ ap cs same ∙ i.on.mine))
            | inr ne ↦ put-other cs a.0 x.0 (Some new) ne ∙ i.given x has
          ];
          later = i.later;
          within = i.within;
        }
