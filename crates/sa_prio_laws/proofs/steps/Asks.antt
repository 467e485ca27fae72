-- A step that asks for a hint, for the return of activations, or for a line: from what it does to FastThreads' part, and its
-- rules, to the law of the composition.
use Rattle.std.proofs.Common.{◌≡◌, ◌≢◌, ℕ, Bool, true, false, ◌||◌, ◌&&◌, List, [], ◌∷◌, ◌++◌, length, Option, Some, None, slice_index_or, refl, sym, ap, ◌∙◌, subst, inl, inr}
use Rattle.std.specs.Prelude.{if◌then◌else◌, min}
use Rattle.std.proofs.lemmas.Bool.{cases_eq}
use Rattle.std.proofs.lemmas.List.Folds.{list_any-append}
use Rattle.std.proofs.lemmas.Option.{same_Some}
use Rattle.std.specs.List.{list_any}
use Rattle.sa_base.specs.declared.context.Seen.{Seen}
use Rattle.sa_base.specs.declared.number.ActNo.{ActNo}
use Rattle.sa_base.specs.declared.number.ProcNo.{ProcNo}
use Rattle.sa_base.specs.declared.number.SpaceNo.{SpaceNo}
use Rattle.sa_base.specs.declared.record.Record.{Record}
use Rattle.sa_instr.specs.declared.limits.TheConstants.{MAX_PATIENCE}
use Rattle.sa_lemmas.proofs.FunctionUpdates.{put-same, put-other, put-put}
use Rattle.sa_lemmas.specs.Function.{put}
use Rattle.sa_spaces.specs.Workload.{WorkloadView}
use Rattle.sa_abstract.specs.Calls.{Contexts}
use Rattle.sa_abstract.specs.Setting.{Setting}
use Rattle.sa_abstract.specs.declared.answer.Step.{Step}
use Rattle.sa_package_model.specs.Context.{carried_by, stands_inside}
use Rattle.sa_package_model.specs.Stands.{IsStanding}
use Rattle.sa_package_model.specs.declared.context.Context.{Context}
use Rattle.sa_laws.specs.Event.{Event}
use Rattle.sa_laws.specs.History.{is_inside, is_up, behind, after_records, after_event, settles, stepped as ends}
use Rattle.sa_laws.specs.Life.{Life}
use Rattle.sa_laws.specs.Readings.{Readings, running_of, life_of, ready_of}
use Rattle.sa_laws.specs.Shape.{own_part}
use Rattle.sa_laws.specs.State.{State, space_at}
use Rattle.sa_user_laws.proofs.Runners.{runner-behind}
use Rattle.sa_user_laws.specs.Moments.{AlikeButDemands, Sees}
use Rattle.sa_user_laws.specs.Scene.{event_begun_at}
use Rattle.sa_user_laws.specs.Steps.{event_with, IsClosed, IsLegalAsk, RulesHold, records_asked}
use Rattle.sa_fast_laws.proofs.relation.EventEnds.{closing-ups}
use Rattle.sa_fast_laws.proofs.relation.Runners.{alone-runs}
use Rattle.sa_fast_laws.proofs.relation.Stages.{stage-same}
use Rattle.sa_fast_laws.specs.FastFits.{Holds}
use Rattle.sa_fast_laws.specs.Life.{IsAtRest, IsMarked}
use Rattle.sa_fast_laws.specs.Stage.{stage_of, is_running}
use Rattle.sa_fast_laws.specs.View.{view, looks_of, is_lone}
use Rattle.sa_fast_laws.proofs.lives.Answers.{life-carries}
use Rattle.sa_fast_laws.proofs.lives.LifeEnds.{ended-fits}
use Rattle.sa_fast_laws.proofs.lives.SameSpace.{alike-holds}
use Rattle.sa_fast_laws.specs.Rests.{LivesFit, RestBut}
use Rattle.sa_ranks.specs.Inside.{is_inside_or_urged, has_entry, begins_entry, is_of_entry, settling}
use Rattle.sa_ranks.specs.Pairs.{has_pair}
use Rattle.sa_ranks.specs.Rules.{prio_threads}
use Rattle.sa_prio_model.proofs.Contexts.{bases-put}
use Rattle.sa_prio_model.specs.Prio.{Prio, on_at, has_pair as prio_pair}
use Rattle.sa_prio_model.specs.Stands.{bases}
use Rattle.sa_prio_model.specs.Step.{prio_calls, answered}
use Rattle.sa_prio_model.specs.declared.context.PrioContext.{PrioContext}
use Rattle.sa_prio_laws.proofs.relation.Fresh.{fresh-when, settles-scans, inside-looks, mark-settles}
use Rattle.sa_prio_laws.proofs.relation.Pairs.{pairs-alike, sees-lines}
use Rattle.sa_prio_laws.specs.PrioFits.{is_fresh, prio_view, prio_fits, KeepsOn}
use Rattle.sa_prio_laws.specs.Ready.{FitsRanked}
use Rattle.sa_prio_laws.proofs.frames.Frames.{prio-based}
use Rattle.sa_prio_laws.proofs.steps.Rules.{IsRuled, rules-of}
use Rattle.sa_prio_laws.proofs.steps.Scenes.{IsPrioScene}
use Rattle.sa_prio_laws.proofs.steps.Turns.{IsBehind}

module _ (set : Setting) (e : ℕ) (v : Prio) (cs : Contexts PrioContext) (w : WorkloadView) (r : Readings) (p : ProcNo) (a : ActNo) (life : Life)
    (c : PrioContext) (seen : Seen) (i : IsPrioScene set e v cs w r p a life c seen)
    -- the value and the context that ask, and the records that the kernel writes then
    (now : Prio) (asking : PrioContext) (answer : Step) (x : Record) (xs : List Record) where
  -- the context as it goes on, with what is seen then
  abbrev pub going_on : Seen → PrioContext
  going_on later = (answered now later asking).1

  pub record IsPrioAsking : Type 0 where
    pub records : records_asked r set.space answer ≡ x ∷ xs
    pub base : now.base ≡ v.base
    pub many : length now.on ≡ length v.on
    pub no_up : list_any is_up (x ∷ xs) ≡ false
    pub entry : has_entry (x ∷ xs) ≡ true
    pub ruled : IsRuled w r (event_begun_at w seen.event p r) p a life x xs
    -- after them its own life is what it was, and so are those of other contexts
    pub running : (after_records w seen.event p (event_begun_at w seen.event p r) (x ∷ xs)).running ≡ r.running
    pub ready : (after_records w seen.event p (event_begun_at w seen.event p r) (x ∷ xs)).ready ≡ r.ready
    pub untold : (after_records w seen.event p (event_begun_at w seen.event p r) (x ∷ xs)).untold ≡ r.untold
    pub state : (after_records w seen.event p (event_begun_at w seen.event p r) (x ∷ xs)).state ≡ r.state
    pub lives : (b : ActNo) (d : PrioContext) → cs b.0 ≡ Some d
        → life_of (after_records w seen.event p (event_begun_at w seen.event p r) (x ∷ xs)) b ≡ life_of r b
    -- the context keeps its thread, and the package what it is on its processor
    pub carries : (later : Seen) → carried_by (going_on later).base.state ≡ carried_by c.base.state
    pub on : (y : ProcNo) → y.0 ≢ p.0 → on_at now y.0 ≡ on_at v y.0
    pub on_here : on_at now p.0 ≡ carried_by c.base.state
    pub stands : (later : Seen) → IsStanding set e v.base (put (bases cs) a.0 (Some (going_on later).base))
    pub holds : (later : Seen)
        → Holds set.space (after_records w seen.event p (event_begun_at w seen.event p r) (x ∷ xs)) v.base (put (bases cs) a.0 (Some (going_on later).base))
    -- FastThreads' marks; and where it is out, the mark is set exactly where a pair is seen by a life that settled
    pub marks : (ev : Event) (last : Readings) (later : Seen)
        → IsBehind set e v.base (put (bases cs) a.0 (Some (going_on later).base)) a (going_on later).base life later
        (after_records w seen.event p (event_begun_at w seen.event p r) (x ∷ xs)) last
        → IsMarked (view (going_on later).base) (ends is_inside w r ev last x life)
    pub urged : (last : Readings) (later : Seen)
        → (stands_inside (going_on later).base.state || (settles r last x && prio_pair now later)) ≡ (stands_inside (going_on later).base.state ||
        (going_on later).urge)

  module _ (t : IsPrioAsking) where
    abbrev q : Readings
    q = after_records w seen.event p (event_begun_at w seen.event p r) (x ∷ xs)

    keeps : (last : Readings) → last.running ≡ r.running → (later : Seen) → KeepsOn last now (put cs a.0 (Some (going_on later)))
    keeps last running later y b d at mine =
        let at_r : running_of r y ≡ Some b = sym (ap (λ ps. slice_index_or ps y.0 None) running) ∙ at in elim (cases_eq b.0 a.0) [
          | inl same ↦
              let act : b ≡ a = ap (λ n. record { 0 = n }) same in
              let here : y ≡ p = i.moment.apart y p a (at_r ∙ ap Some act) i.on.runs in
              let ctx : going_on later ≡ d = same_Some (going_on later) d
              (sym (put-same cs a.0 (Some (going_on later))) ∙ sym (ap (put cs a.0 (Some (going_on later))) same) ∙ mine) in
              ap (λ (z : ProcNo). on_at now z.0) here ∙ t.on_here ∙ sym (t.carries later) ∙ ap (λ (z : PrioContext). carried_by z.base.state) ctx
          | inr ne ↦
              let there : y.0 ≢ p.0 = λ same. ne (ap (λ (z : ActNo). z.0)
              (same_Some b a (sym at_r ∙ ap (λ n. running_of r (record { 0 = n })) same ∙ i.on.runs))) in
              t.on y there ∙ i.kept y b d at_r (sym (put-other cs a.0 b.0 (Some (going_on later)) ne) ∙ mine)
        ]

    -- a life with a context is what it was
    live-same : (new : PrioContext) (b : ActNo) (d : Context) → bases (put cs a.0 (Some new)) b.0 ≡ Some d → life_of q b ≡ life_of r b
    live-same new b d at = elim (cases_eq b.0 a.0) [
      | inl same ↦ ap q.lives same ∙ t.lives a c i.on.mine ∙ sym (ap r.lives same)
      | inr ne ↦ (let z = (prio-based (put cs a.0 (Some new))).up b.0 d at in t.lives b z.0 (sym (put-other cs a.0 b.0 (Some new) ne) ∙ z.1))
    ]

    others : (last : Readings) (new : PrioContext) → last.running ≡ r.running → last.untold ≡ r.untold → last.lives ≡ q.lives
        → RestBut prio_view set.space last a (put cs a.0 (Some new))
    others last new running untold lives y d l ne at is =
        let mine : cs y.0 ≡ Some d = sym (put-other cs a.0 y.0 (Some new) ne) ∙ at in
        subst (λ g. IsAtRest g (prio_view d) l)
        (sym (stage-same set.space r last (ap (λ ls. slice_index_or ls set.space.0 []) untold) running y l))
        (i.others y d l ne mine (sym (t.lives y d mine) ∙ sym (ap (λ (f : ℕ → Option Life). f y.0) lives) ∙ is))

    or-more : (b z y : Bool) → (b || z) ≡ true → (b || (z || y)) ≡ true
    or-more false false y none = absurd cc
    or-more _ _ y some = refl

    pub ask-legal : IsLegalAsk prio_calls prio_threads prio_fits w set r p seen.event a cs (record { user = now; ctx = asking; says = []; answer = answer })
    ask-legal = record {
      none = refl;
      rules_hold =
          subst (λ own. (closing : List Record) → IsClosed own closing → RulesHold prio_threads w r (event_with seen.event p own closing) own) (sym t.records)
          (λ closing closed. rules-of w r (event_with seen.event p (x ∷ xs) closing) a life x xs (xs ++ closing) i.on.runs i.on.is refl closed.is_own t.ruled);
      after = subst (λ own. (closing : List Record) (later : Seen) → IsClosed own closing
          → AlikeButDemands (after_records w seen.event p (event_begun_at w seen.event p r) own)
          (after_records w seen.event p (event_begun_at w seen.event p r) (own ++ closing))
          → Sees set.space (after_records w seen.event p (event_begun_at w seen.event p r) (own ++ closing)) p seen.event later
          → prio_fits w set (after_event is_inside_or_urged w r (event_with seen.event p own closing)) now
          (put (put cs a.0 (Some asking)) a.0 (Some (going_on later))))
          (sym t.records) (λ closing later closed same sees.
          let ev = event_with seen.event p (x ∷ xs) closing in
          let last = after_records w seen.event p (event_begun_at w seen.event p r) ((x ∷ xs) ++ closing) in
          let new = going_on later in
          let ds = put (bases cs) a.0 (Some new.base) in
          let es = put cs a.0 (Some new) in
          let bases-es : bases es ≡ ds = bases-put cs a.0 (Some new) in
          let holds = alike-holds set.space q last same v.base ds (t.holds later) in
          let mine : ds a.0 ≡ Some new.base = put-same (bases cs) a.0 (Some new.base) in
          let there : life_of last a ≡ Some life = ap (λ (f : ℕ → Option Life). f a.0) same.lives ∙ t.lives a c i.on.mine ∙ i.on.is in
          let running = same.running ∙ t.running in
          let runs : running_of last p ≡ Some a = ap (λ ps. slice_index_or ps p.0 None) running ∙ i.on.runs in
          let run = holds.runs p a life runs there i.on.space in
          let state = same.state ∙ t.state in
          let elsewhere : (z : SpaceNo) → z.0 ≢ set.space.0 → space_at last.state z ≡ space_at r.state z = λ z ne. ap (λ y. space_at y z) state in
          let mark = t.marks ev last later (record {
            stands = t.stands later;
            holds = holds;
            mine = mine;
            there = there;
            carries = life-carries set.space last p life (carried_by new.base.state) run.1
                (runner-behind set.space r last p (carried_by new.base.state) i.moment i.on.owner elsewhere
                (alone-runs set e v.base ds (t.stands later) set.space last holds p a new.base life mine there i.on.space runs));
            demand = sees.demand;
            taken = sees.taken;
            stage = run.2;
            state = same.state;
            of = i.on.space;
          }) in
          let ranked : FitsRanked v.base (ready_of last set.space) =
          subst (FitsRanked v.base) (sym (ap (λ ls. slice_index_or ls set.space.0 []) (same.ready ∙ t.ready))) i.ranked in
          let kept = keeps last running later in
          let pairs : prio_pair now later ≡ has_pair w last set.space =
          pairs-alike set e now es
          (subst (λ bs. IsStanding set e now.base bs) (sym bases-es) (subst (λ u. IsStanding set e u ds) (sym t.base) (t.stands later)))
          r i.moment last (record {
            running = running;
            owners = ap (λ (y : State). y.owners) state;
            elsewhere = elsewhere;
            lives = λ b d l at is. (l, ap (λ (f : ℕ → Option Life). f b.0) same.lives ∙ live-same new b d at ∙ is, refl);
          }) later (sees-lines set.space last p seen.event later sees)
          (subst (λ bs. Holds set.space last now.base bs) (sym bases-es) (subst (λ u. Holds set.space last u ds) (sym t.base) holds))
          (ready_of last set.space) (subst (λ u. FitsRanked u (ready_of last set.space)) (sym t.base) ranked) kept w
          (ap length running ∙ i.sizes.running) (t.many ∙ i.stands.processors ∙ i.of.processors) in
          let flag = settles r last x in
          let entry : has_entry ev.records ≡ true = ap (λ z. begins_entry x || z) (list_any-append is_of_entry (x ∷ xs) closing)
          ∙ or-more (begins_entry x) (list_any is_of_entry (x ∷ xs)) (list_any is_of_entry closing) t.entry in
          let inside : is_inside_or_urged w r ev last flag life ≡ (stands_inside new.base.state || new.urge) =
          ap (λ z. z || (flag && has_pair w (settling w r ev last) life.space)) mark.inside
          ∙ ap (λ y. stands_inside new.base.state || (flag && has_pair w y life.space))
          (ap (λ z. if z then last else behind w ev r (own_part ev.records)) entry)
          ∙ ap (λ z. stands_inside new.base.state || (flag && z)) (ap (has_pair w last) i.on.space ∙ sym pairs)
          ∙ t.urged last later in
          let fresh : is_fresh new.urge (looks_of new.base.state) ≡ true = fresh-when new.urge (looks_of new.base.state) (λ is.
          elim (mark-settles (stands_inside new.base.state) flag (prio_pair now later) new.urge (t.urged last later) is) [
            | inl in_package ↦ inside-looks new.base.state in_package
            | inr settled ↦ sym mark.scans ∙ ap (λ k. min k MAX_PATIENCE) (settles-scans r last x life.scans settled)
          ]) in
          subst (prio_fits w set (after_event is_inside_or_urged w r ev) now) (sym (put-put cs a.0 (Some asking) (Some new))) (record {
            lives = subst (λ u. LivesFit prio_view set.space (after_event is_inside_or_urged w r ev) u (bases es) es) (sym t.base)
                (subst (λ bs. LivesFit prio_view set.space (after_event is_inside_or_urged w r ev) v.base bs es) (sym bases-es)
                (ended-fits a w r ev i.on.runs last life there x (xs ++ closing) refl t.ruled.step
                (list_any-append is_up (x ∷ xs) closing ∙ ap (λ z. list_any is_up (x ∷ xs) || z) (closing-ups closing closed.closes)
                ∙ ap (λ z. z || false) t.no_up)
                is_inside_or_urged prio_view set.space v.base ds es new.base new holds mine (put-same cs a.0 (Some new))
                (others last new (same.running ∙ t.running) (same.untold ∙ t.untold) same.lives)
                (record {
                  marks =
                      record {
                        inside = inside;
                        back = mark.back;
                        scans = mark.scans;
                        left = mark.left;
                        lone = ap (λ z. z && is_lone new.base.state new.base.sections) fresh ∙ mark.lone;
                      };
                  idle = λ no. absurd (let yes : is_running (stage_of last set.space a life) ≡ true = ap is_running run.2 in cc);
                })));
            ranked = subst (λ u. FitsRanked u (ready_of last set.space)) (sym t.base) ranked;
            on = kept;
          }));
    }
