-- A step that asks for nothing: from what it does to FastThreads' part, and its rules, to the law of the composition.
use Rattle.std.proofs.Common.{◌≡◌, ◌≢◌, ℕ, ◌<◌, Bool, true, false, ◌||◌, ◌&&◌, List, [], ◌∷◌, ◌++◌, All, length, Option, Some, None, slice_index, slice_index_or, length-set, refl, sym, ap, ◌∙◌, subst, inl, inr, arith}
use Rattle.std.specs.Prelude.{if◌then◌else◌, min}
use Rattle.std.proofs.lemmas.Bool.{cases_eq, and_parts}
use Rattle.std.proofs.lemmas.List.{get_or-set_same, get_or-set_other}
use Rattle.std.proofs.lemmas.List.Folds.{list_any-append}
use Rattle.std.proofs.lemmas.Option.{same_Some}
use Rattle.std.specs.List.{list_any}
use Rattle.sa_base.specs.declared.context.Seen.{Seen}
use Rattle.sa_base.specs.declared.number.ActNo.{ActNo}
use Rattle.sa_base.specs.declared.number.ProcNo.{ProcNo}
use Rattle.sa_base.specs.declared.record.Record.{Record}
use Rattle.sa_base.specs.declared.record.Record.TheVariants as records
use Rattle.sa_instr.specs.declared.limits.TheConstants.{MAX_PATIENCE}
use Rattle.sa_lemmas.proofs.FunctionUpdates.{put-same, put-other}
use Rattle.sa_lemmas.specs.Function.{put}
use Rattle.sa_spaces.specs.Workload.{WorkloadView}
use Rattle.sa_lemmas.proofs.ListReads.{some-below}
use Rattle.sa_abstract.specs.Calls.{Contexts}
use Rattle.sa_abstract.specs.Keeps.{IsOwn}
use Rattle.sa_abstract.specs.Setting.{Setting}
use Rattle.sa_abstract.specs.declared.answer.Step.TheVariants.{Did}
use Rattle.sa_package_model.specs.Context.{carried_by, stands_inside}
use Rattle.sa_package_model.specs.Stands.{IsStanding}
use Rattle.sa_package_model.specs.declared.context.Context.{Context}
use Rattle.sa_package_model.specs.declared.package.Package.{Package}
use Rattle.sa_laws.specs.Event.{Event}
use Rattle.sa_laws.specs.History.{is_inside, is_up, behind, after_records, after_event, settles, stepped as ends}
use Rattle.sa_laws.specs.Life.{Life, new_life}
use Rattle.sa_laws.specs.Readings.{Readings, running_of, life_of, owner_of, line_of, ready_of, carried_by as runs_by, demand_of, taken_of}
use Rattle.sa_laws.specs.Shape.{own_part}
use Rattle.sa_laws.specs.State.{space_at}
use Rattle.sa_laws.specs.Step.{AreSteps}
use Rattle.sa_laws.specs.Turns.{IsClosing, AreRaising}
use Rattle.sa_user_laws.proofs.Runners.{all-elsewhere, runner-behind}
use Rattle.sa_user_laws.specs.Moments.{Alike, IsMoment}
use Rattle.sa_user_laws.specs.Scene.{event_begun_at}
use Rattle.sa_user_laws.specs.Steps.{event_with, IsLegalStep}
use Rattle.sa_fast_laws.proofs.relation.EventEnds.{begun-holds, closing-ups}
use Rattle.sa_fast_laws.proofs.relation.OneLife.{IsHeld, held-holds}
use Rattle.sa_fast_laws.proofs.relation.Runners.{alone-runs}
use Rattle.sa_fast_laws.proofs.relation.Stages.{stage-same}
use Rattle.sa_fast_laws.specs.FastFits.{Holds}
use Rattle.sa_fast_laws.specs.Life.{IsMarked}
use Rattle.sa_fast_laws.specs.Stage.{Runs, stage_of, stage_on, is_running}
use Rattle.sa_fast_laws.specs.View.{view, looks_of, is_lone}
use Rattle.sa_fast_laws.proofs.lives.Answers.{life-carries}
use Rattle.sa_fast_laws.proofs.lives.LifeEnds.{ended-fits}
use Rattle.sa_fast_laws.proofs.lives.Rests.{others-rest}
use Rattle.sa_fast_laws.proofs.lives.SameSpace.{alike-holds, alike-stage}
use Rattle.sa_fast_laws.specs.Rests.{LivesFit}
use Rattle.sa_ranks.specs.Inside.{is_inside_or_urged, has_entry, begins_entry, is_of_entry, settling}
use Rattle.sa_ranks.specs.Pairs.{has_pair}
use Rattle.sa_ranks.specs.Rules.{prio_threads}
use Rattle.sa_prio_model.proofs.Contexts.{bases-put}
use Rattle.sa_prio_model.specs.Prio.{Prio, on_at, with_base, with_on, has_pair as prio_pair}
use Rattle.sa_prio_model.specs.Stands.{bases}
use Rattle.sa_prio_model.specs.Step.{prio_calls}
use Rattle.sa_prio_model.specs.Urge.{marked, came_out}
use Rattle.sa_prio_model.specs.declared.context.PrioContext.{PrioContext}
use Rattle.sa_prio_laws.proofs.relation.Fresh.{fresh-when, settles-scans, came-outside}
use Rattle.sa_prio_laws.proofs.relation.Pairs.{IsNear, SeesLines, pairs-alike}
use Rattle.sa_prio_laws.specs.PrioFits.{is_fresh, prio_view, prio_fits, KeepsOn}
use Rattle.sa_prio_laws.specs.Ready.{FitsRanked}
use Rattle.sa_prio_laws.proofs.frames.Frames.{base-is}
use Rattle.sa_prio_laws.proofs.steps.Rules.{IsRuled, rules-of}
use Rattle.sa_prio_laws.proofs.steps.Scenes.{IsPrioScene}

-- a closing is no entry of the kernel
raising-entry : (xs : List Record) → AreRaising xs → list_any is_of_entry xs ≡ false
raising-entry [] h = refl
raising-entry (records.Aim p (Some s) ∷ xs) h = raising-entry xs h
raising-entry (records.Line p ∷ xs) h = raising-entry xs h
raising-entry (x ∷ xs) h = absurd h

pub closing-entry : (xs : List Record) → IsClosing xs → list_any is_of_entry xs ≡ false
closing-entry [] h = refl
closing-entry (records.Want s n ∷ xs) h = closing-entry xs h
closing-entry (records.Aim p (Some s) ∷ xs) h = raising-entry xs h
closing-entry (records.Line p ∷ xs) h = raising-entry xs h
closing-entry (x ∷ xs) h = absurd h

pub or-alike : (b x y : Bool) → (b ≡ false → x ≡ y) → (b || x) ≡ (b || y)
or-alike true x y same = refl
or-alike false x y same = same refl

-- what is known after the records and the closing
pub record IsBehind (set : Setting) (n : ℕ) (u : Package) (ds : Contexts Context) (a : ActNo) (new : Context) (now : Life) (seen : Seen)
    (q last : Readings) : Type 0 where
  pub stands : IsStanding set n u ds
  pub holds : Holds set.space last u ds
  pub mine : ds a.0 ≡ Some new
  pub there : life_of last a ≡ Some now
  pub carries : runs_by last now ≡ carried_by new.state
  pub demand : seen.demand ≡ demand_of last set.space
  pub taken : seen.taken ≡ length (taken_of last set.space)
  pub stage : stage_of last set.space a now ≡ Runs
  pub state : last.state ≡ q.state
  pub of : now.space ≡ set.space

module _ (set : Setting) (e : ℕ) (v : Prio) (cs : Contexts PrioContext) (w : WorkloadView) (r : Readings) (p : ProcNo) (a : ActNo) (life : Life)
    (c : PrioContext) (seen : Seen) (i : IsPrioScene set e v cs w r p a life c seen) where
  abbrev r0 : Readings
  r0 = event_begun_at w seen.event p r

  -- The step adds records x and xs and leaves FastThreads' package u and context new.
  pub record IsPrioTurn (x : Record) (xs : List Record) (u : Package) (new : Context) : Type 0 where
    pub stands : IsStanding set seen.event u (put (bases cs) a.0 (Some new))
    pub own : All (IsOwn set.space) (x ∷ xs)
    pub no_up : list_any is_up (x ∷ xs) ≡ false
    pub no_entry : has_entry (x ∷ xs) ≡ false
    pub needs : AreSteps w seen.event p (event_begun_at w seen.event p r) (x ∷ xs)
    pub ruled : IsRuled w r (event_begun_at w seen.event p r) p a life x xs
    pub held : IsHeld set.space (event_begun_at w seen.event p r) (after_records w seen.event p (event_begun_at w seen.event p r) (x ∷ xs)) v.base u a c.base new
    pub ranked : FitsRanked u (ready_of (after_records w seen.event p (event_begun_at w seen.event p r) (x ∷ xs)) set.space)
    pub demands : (after_records w seen.event p (event_begun_at w seen.event p r) (x ∷ xs)).demands ≡ r.demands
    pub taken : (after_records w seen.event p (event_begun_at w seen.event p r) (x ∷ xs)).taken ≡ r.taken
    pub lines : (after_records w seen.event p (event_begun_at w seen.event p r) (x ∷ xs)).lines ≡ (event_begun_at w seen.event p r).lines
    pub owners : (after_records w seen.event p (event_begun_at w seen.event p r) (x ∷ xs)).state.owners ≡ r.state.owners
    -- FastThreads' marks; and where it is out, the step settled its life exactly where it came to an instruction or a look
    pub marks : (ev : Event) (last : Readings)
        → IsBehind set seen.event u (put (bases cs) a.0 (Some new)) a new held.life seen
        (after_records w seen.event p (event_begun_at w seen.event p r) (x ∷ xs)) last
        → IsMarked (view new) (ends is_inside w r ev last x held.life)
    pub settled : (last : Readings) → last.state ≡ (after_records w seen.event p (event_begun_at w seen.event p r) (x ∷ xs)).state
        → stands_inside new.state ≡ false → settles r last x ≡ came_out c.base.state new.state

  module _ (x : Record) (xs : List Record) (u : Package) (new : Context) (t : IsPrioTurn x xs u new) where
    abbrev q : Readings
    q = after_records w seen.event p (event_begun_at w seen.event p r) (x ∷ xs)

    abbrev ds : Contexts Context
    ds = put (bases cs) a.0 (Some new)

    -- the value and the context after it
    abbrev pub after_value : Prio
    after_value = with_on (with_base v u) seen.proc (carried_by new.state)

    abbrev pub after_context : PrioContext
    after_context = marked (with_on (with_base v u) seen.proc (carried_by new.state)) seen (came_out c.base.state new.state) new

    abbrev es : Contexts PrioContext
    es = put cs a.0 (Some after_context)

    bases-es : bases es ≡ ds
    bases-es = bases-put cs a.0 (Some after_context)

    moment0 : IsMoment r0
    moment0 = record { lives = i.moment.lives; apart = i.moment.apart; owned = i.moment.owned; alone = i.moment.alone }

    turn-holds : Holds set.space q u ds
    turn-holds = held-holds set e v.base (bases cs) i.stands.base set.space r0
        (begun-holds set.space r v.base (bases cs) w (record { number = seen.event; proc = p; records = [] }) i.holds) a c.base
        (base-is cs a.0 c i.on.mine) q u new t.held

    run-same : (y : ProcNo) → running_of q y ≡ running_of r y
    run-same y = ap (λ ps. slice_index_or ps y.0 None) t.held.running

    -- on each processor is the thread that its life's context carries
    keeps : KeepsOn q after_value es
    keeps y b d at mine = elim (cases_eq b.0 a.0) [
      | inl same ↦
          let act : b ≡ a = ap (λ n. record { 0 = n }) same in
          let here : y ≡ p = i.moment.apart y p a (sym (run-same y) ∙ at ∙ ap Some act) i.on.runs in
          let ctx : after_context ≡ d = same_Some after_context d (sym (put-same cs a.0 (Some after_context)) ∙ sym (ap es same) ∙ mine) in
          ap (λ (z : ProcNo). on_at (with_on v z (carried_by new.state)) y.0) i.sees.proc
          ∙ ap (λ (z : ProcNo). on_at (with_on v p (carried_by new.state)) z.0) here
          ∙ get_or-set_same v.on p.0 (carried_by new.state) None inside ∙ ap (λ (z : PrioContext). carried_by z.base.state) ctx
      | inr ne ↦
          let there : y.0 ≢ p.0 = λ same. ne (ap (λ (z : ActNo). z.0)
          (same_Some b a (sym at ∙ run-same y ∙ ap (λ n. running_of r (record { 0 = n })) same ∙ i.on.runs))) in
          ap (λ (z : ProcNo). on_at (with_on v z (carried_by new.state)) y.0) i.sees.proc
          ∙ get_or-set_other v.on p.0 y.0 (carried_by new.state) None there
          ∙ i.kept y b d (sym (run-same y) ∙ at) (sym (put-other cs a.0 b.0 (Some after_context) ne) ∙ mine)
    ] where
      inside : p.0 < length v.on
      inside = let many = i.stands.processors in let of = i.of.processors in let size = i.sizes.running in
          let below = some-below r.running p.0 a i.on.runs in omega arith

    now-of : (b : ActNo) (l : Life) → life_of r b ≡ Some l → (now : Life) × (life_of q b ≡ Some now) × (now.space ≡ l.space)
    now-of b l is = elim (cases_eq b.0 a.0) [
      | inl same ↦
          let one : l ≡ t.held.was = same_Some l t.held.was (sym is ∙ ap r.lives same ∙ t.held.old) in (
            t.held.life,
            ap q.lives same ∙ ap (λ (f : ℕ → Option Life). f a.0) t.held.lives ∙ put-same r.lives a.0 (Some t.held.life),
            t.held.stays.0 ∙ ap (λ (z : Life). z.space) (sym one),
          )
      | inr ne ↦ (l, ap (λ (f : ℕ → Option Life). f b.0) t.held.lives ∙ put-other r.lives a.0 b.0 (Some t.held.life) ne ∙ is, refl)
    ]

    near : IsNear set.space (bases es) r0 q
    near = record {
      running = t.held.running;
      owners = t.owners;
      elsewhere = λ z ne. all-elsewhere w seen.event p r0 set.space z (x ∷ xs) t.own ne;
      lives = λ b d l mine is. now-of b l is;
    }

    -- the lines that it saw are low still
    lines-seen : SeesLines set.space q seen
    lines-seen = record {
      low = λ y. (
        (λ bit. let both = (i.sees.low y).0 bit in (same-owner y ∙ both.0, same-line y ∙ both.1)),
        λ both. (i.sees.low y).1 (sym (same-owner y) ∙ both.0, sym (same-line y) ∙ both.1),
      );
      lives = λ y owner.
          let l = i.sees.lives y (sym (same-owner y) ∙ owner) in
          let now = now-of l.act l.life l.is in
          record { act = l.act; life = now.0; runs = run-same y ∙ l.runs; is = now.1; space = now.2 ∙ l.space };
    } where
      same-owner : (y : ProcNo) → owner_of q y ≡ owner_of r0 y
      same-owner y = ap (λ os. slice_index_or os y.0 None) t.owners

      same-line : (y : ProcNo) → line_of q y ≡ line_of r0 y
      same-line y = ap (λ ls. slice_index_or ls y.0 None) t.lines

    -- the pairs that it sees are those after its records
    pairs : prio_pair after_value seen ≡ has_pair w q set.space
    pairs = pairs-alike set seen.event after_value es (subst (IsStanding set seen.event u) (sym bases-es) t.stands) r0 moment0 q near seen lines-seen
        (subst (Holds set.space q u) (sym bases-es) turn-holds) (ready_of q set.space) t.ranked keeps w
        (ap length t.held.running ∙ i.sizes.running) (length-set v.on seen.proc.0 (carried_by new.state) ∙ i.stands.processors ∙ i.of.processors)

    turn-behind : (last : Readings) → Alike q last → IsBehind set seen.event u ds a new t.held.life seen q last
    turn-behind last same =
        let holds = alike-holds set.space q last same.kernel u ds turn-holds in
        let mine : ds a.0 ≡ Some new = put-same (bases cs) a.0 (Some new) in
        let there : life_of last a ≡ Some t.held.life = ap (λ (f : ℕ → Option Life). f a.0) (same.kernel.lives ∙ t.held.lives)
        ∙ put-same r.lives a.0 (Some t.held.life) in
        let runs : running_of last p ≡ Some a = ap (λ ps. slice_index_or ps p.0 None) (same.kernel.running ∙ t.held.running) ∙ i.on.runs in
        let was : life ≡ t.held.was = same_Some life t.held.was (sym i.on.is ∙ t.held.old) in
        let of : t.held.life.space ≡ set.space = t.held.stays.0 ∙ sym (ap (λ (l : Life). l.space) was) ∙ i.on.space in
        let run = holds.runs p a t.held.life runs there of in
        record {
          stands = t.stands;
          holds = holds;
          mine = mine;
          there = there;
          carries = life-carries set.space last p t.held.life (carried_by new.state) run.1
              (runner-behind set.space r last p (carried_by new.state) i.moment i.on.owner
              (λ z ne. ap (λ y. space_at y z) same.kernel.state ∙ all-elsewhere w seen.event p r0 set.space z (x ∷ xs) t.own ne)
              (alone-runs set seen.event u ds t.stands set.space last holds p a new t.held.life mine there of runs));
          demand = i.sees.demand ∙ sym (ap (λ ns. slice_index ns set.space.0) (same.demands ∙ t.demands));
          taken = i.sees.taken ∙ sym (ap (λ ns. length (slice_index_or ns set.space.0 [])) (same.kernel.taken ∙ t.taken));
          stage = run.2;
          state = same.kernel.state;
          of = of;
        }

    pub turn-legal : IsLegalStep prio_calls prio_threads prio_fits w set r p seen.event a cs
        (record { user = after_value; ctx = after_context; says = x ∷ xs; answer = Did })
    turn-legal = record {
      steps = t.needs;
      answer = record {
        some = λ none. cc;
        rules_hold = λ closing closed.
            rules-of w r (event_with seen.event p (x ∷ xs) closing) a life x xs (xs ++ closing) i.on.runs i.on.is refl closed.is_own t.ruled;
        after = λ closing closed same.
            let ev = event_with seen.event p (x ∷ xs) closing in
            let last = after_records w seen.event p r0 ((x ∷ xs) ++ closing) in
            let b = turn-behind last same in
            let mark = t.marks ev last b in
            let l = t.held.life in
            let ended = after_event is_inside_or_urged w r ev in
            let flag = settles r last x in
            let entry : has_entry ev.records ≡ false =
            ap (λ z. begins_entry x || z)
            (list_any-append is_of_entry (x ∷ xs) closing ∙ ap (λ z. list_any is_of_entry (x ∷ xs) || z) (closing-entry closing closed.closes))
            ∙ or-none (begins_entry x) (list_any is_of_entry (x ∷ xs)) t.no_entry in
            let at_q : settling w r ev last ≡ q =
            ap (λ z. if z then last else behind w ev r (own_part ev.records)) entry ∙ ap (behind w ev r) closed.is_own in
            let inside : is_inside_or_urged w r ev last flag l ≡ (stands_inside new.state || (came_out c.base.state new.state && prio_pair after_value seen)) =
            ap (λ z. z || (flag && has_pair w (settling w r ev last) l.space)) mark.inside
            ∙ or-alike (stands_inside new.state) (flag && has_pair w (settling w r ev last) l.space)
            (came_out c.base.state new.state && prio_pair after_value seen)
            (λ out. ap (λ z. z && has_pair w (settling w r ev last) l.space) (t.settled last b.state out)
            ∙ ap (λ z. came_out c.base.state new.state && z) (ap (λ y. has_pair w y l.space) at_q ∙ ap (has_pair w q) b.of ∙ sym pairs)) in
            let came = came_out c.base.state new.state in
            let looks : came ≡ true → looks_of new.state ≡ 0 =
            (λ is. sym mark.scans
            ∙ ap (λ k. min k MAX_PATIENCE) (settles-scans r last x l.scans (t.settled last b.state (came-outside c.base.state new.state is) ∙ is))) in
            let fresh : is_fresh (came && prio_pair after_value seen) (looks_of new.state) ≡ true =
            fresh-when (came && prio_pair after_value seen) (looks_of new.state) (λ is. looks (and_parts came (prio_pair after_value seen) is).0) in
            let others = others-rest prio_view set.space r last a cs es (λ y ne. put-other cs a.0 y.0 (Some after_context) ne)
            (λ y ne. ap (λ (f : ℕ → Option Life). f y.0) (same.kernel.lives ∙ t.held.lives) ∙ put-other r.lives a.0 y.0 (Some t.held.life) ne)
            (λ y z ne. alike-stage set.space q last same.kernel y z ∙ stage-kept y z) i.others in
            record {
              lives = subst (λ bs. LivesFit prio_view set.space ended u bs es) (sym bases-es)
                  (ended-fits a w r ev i.on.runs last l b.there x (xs ++ closing) refl t.ruled.step
                  (list_any-append is_up (x ∷ xs) closing ∙ ap (λ z. list_any is_up (x ∷ xs) || z) (closing-ups closing closed.closes)
                  ∙ ap (λ z. z || false) t.no_up)
                  is_inside_or_urged prio_view set.space u ds es new after_context b.holds b.mine (put-same cs a.0 (Some after_context)) others
                  (record {
                    marks =
                        record {
                          inside = inside;
                          back = mark.back;
                          scans = mark.scans;
                          left = mark.left;
                          lone = ap (λ z. z && is_lone new.state new.sections) fresh ∙ mark.lone;
                        };
                    idle = λ no. absurd (let yes : is_running (stage_of last set.space a l) ≡ true = ap is_running b.stage in cc);
                  }));
              ranked = subst (FitsRanked u) (sym (ap (λ ls. slice_index_or ls set.space.0 []) same.kernel.ready)) t.ranked;
              on = λ y z d at mine. keeps y z d (sym (ap (λ ps. slice_index_or ps y.0 None) same.kernel.running) ∙ at) mine;
            };
      };
    } where
      or-none : (b z : Bool) → (b || z) ≡ false → (b || (z || false)) ≡ false
      or-none true z none = none
      or-none false true none = none
      or-none false false none = refl

      stage-kept : (y : ActNo) (z : ProcNo) → stage_on q set.space y z ≡ stage_on r set.space y z
      stage-kept y z = stage-same set.space r q t.held.untold t.held.running y (new_life set.space z)
