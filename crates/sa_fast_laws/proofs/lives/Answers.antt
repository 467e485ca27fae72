-- An upcall ends: its context settles, and its life is in where that shows so.
use Rattle.std.proofs.Common.{◌≡◌, ℕ, ◌+◌, Bool, true, false, ◌||◌, ◌&&◌, List, Option, Some, None, is_some, is_none, option_map, refl, sym, ap, ◌∙◌, subst}
use Rattle.std.specs.Prelude.{nat_lt, min}
use Rattle.std.proofs.lemmas.Option.{same_Some}
use Rattle.std.proofs.lemmas.Bool.{and_right}
use Rattle.sa_base.specs.declared.context.Seen.{Seen}
use Rattle.sa_base.specs.declared.number.ActNo.{ActNo}
use Rattle.sa_base.specs.declared.number.ProcNo.{ProcNo}
use Rattle.sa_base.specs.declared.number.SpaceNo.{SpaceNo}
use Rattle.sa_base.specs.declared.number.ThreadNo.{ThreadNo}
use Rattle.sa_lemmas.proofs.FunctionUpdates.{put-same, put-other}
use Rattle.sa_lemmas.specs.Function.{put}
use Rattle.sa_instr.specs.declared.limits.TheConstants.{MAX_PATIENCE}
use Rattle.sa_spaces.specs.Workload.{WorkloadView}
use Rattle.sa_code.specs.declared.state.Frame.{Frame}
use Rattle.sa_abstract.specs.Calls.{Contexts}
use Rattle.sa_abstract.specs.Setting.{Setting}
use Rattle.sa_package_model.proofs.BeginRule.{answers}
use Rattle.sa_package_model.proofs.Views.{settled_between}
use Rattle.sa_package_model.specs.Context.{has_some, settled_to, has_bulk, stands_inside, carried_by}
use Rattle.sa_package_model.specs.Rules.{owed}
use Rattle.sa_package_model.specs.Stands.{IsStanding}
use Rattle.sa_package_model.specs.declared.context.Context.{Context}
use Rattle.sa_package_model.specs.declared.context.ContextState.{ContextState}
use Rattle.sa_package_model.specs.declared.context.ContextState.TheVariants.{Work}
use Rattle.sa_package_model.specs.declared.package.Package.{Package}
use Rattle.sa_laws.specs.Event.{Event}
use Rattle.sa_laws.specs.History.{is_inside}
use Rattle.sa_laws.specs.Life.{Life, some_lock}
use Rattle.sa_laws.specs.Readings.{Readings, running_of, life_of, has_hand, demand_of, many_taken, carried_by as runs_by, stopped_thread, load_of, owner_of, untold_of}
use Rattle.sa_laws.specs.State.{Runner, active_threads, space_at, runner_on, runner_of}
use Rattle.sa_user_laws.proofs.Runners.{runner-behind}
use Rattle.sa_user_laws.specs.Moments.{AlikeButEnds, IsMoment, Sees, unended}
use Rattle.sa_user_laws.specs.Scene.{IsOfSpace}
use Rattle.sa_fast_laws.proofs.relation.InsideMarks.{settled-copy, settled-left, settled-looks, settled-inside}
use Rattle.sa_fast_laws.proofs.relation.NoteLists.{notes-same}
use Rattle.sa_fast_laws.proofs.relation.Restated.{restated}
use Rattle.sa_fast_laws.proofs.relation.Runners.{alone-runs}
use Rattle.sa_fast_laws.proofs.relation.SettledMarks.{settled-yield, settled-lone}
use Rattle.sa_fast_laws.specs.FastFits.{Holds}
use Rattle.sa_fast_laws.specs.Life.{IsAtRest}
use Rattle.sa_fast_laws.specs.Stage.{is_running, stage_of, is_gone, Runs}
use Rattle.sa_fast_laws.specs.View.{View, view}
use Rattle.sa_fast_laws.proofs.lives.LifeEnds.{end-fits}
use Rattle.sa_fast_laws.specs.Rests.{LivesFit, LivesHear}

pub life-carries : (s : SpaceNo) (r : Readings) (p : ProcNo) (life : Life) (o : Option ThreadNo) → life.proc ≡ p → runner_on r.state p ≡ runner_of s o
    → runs_by r life ≡ o
life-carries s r p life o proc is = ap (λ y. option_map (λ (x : Runner). x.thread) (runner_on r.state y)) proc
    ∙ ap (option_map (λ (x : Runner). x.thread)) is ∙ by o where
      by : (o : Option ThreadNo) → option_map (λ (x : Runner). x.thread) (runner_of s o) ≡ o
      by None = refl
      by (Some t) = refl

stopped-ended : (o : Option Life) → stopped_thread (unended o) ≡ stopped_thread o
stopped-ended None = refl
stopped-ended (Some life) = refl

-- Whether it is in is asked of a moment that differs from what is read in the ends of own events alone.
module _ (w : WorkloadView) (before r last : Readings) (ev : Event) (alike : AlikeButEnds last r) where
  pub inside-alike : (life : Life) → is_inside w before ev last true life ≡ is_inside w before ev r true life
  inside-alike life =
      ap
      (λ m. some_lock life.locks || life.cont || has_hand last life || nat_lt (demand_of last life.space) (min w.processors m) ||
      (is_none (runs_by last life) && many_taken last life.space)) loads
      ∙ ap (λ y. is_inside w before ev y true life) (sym alike.is) where
        back : Readings
        back = record last { lives = r.lives }

        loads : load_of last life.space ≡ load_of back life.space
        loads =
            let sums = notes-same back last (untold_of last life.space)
            (λ b has. sym (stopped-ended (last.lives b.0)) ∙ ap stopped_thread (sym (alike.lives b.0)) ∙ stopped-ended (r.lives b.0)) in
            ap (λ m. active_threads (space_at last.state life.space) + m) sums

-- THE END. The context has worked off nothing yet, and its sections to continue and its work list stay.
module _ (w : WorkloadView) (s : Setting) (e : ℕ) (before r last : Readings) (ev : Event) (u : Package) (bs : Contexts Context) (n : ActNo)
    (fs : List Frame) (wk : Option ThreadNo) (seen : Seen)
    (of_space : IsOfSpace w s) (h : IsStanding s e u bs) (moment : IsMoment r) (is : bs n.0 ≡ Some (record { state = Work None; sections = fs; work = wk }))
    (runs : running_of r ev.proc ≡ Some n) (alike : AlikeButEnds last r) (sees : Sees s.space r ev.proc ev.number seen) where
  abbrev left : Bool
  left = has_some fs || is_some wk

  abbrev state : ContextState
  state = settled_to None left (is_some (owed u seen)) (has_bulk seen)

  -- the context as it settles
  abbrev pub settled_new : Context
  settled_new = record { state = settled_to None (has_some fs || is_some wk) (is_some (owed u seen)) (has_bulk seen); sections = fs; work = wk }

  module _ {C : Type 0} (look : C → View) (cs : Contexts C) (k : LivesHear look s.space r n u bs cs) where
    -- its life
    abbrev pub answered_life : Life
    answered_life = (k.holds.lives n (record { state = Work None; sections = fs; work = wk }) is).0

    there : life_of r n ≡ Some answered_life
    there = (k.holds.lives n (record { state = Work None; sections = fs; work = wk }) is).1

    of : answered_life.space ≡ s.space
    of = (k.holds.lives n (record { state = Work None; sections = fs; work = wk }) is).2.space

    started : (stage_of r s.space n answered_life ≡ Runs) × (answered_life.freed ≡ false) × (answered_life.scans ≡ 0)
    started = k.runs answered_life there

    abbrev ds : Contexts Context
    ds = put bs n.0 (Some settled_new)

    pub answer-holds : Holds s.space r u (put bs n.0 (Some settled_new))
    answer-holds =
        let between = settled_between None left (is_some (owed u seen)) (has_bulk seen) in
        restated s.space r u bs k.holds n (Work None) state fs wk is refl refl between.section
        (settled-copy None left (is_some (owed u seen)) (has_bulk seen)) between.carries

    -- whether its life is in, as FastThreads asks
    pub answer-inside : is_inside w before ev last true answered_life ≡ stands_inside state
    answer-inside =
        let between = settled_between None left (is_some (owed u seen)) (has_bulk seen) in
        let stands : IsStanding s e u ds = answers s e u bs h n.0 (record { state = Work None; sections = fs; work = wk }) is seen in
        let mine : ds n.0 ≡ Some settled_new = put-same bs n.0 (Some settled_new) in
        let found = moment.lives ev.proc n runs in
        let one : found.0 ≡ answered_life = same_Some found.0 answered_life (sym found.1 ∙ there) in
        let owner : owner_of r ev.proc ≡ Some s.space = found.3 ∙ ap (λ (l : Life). Some l.space) one ∙ ap Some of in
        let proc : answered_life.proc ≡ ev.proc = (answer-holds.runs ev.proc n answered_life runs there of).1 in
        let carries : runs_by r answered_life ≡ None =
        life-carries s.space r ev.proc answered_life (carried_by state) proc (runner-behind s.space r r ev.proc (carried_by state) moment owner (λ z ne. refl)
        (alone-runs s e u ds stands s.space r answer-holds ev.proc n settled_new answered_life mine there of runs)) ∙ between.carries in
        inside-alike w before r last ev alike answered_life
        ∙ settled-inside s e u ds stands s.space r answer-holds n None seen fs wk answered_life there
        (ap is_gone started.0) w before ev mine sees.demand sees.taken
        (h.made.processors ∙ of_space.processors) carries

    -- So all lives fit, with a context that shows what the settled one does, but perhaps that it is in.
    pub answer-fits : (new : C) (inside : Bool) → look new ≡ record (view settled_new) { inside = inside }
        → LivesFit look s.space (record r { lives = put r.lives n.0 (Some (record answered_life { inside = inside })) }) u (put bs n.0 (Some settled_new))
        (put cs n.0 (Some new))
    answer-fits new inside shows =
        end-fits s.space r u ds answer-holds n settled_new
        (put-same bs n.0 (Some settled_new)) answered_life there answered_life.freed inside answered_life.scans r.number r.last r.moved
        look (put cs n.0 (Some new)) new (put-same cs n.0 (Some new))
        (λ x d l ne at here. k.others x d l ne (sym (put-other cs n.0 x.0 (Some new) ne) ∙ at) here)
        (subst (λ z. IsAtRest (stage_of r s.space n answered_life) z (record answered_life { inside = inside })) (sym shows) (record {
          idle = λ no. absurd (let yes : is_running (stage_of r s.space n answered_life) ≡ true = ap is_running started.0 in cc);
          marks = record {
            inside = refl;
            back =
                ap (λ b. answered_life.cont && b) started.1 ∙ and_right answered_life.cont false refl
                ∙ sym (settled-yield None left (is_some (owed u seen)) (has_bulk seen));
            scans = ap (λ m. min m MAX_PATIENCE) started.2 ∙ sym (settled-looks None left (is_some (owed u seen)) (has_bulk seen));
            left = settled-left None left (is_some (owed u seen)) (has_bulk seen);
            lone = settled-lone None fs wk (is_some (owed u seen)) (has_bulk seen) (λ some. refl);
          };
        }))
