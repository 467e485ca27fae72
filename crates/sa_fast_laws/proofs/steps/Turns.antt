-- A move of FastThreads that keeps its rules is a legal step.
use Rattle.std.proofs.Common.{◌≡◌, ℕ, Bool, true, false, ◌||◌, List, [], ◌∷◌, ◌++◌, Option, Some, refl, sym, ap, ◌∙◌, subst, slice_index_or}
use Rattle.std.specs.List.{list_any}
use Rattle.sa_base.specs.declared.context.Seen.{Seen}
use Rattle.sa_base.specs.declared.number.ActNo.{ActNo}
use Rattle.sa_base.specs.declared.number.ProcNo.{ProcNo}
use Rattle.sa_base.specs.declared.record.Record.{Record}
use Rattle.sa_lemmas.proofs.FunctionUpdates.{put-other}
use Rattle.sa_spaces.specs.Workload.{WorkloadView}
use Rattle.sa_abstract.specs.Calls.{Contexts}
use Rattle.sa_abstract.specs.Setting.{Setting}
use Rattle.sa_package_model.specs.Step.{stepped}
use Rattle.sa_package_model.specs.declared.context.Context.{Context}
use Rattle.sa_package_model.specs.declared.package.Package.{Package}
use Rattle.sa_laws.specs.Demand.{IsFree, StepIsFree, StepIsFreeIf, BeginsFreely}
use Rattle.sa_laws.specs.Event.{Event}
use Rattle.sa_laws.specs.History.{is_step, is_up, event_begun, after_records}
use Rattle.sa_laws.specs.Life.{Life}
use Rattle.sa_laws.specs.Locks.{KeepsLocks, KeepsLocksIf, KeepsLocksIn, StandsAlone, is_back, back_is_due, RunsNext}
use Rattle.sa_laws.specs.Readings.{Readings, running_of, life_of, life_if, life_on, ready_of}
use Rattle.sa_laws.specs.Shape.{own_part}
use Rattle.sa_laws.specs.Turns.{is_of_locks, StepBy, StepIn}
use Rattle.sa_user_laws.specs.Scene.{event_begun_at}
use Rattle.sa_user_laws.specs.Steps.{event_with}
use Rattle.sa_fast_laws.proofs.relation.EventEnds.{closing-ups, Follows, ended-fits}
use Rattle.sa_fast_laws.proofs.relation.Stages.{stage-same, others-stay}
use Rattle.sa_fast_laws.specs.FastFits.{FitsLists}
use Rattle.sa_fast_laws.specs.Stage.{stage_of, is_running}
use Rattle.sa_fast_laws.proofs.steps.Events.{IsLegal}
use Rattle.sa_fast_laws.proofs.steps.Moves.{IsMove, move-behind}
use Rattle.sa_fast_laws.proofs.steps.Scenes.{IsFastScene}

-- THE RULES of an event of a life, with a closing after it
pub rules-of : (w : WorkloadView) (r : Readings) (ev : Event) (a : ActNo) (life : Life) (x : Record) (xs behind : List Record)
    → running_of r ev.proc ≡ Some a → life_of r a ≡ Some life
    → ev.records ≡ x ∷ behind → own_part (x ∷ behind) ≡ x ∷ xs → is_step x ≡ true
    → StepBy w (event_begun w ev r) ev.proc a life x xs → KeepsLocks w (event_begun w ev r) ev.proc life x → is_back x ≡ back_is_due life
    → StandsAlone (list_any is_of_locks (x ∷ xs)) xs
    → IsFree w r life x → RunsNext r ev.proc (x ∷ behind)
    → Follows w r ev (x ∷ xs)
rules-of w r ev a life x xs behind runs there records own step by_table keeps back alone free next =
    let on : life_on r ev.proc ≡ Some life = ap (life_if r) runs ∙ there in
    record {
      steps = subst (λ o. StepIn w (event_begun w ev r) ev.proc o (life_on r ev.proc) (x ∷ xs)) (sym runs)
          (subst (λ o. StepIn w (event_begun w ev r) ev.proc (Some a) o (x ∷ xs)) (sym on) by_table);
      demand = record {
        step = λ later. subst (BeginsFreely w r ev.proc) (sym records)
            (subst (λ b. StepIsFreeIf b w r (life_on r ev.proc) x) (sym step) (subst (λ o. StepIsFree w r o x) (sym on) free));
      };
      locks = record {
        step = λ later. subst (λ ys. KeepsLocksIn w (event_begun w ev r) ev.proc (own_part ys)) (sym records)
            (subst (KeepsLocksIn w (event_begun w ev r) ev.proc) (sym own) (
              subst (λ b. KeepsLocksIf b w (event_begun w ev r) ev.proc (life_on r ev.proc) x) (sym step)
                  (subst (λ o. KeepsLocksIf true w (event_begun w ev r) ev.proc o x) (sym on) (record { keeps = keeps; back = back })),
              alone,
            ));
      };
      order = record { run = subst (RunsNext r ev.proc) (sym records) next };
    }

pub any-ups : (xs ys : List Record) → list_any is_up xs ≡ false → list_any is_up ys ≡ false → list_any is_up (xs ++ ys) ≡ false
any-ups [] ys one two = two
any-ups (x ∷ xs) ys one two = by (λ none. any-ups xs ys none two) (is_up x) refl where
  by : (list_any is_up xs ≡ false → list_any is_up (xs ++ ys) ≡ false) → (b : Bool) → is_up x ≡ b → (is_up x || list_any is_up (xs ++ ys)) ≡ false
  by rest true at = absurd (let yes = sym (ap (λ b. b || list_any is_up xs) at) ∙ one in cc)
  by rest false at = ap (λ b. b || list_any is_up (xs ++ ys)) at ∙ rest (sym (ap (λ b. b || list_any is_up xs) at) ∙ one)

module _ (set : Setting) (e : ℕ) (u : Package) (cs : Contexts Context) (w : WorkloadView) (r : Readings) (p : ProcNo) (a : ActNo) (life : Life)
    (c : Context) (seen : Seen)
    (i : IsFastScene set e u cs w r p a life c seen) where
  -- what the rules ask of a move that says x and then xs and leads to v, and its ready lists after it
  pub record IsAllowed (x : Record) (xs : List Record) (v : Package) : Type 0 where
    pub table : StepBy w (event_begun_at w seen.event p r) p a life x xs
    pub keeps : KeepsLocks w (event_begun_at w seen.event p r) p life x
    pub alone : StandsAlone (list_any is_of_locks (x ∷ xs)) xs
    pub free : IsFree w r life x
    pub next : (behind : List Record) → RunsNext r p (x ∷ behind)
    pub lists : FitsLists v (ready_of (after_records w seen.event p (event_begun_at w seen.event p r) (x ∷ xs)) set.space)

  module _ {x : Record} {xs : List Record} {v : Package} {new : Context} (m : IsMove set u cs w r p a life c seen x xs v new)
      (t : IsAllowed x xs v) where
    pub turn-legal : IsLegal w set r p seen.event a cs (stepped u seen c)
    turn-legal = subst (IsLegal w set r p seen.event a cs) (sym m.step) (record {
      steps = m.needs;
      answer = record {
        some = λ none. cc;
        rules_hold = λ closing closed.
            let follows =
            rules-of w r (event_with seen.event p (x ∷ xs) closing) a life x xs
            (xs ++ closing) i.scene.on.runs i.scene.on.is refl closed.is_own m.first t.table t.keeps m.back t.alone t.free (t.next (xs ++ closing)) in
            record { steps = follows.steps; demand = follows.demand; locks = follows.locks; order = follows.order };
        after = λ closing closed same.
            let ev = event_with seen.event p (x ∷ xs) closing in
            let last = after_records w seen.event p (event_begun_at w seen.event p r) ((x ∷ xs) ++ closing) in
            let b = move-behind set e u cs w r p a life c seen i.scene m last same in
            let lists = subst (FitsLists v) (sym (ap (λ ls. slice_index_or ls set.space.0 []) same.kernel.ready)) t.lists in
            let others = others-stay set.space r last a cs
            (λ y d ne at. ap (λ (f : ℕ → Option Life). f y.0) (same.kernel.lives ∙ m.held.lives) ∙ put-other r.lives a.0 y.0 (Some m.held.life) ne)
            (λ y l ne. stage-same set.space r last (ap (λ ls. slice_index_or ls set.space.0 []) same.kernel.untold ∙ m.held.untold)
            (same.kernel.running ∙ m.held.running) y l) i.others in
            ended-fits set.space r u cs a w ev i.scene.on.runs last others v new b.holds lists m.held.life b.there x (xs ++ closing) refl m.first
            (any-ups (x ∷ xs) closing m.no_up (closing-ups closing closed.closes))
            (record {
              marks = m.marks ev last b;
              idle = λ no. absurd (let yes : is_running (stage_of last set.space a m.held.life) ≡ true = ap is_running b.stage in cc);
            });
      };
    })
