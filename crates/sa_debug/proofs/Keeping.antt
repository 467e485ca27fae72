-- What a session keeps from command to command.
use Rattle.std.proofs.Common.{◌≡◌, ℕ, suc, ◌+◌, ◌<◌, ◌≤◌, List, ◌++◌, length, take, None, Result, Ok, Err, OnOk, OnErr, refl, sym, ap, ◌∙◌, subst, arith, length-append}
use Rattle.std.proofs.lemmas.List.{take-append-le, take_all}
use Rattle.sa_base.specs.declared.limits.TheConstants.{MAX_EVENTS, MAX_PROCESSORS}
use Rattle.sa_base.specs.declared.number.ProcNo.{ProcNo}
use Rattle.sa_base.specs.declared.number.SpaceNo.{SpaceNo}
use Rattle.sa_base.specs.declared.number.ThreadNo.{ThreadNo}
use Rattle.sa_base.specs.declared.record.Item.{Item}
use Rattle.sa_spaces.specs.Workload.{WorkloadView, IsWorkload}
use Rattle.sa_abstract.specs.Calls.{Calls}
use Rattle.sa_replay.specs.Replayed.{Replayed, opened}
use Rattle.sa_core_model.specs.Machine.{Machine}
use Rattle.sa_core_model.specs.End.{end_of}
use Rattle.sa_core_model.specs.Run.{opening, IsTurn, CanTurn, IsMove}
use Rattle.sa_core_model.specs.Run.Move.{turn}
use Rattle.sa_core.specs.View.{CoreView, machine}
use Rattle.sa_core.proofs.CoreLemmas.{goes-on}
use Rattle.sa_laws.specs.State.{opening_state}
use Rattle.sa_debug.specs.Kept.{IsKept}
use Rattle.sa_debug.specs.Reached.{Reaches, IsPlayable}
use Rattle.sa_debug.specs.OverMachines.{over_machines}
use Rattle.sa_debug.specs.Views.{Followed, IsBehind, view_in, state_behind}

-- what has followed the first items of a trace has followed those of a longer one
behind-more : (x : Followed) (items more all : List Item) → all ≡ items ++ more → IsBehind x items → IsBehind x all
behind-more x items more all is b = record {
  few = omega (arith, b.few, ap length is, length-append items more);
  state = b.state ∙ ap (state_behind x.workload (opening_state x.workload)) (sym (ap (take x.taken) is ∙ take-append-le x.taken items more b.few));
}

module _ {U C : Type 0} (f : Calls U C) where
  -- the end of a run, as it is kept and as it is seen
  pub same-end : (kept seen : CoreView U C) (budget : ℕ) → kept ≡ seen → seen.budget ≡ budget
      → end_of f kept.budget (machine kept) ≡ end_of f budget (machine seen)
  same-end kept seen budget same limit =
      ap (λ (x : CoreView U C). end_of f x.budget (machine x)) same ∙ ap (λ n. end_of f n (machine seen)) limit

  -- its processors are few
  pub few-processors : (kept seen : CoreView U C) (x : Followed) → IsKept f kept x → kept ≡ seen → seen.parts.workload.processors ≤ MAX_PROCESSORS
  few-processors kept seen x is same =
      omega (
        arith,
        is.ok.few_processors,
        ap (λ (w : WorkloadView). w.processors) is.is,
        ap (λ (y : CoreView U C). y.parts.workload.processors) same,
      )

  -- a turn can be made
  pub can-turn : (core : CoreView U C) (x : Followed) (p : ProcNo) → IsKept f core x → end_of f core.budget (machine core) ≡ None
      → p.0 < (machine core).workload.processors → CanTurn f (machine core) p
  can-turn core x p kept none within = record {
    within = within;
    event = omega (arith, goes-on f core.budget (machine core) none kept.within, kept.few);
  }

  kept-made : (old new : CoreView U C) (x : Followed) (p : ProcNo) → IsKept f old x → end_of f old.budget (machine old) ≡ None
      → p.0 < (machine old).workload.processors → IsTurn f (machine old) p (machine new) → (machine new).event ≡ (machine old).event + 1
      → (machine new).workload ≡ (machine old).workload → new.budget ≡ old.budget → IsKept f new x
  kept-made old new x p kept none within made event workload budget =
      let move : IsMove f (machine old) (turn p) (machine new) = (can-turn old x p kept none within, made) in
      let longer = kept.playable.adds kept.turns (machine old) (machine new) p kept.reached none move in
      let low = goes-on f old.budget (machine old) none kept.within in
      record {
        workload = kept.workload;
        ok = kept.ok;
        is = workload ∙ kept.is;
        playable = subst (λ b. IsPlayable f kept.workload b) (sym budget) kept.playable;
        few = omega (arith, budget, kept.few);
        within = omega (arith, budget, event, low);
        turns = suc kept.turns;
        reached = subst (λ b. Reaches f kept.workload b (suc kept.turns) (machine new)) (sym budget) (machine old, p, kept.reached, none, move);
        follows = kept.follows;
        behind = behind-more x (machine old).items longer.0 (machine new).items longer.1 kept.behind;
      }

  kept-same : (old new : CoreView U C) (x : Followed) → IsKept f old x → machine new ≡ machine old → new.budget ≡ old.budget → IsKept f new x
  kept-same old new x kept same budget = record {
    workload = kept.workload;
    ok = kept.ok;
    is = ap (λ (m : Machine U C). m.workload) same ∙ kept.is;
    playable = subst (λ b. IsPlayable f kept.workload b) (sym budget) kept.playable;
    few = omega (arith, budget, kept.few);
    within = omega (arith, budget, ap (λ (m : Machine U C). m.event) same, kept.within);
    turns = kept.turns;
    reached =
        subst (λ b. Reaches f kept.workload b kept.turns (machine new)) (sym budget)
        (subst (λ m. Reaches f kept.workload old.budget kept.turns m) (sym same) kept.reached);
    follows = kept.follows;
    behind = subst (λ (m : Machine U C). IsBehind x m.items) (sym same) kept.behind;
  }

  -- a turn that was made, or for which there was no memory
  pub kept-turn : {A E : Type 0} (r : Result A E) (old new : CoreView U C) (x : Followed) (p : ProcNo) → IsKept f old x
      → end_of f old.budget (machine old) ≡ None
      → p.0 < (machine old).workload.processors → OnOk r (IsTurn f (machine old) p (machine new)) → OnOk r ((machine new).event ≡ (machine old).event + 1)
      → (machine new).workload ≡ (machine old).workload → new.budget ≡ old.budget → OnErr r (machine new ≡ machine old) → IsKept f new x
  kept-turn (Ok a) old new x p kept none within made event workload budget err = kept-made old new x p kept none within made event workload budget
  kept-turn (Err e) old new x p kept none within made event workload budget err = kept-same old new x kept err budget

  -- what has taken all items shows a thread as it is after them
  pub view-followed : (kept seen : CoreView U C) (budget : ℕ) (x y : Followed) (items : List Item) (n : SpaceNo) (t : ThreadNo) → IsKept f kept x
      → y.workload ≡ x.workload → IsBehind y items → y.taken ≡ length items → items ≡ (machine kept).items → kept ≡ seen
      → view_in y.state n t ≡ (over_machines f budget).view (machine seen) n t
  view-followed kept seen budget x y items n t is workload behind taken those same =
      let of_workload : y.workload ≡ (machine kept).workload = workload ∙ is.follows ∙ sym is.is in
      let all : take y.taken items ≡ (machine kept).items = take_all y.taken items (omega (arith, taken)) ∙ those in
      ap (λ a. view_in a n t)
      (behind.state ∙ ap (state_behind y.workload (opening_state y.workload)) all
      ∙ ap (λ w. state_behind w (opening_state w) (machine kept).items) of_workload)
      ∙ ap (λ (v : CoreView U C). (over_machines f budget).view (machine v) n t) same

  -- at the opening
  pub kept-start : (core : CoreView U C) (replay : Replayed) (x : Followed) → IsWorkload (machine core).workload
      → machine core ≡ opening f (machine core).workload
      → replay ≡ opened (machine core).workload → IsPlayable f (machine core).workload core.budget → core.budget ≤ MAX_EVENTS
      → x.workload ≡ replay.workload → x.state ≡ replay.state → x.taken ≡ 0 → IsKept f core x
  kept-start core replay x ok starts opens playable few workload state taken =
      let same : x.workload ≡ (machine core).workload = workload ∙ ap (λ (r : Replayed). r.workload) opens in
      record {
        workload = (machine core).workload;
        ok = ok;
        is = refl;
        playable = playable;
        few = few;
        within = omega (arith, ap (λ (m : Machine U C). m.event) starts);
        turns = 0;
        reached = starts;
        follows = same;
        behind = record {
          few = omega (arith, taken);
          state = state ∙ ap (λ (r : Replayed). r.state) opens ∙ ap opening_state (sym same)
              ∙ ap (λ n. state_behind x.workload (opening_state x.workload) (take n (machine core).items)) (sym taken);
        };
      }
