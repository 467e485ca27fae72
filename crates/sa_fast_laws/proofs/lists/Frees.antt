-- At the end of a routine the lock of its list is freed.
use Rattle.std.proofs.Common.{◌≡◌, ℕ, true, ◌||◌, List, ◌∷◌, map, drop, Option, Some, None, nat_le, slice_get, refl, sym, ap, ◌∙◌, subst, arith}
use Rattle.sa_base.specs.declared.number.ActNo.{ActNo}
use Rattle.sa_base.specs.declared.number.ProcNo.{ProcNo}
use Rattle.sa_base.specs.declared.number.SpaceNo.{SpaceNo}
use Rattle.sa_base.specs.declared.number.ThreadNo.{ThreadNo}
use Rattle.sa_base.specs.declared.record.Record.TheVariants.{Free as FreeRecord}
use Rattle.sa_spaces.specs.Workload.{WorkloadView}
use Rattle.sa_code.specs.Micro.{freed, list_in}
use Rattle.sa_code.specs.declared.code.Op.TheVariants.{Free}
use Rattle.sa_code.specs.declared.state.Frame.{Frame}
use Rattle.sa_copies.specs.Copies.{package_ops, copy_at}
use Rattle.sa_fast.specs.Rest.{one_of}
use Rattle.sa_abstract.specs.Calls.{Contexts}
use Rattle.sa_abstract.specs.Setting.{Setting}
use Rattle.sa_package_model.specs.Context.{carried_by, section_in, at_copy}
use Rattle.sa_package_model.specs.Rules.{with_package}
use Rattle.sa_package_model.specs.Stands.{IsStanding}
use Rattle.sa_package_model.specs.declared.context.Context.{Context}
use Rattle.sa_package_model.specs.declared.context.ContextState.{ContextState}
use Rattle.sa_package_model.specs.declared.context.ContextState.TheVariants.{Code}
use Rattle.sa_package_model.specs.declared.package.Package.{Package}
use Rattle.sa_laws.specs.Life.{Life, without_lock}
use Rattle.sa_laws.specs.Locks.{CanFree, WithFirst, KeepsLocks}
use Rattle.sa_laws.specs.Readings.{Readings, running_of, life_of}
use Rattle.sa_laws.specs.Record.{after_record}
use Rattle.sa_laws.specs.State.{space_at}
use Rattle.sa_fast_laws.proofs.relation.InCode.{free_at, pushed_none}
use Rattle.sa_fast_laws.proofs.relation.OneLife.{IsHeld}
use Rattle.sa_fast_laws.proofs.relation.Places.{life-changed}
use Rattle.sa_fast_laws.proofs.relation.Still.{still-held}
use Rattle.sa_fast_laws.proofs.relation.ThreadsBeside.{life-here}
use Rattle.sa_fast_laws.specs.FastFits.{Holds}
use Rattle.sa_fast_laws.specs.Life.{lock_of, locks_from, pushed_in, beside, carried, count_if, HasLife}
use Rattle.sa_fast_laws.specs.Stage.{stage_of, is_gone}
use Rattle.sa_fast_laws.specs.View.{view, in_copy}

module _ (set : Setting) (e : ℕ) (u : Package) (cs : Contexts Context) (h : IsStanding set e u cs) (s : SpaceNo) (r : Readings) (k : Holds s r u cs)
    (a : ActNo) (f : Frame) (fs : List Frame) (wk : Option ThreadNo) (is : cs a.0 ≡ Some (record { state = Code f; sections = fs; work = wk }))
    (w : WorkloadView) (number : ℕ) (p : ProcNo) (life : Life) (runs : running_of r p ≡ Some a) (there : life_of r a ≡ Some life)
    (kk : ℕ) (copy : copy_at f.pc ≡ Some kk) (op : slice_get package_ops f.pc ≡ Some Free) where
  abbrev c : Context
  c = record { state = Code f; sections = fs; work = wk }

  l : HasLife s u.shared (space_at r.state s) (stage_of r s a life) (view c) life
  l = life-here s r u cs k a c life is there

  locks_are : life.locks ≡ lock_of (nat_le 8 f.pc) (record f { pc = kk }) ∷ map (lock_of true) fs
  locks_are = l.locks ∙ ap (λ o. locks_from (nat_le 8 f.pc) o fs) (ap (at_copy f) copy)

  -- the rule of list locks
  pub free-keeps : KeepsLocks w r p life (FreeRecord s (list_in f) f.thread)
  free-keeps = subst (λ o. WithFirst o (λ x. CanFree life x s (list_in f) f.thread)) (sym (ap (λ ls. slice_get ls 0) locks_are)) (record {
    space = sym l.space;
    list = refl;
    thread = refl;
    used = free_at (λ i j. (lock_of (nat_le 8 f.pc) (record f { pc = j })).used ≡ true) refl refl refl refl f.pc kk copy op;
    cont = λ inherits. l.cont ∙ inherits;
  })

  -- after it the context is between routines, or at its copy's end
  module _ (pushes : f.pushed ≡ None)
      (state : ContextState) (out : section_in state ≡ None) (carries : carried_by state ≡ f.thread) (copies : in_copy state ≡ nat_le 8 f.pc) where
    abbrev new : Context
    new = record { state = state; sections = fs; work = wk }

    abbrev v : Package
    v = with_package u (freed u.shared.state f (list_in f)).state

    abbrev q : Readings
    q = after_record w number p r (FreeRecord s (list_in f) f.thread)

    beside_same : (n : ℕ) → beside u.shared.works (view new) n ≡ beside u.shared.works (view c) n
    beside_same n =
        let old = pushed_none f (copy_at f.pc) n pushes in
        let none : pushed_in (section_in state) n ≡ 0 = ap (λ o. pushed_in o n) out in omega arith

    pub free-held : IsHeld s r q u v a c new
    free-held = still-held s r q u v cs k a c new is (record {
      space = refl;
      untold = refl;
      running = refl;
      was = life;
      old = there;
      life = without_lock life;
      lives = life-changed without_lock r p a life runs there;
      stays = (refl, refl, refl);
      threads = refl;
      sync = refl;
      made = refl;
      works = λ m none some. refl;
      carries = carries;
      sections = λ n some. some;
      locks = ap (drop 1) locks_are ∙ sym (ap (λ o. locks_from (in_copy state) o fs) out);
      cont = l.cont ∙ sym copies;
      hand = record {
        all = λ n some. l.hand.all n (let same = beside_same n in omega arith);
        own = λ gone n some. l.hand.own gone n (let same : carried (view new) n ≡ carried (view c) n = ap (λ o. one_of o n) carries in omega arith);
        only = λ n some.
            let has = l.hand.only n some in let same = beside_same n in
            let carried_same : carried (view new) n ≡ carried (view c) n = ap (λ o. one_of o n) carries in
            let all : count_if (is_gone (stage_of r s a life) || in_copy state) (carried (view new) n) ≡ count_if
            (is_gone (stage_of r s a life) || nat_le 8 f.pc) (carried (view c) n) =
            ap (λ b. count_if (is_gone (stage_of r s a life) || b) (carried (view new) n)) copies
            ∙ ap (count_if (is_gone (stage_of r s a life) || nat_le 8 f.pc)) carried_same in
            omega arith;
      };
    })
