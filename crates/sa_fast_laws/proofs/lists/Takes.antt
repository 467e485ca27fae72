-- A look at the lists takes the lock of one, for a pop; and a context with threads to make ready takes that of its own,
-- for a push.
use Rattle.std.proofs.Common.{◌≡◌, ℕ, ◌≤◌, ◌<◌, Bool, true, false, ◌||◌, List, [], ◌∷◌, ◌++◌, length, Option, Some, None, refl, sym, ap, ◌∙◌, subst, arith}
use Rattle.std.specs.Prelude.{◌==◌}
use Rattle.std.specs.List.{list_any}
use Rattle.sa_base.specs.declared.number.ActNo.{ActNo}
use Rattle.sa_base.specs.declared.number.ProcNo.{ProcNo}
use Rattle.sa_base.specs.declared.number.SpaceNo.{SpaceNo}
use Rattle.sa_base.specs.declared.number.ThreadNo.{ThreadNo}
use Rattle.sa_base.specs.declared.record.Record.TheVariants.{Take}
use Rattle.sa_spaces.specs.Workload.{WorkloadView}
use Rattle.sa_lists.specs.ReadyView.{processor, is_locked, sought}
use Rattle.sa_code.specs.Micro.{taken}
use Rattle.sa_code.specs.declared.state.Frame.{Frame}
use Rattle.sa_fast.proofs.Moves.{WorkStep}
use Rattle.sa_fast.proofs.WorkSteps.{one_same, without_first-step}
use Rattle.sa_fast.specs.Instruction.{with_works}
use Rattle.sa_fast.specs.Rest.{one_of}
use Rattle.sa_fast.specs.Work.{with_name, without_first}
use Rattle.sa_abstract.specs.Calls.{Contexts}
use Rattle.sa_abstract.specs.Setting.{Setting}
use Rattle.sa_package_model.proofs.Holding.{own_work}
use Rattle.sa_package_model.specs.Rules.{with_package, with_shared, pop_of, push_of}
use Rattle.sa_package_model.specs.Stands.{IsStanding}
use Rattle.sa_package_model.specs.declared.context.Context.{Context}
use Rattle.sa_package_model.specs.declared.context.ContextState.TheVariants.{Code, Work, Look}
use Rattle.sa_package_model.specs.declared.package.Package.{Package}
use Rattle.sa_laws.specs.Life.{Life}
use Rattle.sa_laws.specs.Locks.{TakesFor, IsFirstOpen, KeepsLocks}
use Rattle.sa_laws.specs.Readings.{Readings, running_of, life_of, counts, carried_by as runs_by, has_hand}
use Rattle.sa_laws.specs.Record.{after_record, lock_for, locks}
use Rattle.sa_laws.specs.State.{SpaceState, space_at}
use Rattle.sa_fast_laws.proofs.relation.Hands.{counts_some, counts_none, count-none}
use Rattle.sa_fast_laws.proofs.relation.OneLife.{IsHeld}
use Rattle.sa_fast_laws.proofs.relation.Places.{life-changed}
use Rattle.sa_fast_laws.proofs.relation.Still.{still-held}
use Rattle.sa_fast_laws.proofs.relation.ThreadsBeside.{beside_counts, life-here}
use Rattle.sa_fast_laws.specs.FastFits.{Holds}
use Rattle.sa_fast_laws.specs.Life.{beside, carried, count_if, HasHand, HasLife}
use Rattle.sa_fast_laws.specs.Stage.{stage_of, is_gone}
use Rattle.sa_fast_laws.specs.View.{view, in_copy}
use Rattle.sa_fast_laws.proofs.lists.LockedLists.{AreReadyAlike, locked-kept}
use Rattle.sa_fast_laws.proofs.lists.OpenLists.{sought-is_first}

-- an empty hand
pub hand_none : (x : SpaceState) (works : List (List ℕ)) (c : Context) (gone : Bool) (hand : List ThreadNo) → HasHand works (view c) gone hand
    → ((n : ℕ) → beside works (view c) n ≡ 0) → ((n : ℕ) → carried (view c) n ≡ 0) → list_any (counts x) hand ≡ false
hand_none x works c gone hand h none bare = counts_none x hand (λ t some. absurd (
    let has = h.only t.0 some in let no = none t.0 in
    let zero_is : count_if (gone || in_copy c.state) (carried (view c) t.0) ≡ 0 =
    ap (count_if (gone || in_copy c.state)) (bare t.0) ∙ count-none (gone || in_copy c.state) in
    omega arith))

module _ (set : Setting) (e : ℕ) (u : Package) (cs : Contexts Context) (h : IsStanding set e u cs) (s : SpaceNo) (r : Readings) (k : Holds s r u cs)
    (a : ActNo) (w : WorkloadView) (number : ℕ) (p : ProcNo) (life : Life) (runs : running_of r p ≡ Some a) (there : life_of r a ≡ Some life) where
  -- FOR A POP
  module _ (looks : ℕ) (is : cs a.0 ≡ Some (record { state = Look looks; sections = []; work = None })) (l : ℕ) where
    abbrev looking : Context
    looking = record { state = Look looks; sections = []; work = None }

    abbrev popping : Frame
    popping = record { pc = 5; list = Some (processor l); own = l == p.0; pushed = None; thread = None }

    abbrev pops : Context
    pops = record { state = Code popping; sections = []; work = None }

    abbrev took : Package
    took = with_package u (taken u.shared.state (pop_of p l) (processor l) false).state

    abbrev behind : Readings
    behind = after_record w number p r (Take s (processor l) None)

    lk : HasLife s u.shared (space_at r.state s) (stage_of r s a life) (view looking) life
    lk = life-here s r u cs k a looking life is there

    no_hand : has_hand r life ≡ false
    no_hand = subst (λ o. list_any (counts (space_at r.state o)) life.hand ≡ false) (sym lk.space)
        (hand_none (space_at r.state s) u.shared.works looking (is_gone (stage_of r s a life)) life.hand lk.hand (λ n. refl) (λ n. refl))

    -- the list is the first open one from the processor's on
    pub pop_keeps : sought u.shared.state.lists p.0 ≡ Some l → length u.shared.state.lists.lists ≡ w.processors → p.0 < w.processors
        → AreReadyAlike s r u → runs_by r life ≡ None → KeepsLocks w r p life (Take s (processor l) None)
    pop_keeps found many inside alike carries = let first = sought-is_first set e u cs h s r k alike w many p inside l found in record {
      space = sym lk.space;
      unlocked = first.opens.unlocked;
      locks = lk.locks;
      cont = lk.cont;
      thread = sym carries;
      target = subst (λ b. TakesFor b w r p life (processor l)) (sym no_hand) (carries, subst (λ o. IsFirstOpen w r o p (processor l)) (sym lk.space) first);
    }

    pub pop_held : IsHeld s r behind u took a looking pops
    pop_held = still-held s r behind u took cs k a looking pops is (record {
      space = refl;
      untold = refl;
      running = refl;
      was = life;
      old = there;
      life = locks r p (processor l) None life;
      lives = life-changed (locks r p (processor l) None) r p a life runs there;
      stays = (refl, refl, refl);
      threads = refl;
      sync = refl;
      made = refl;
      works = λ m none some. refl;
      carries = refl;
      sections = λ n some. some;
      locks = ap (λ ls. ls ++ lock_for r p (processor l) None life ∷ []) lk.locks
          ∙ ap (λ b. record { list = processor l; thread = None; for_push = b; used = false; own = l == p.0; inherited = false } ∷ []) no_hand;
      cont = lk.cont;
      hand = record { all = λ n some. absurd (omega arith); own = lk.hand.own; only = λ n some. lk.hand.only n some };
    })

  -- FOR A PUSH
  module _ (t : Option ThreadNo) (one : ThreadNo) (is : cs a.0 ≡ Some (record { state = Work t; sections = []; work = Some one }))
      (l : ProcNo) (free : is_locked u.shared.state.lists l.0 ≡ false) where
    abbrev working : Context
    working = record { state = Work t; sections = []; work = Some one }

    abbrev pushing : Frame
    pushing = record { pc = 1; list = Some l; own = l.0 == p.0; pushed = Some one; thread = t }

    abbrev pushes : Context
    pushes = record { state = Code pushing; sections = []; work = (without_first u.shared.works one).name }

    abbrev takes : Package
    takes =
        with_shared u (with_works (record u.shared { state = (taken u.shared.state (push_of p l one t) l false).state }) (without_first u.shared.works one))

    abbrev after : Readings
    after = after_record w number p r (Take s l t)

    lw : HasLife s u.shared (space_at r.state s) (stage_of r s a life) (view working) life
    lw = life-here s r u cs k a working life is there

    step : WorkStep (with_name u.shared.works (Some one)) (without_first u.shared.works one) (one_of (Some one)) (λ n. 0)
    step = without_first-step u.shared.works one h.parts.works (own_work set e u cs h a.0 working is)

    some_beside : 1 ≤ beside u.shared.works (view working) one.0
    some_beside = let same = step.threads one.0 in let this = one_same one.0 one.0 refl in omega arith

    some_hand : has_hand r life ≡ true
    some_hand = subst (λ o. list_any (counts (space_at r.state o)) life.hand ≡ true) (sym lw.space)
        (counts_some (space_at r.state s) life.hand one (lw.hand.all one.0 some_beside) (beside_counts set e u cs h s r k a working is one some_beside))

    beside_same : (n : ℕ) → beside takes.shared.works (view pushes) n ≡ beside u.shared.works (view working) n
    beside_same n = let same = step.threads n in omega arith

    -- the list is the processor's own
    pub push_keeps : l ≡ p → runs_by r life ≡ t → KeepsLocks w r p life (Take s l t)
    push_keeps own carries = record {
      space = sym lw.space;
      unlocked = λ locked. absurd (let yes = locked-kept set e u cs h s r k l locked in cc);
      locks = lw.locks;
      cont = lw.cont;
      thread = sym carries;
      target = subst (λ b. TakesFor b w r p life l) (sym some_hand) own;
    }

    pub push_held : IsHeld s r after u takes a working pushes
    push_held = still-held s r after u takes cs k a working pushes is (record {
      space = refl;
      untold = refl;
      running = refl;
      was = life;
      old = there;
      life = locks r p l t life;
      lives = life-changed (locks r p l t) r p a life runs there;
      stays = (refl, refl, refl);
      threads = refl;
      sync = refl;
      made = refl;
      works = λ m none some. step.others m none some;
      carries = refl;
      sections = λ n some. some;
      locks = ap (λ ls. ls ++ lock_for r p l t life ∷ []) lw.locks
          ∙ ap (λ b. record { list = l; thread = t; for_push = b; used = false; own = l.0 == p.0; inherited = false } ∷ []) some_hand;
      cont = lw.cont;
      hand = record {
        all = λ n some. lw.hand.all n (let same = beside_same n in omega arith);
        own = lw.hand.own;
        only = λ n some. let has = lw.hand.only n some in let same = beside_same n in omega arith;
      };
    })
