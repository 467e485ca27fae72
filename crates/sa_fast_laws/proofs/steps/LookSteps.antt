-- FastThreads' looks at the ready lists are legal: a take for a pop, an idle record, or the hint that the processor is idle;
-- and the hint for more.
use Rattle.std.proofs.Common.{◌≡◌, ℕ, ◌+◌, Bool, true, false, [], Option, Some, None, refl, sym, ap, ◌∙◌, subst, arith}
use Rattle.std.specs.Prelude.{nat_lt, length, ◌<◌, ◌-◌, ◌≤◌}
use Rattle.sa_base.specs.declared.context.Seen.{Seen}
use Rattle.sa_base.specs.declared.number.ActNo.{ActNo}
use Rattle.sa_base.specs.declared.number.ProcNo.{ProcNo}
use Rattle.sa_base.specs.declared.number.SpaceNo.{SpaceNo}
use Rattle.sa_base.specs.declared.number.ThreadNo.{ThreadNo}
use Rattle.sa_instr.specs.declared.limits.TheConstants.{MAX_PATIENCE}
use Rattle.sa_spaces.specs.Workload.{WorkloadView}
use Rattle.sa_lists.specs.ReadyView.{sought}
use Rattle.sa_abstract.specs.Calls.{Contexts}
use Rattle.sa_abstract.specs.Setting.{Setting}
use Rattle.sa_abstract.specs.declared.answer.Step.TheVariants as asked
use Rattle.sa_package_model.specs.Rules.{pair, owed, asks, is_idle, own_list}
use Rattle.sa_package_model.specs.Step.{stepped}
use Rattle.sa_package_model.specs.declared.context.Context.{Context}
use Rattle.sa_package_model.specs.declared.context.ContextState.TheVariants.{Hint, Look}
use Rattle.sa_package_model.specs.declared.package.Package.{Package}
use Rattle.sa_laws.specs.Life.{Life}
use Rattle.sa_laws.specs.Readings.{ready_of, Readings, demand_of, carried_by as runs_by}
use Rattle.sa_laws.specs.Turns.{CanHint}
use Rattle.sa_user_laws.specs.Scene.{event_begun_at}
use Rattle.sa_fast_laws.proofs.relation.EventEnds.{begun-holds}
use Rattle.sa_fast_laws.proofs.relation.ReadyOrders.{ready-alike}
use Rattle.sa_fast_laws.specs.FastFits.{Holds}
use Rattle.sa_fast_laws.specs.Stage.{stage_of, is_gone}
use Rattle.sa_fast_laws.proofs.lists.Takes.{pop_keeps}
use Rattle.sa_fast_laws.proofs.steps.Asks.{ask-legal}
use Rattle.sa_fast_laws.proofs.steps.Events.{IsLegal}
use Rattle.sa_fast_laws.proofs.steps.Hints.{can-raise, can-idle, can-lower}
use Rattle.sa_fast_laws.proofs.steps.Scenes.{IsScene, IsFastScene, list-own, lists-many}
use Rattle.sa_fast_laws.proofs.steps.Scenes as scene
use Rattle.sa_fast_laws.proofs.steps.Turns.{turn-legal}
use Rattle.sa_fast_laws.proofs.steps.LookMoves.{not_less, one_less, pop-move, idle-move, lower-is, lower-move, more-move}

module _ (set : Setting) (e : ℕ) (u : Package) (cs : Contexts Context) (w : WorkloadView) (r : Readings) (p : ProcNo) (a : ActNo) (life : Life)
    (seen : Seen) where
  abbrev s : SpaceNo
  s = set.space

  abbrev r0 : Readings
  r0 = event_begun_at w seen.event p r

  abbrev n : ℕ
  n = seen.event

  module _ (looks : ℕ) (y : IsFastScene set e u cs w r p a life (record { state = Look looks; sections = []; work = None }) seen) where
    abbrev c : Context
    c = record { state = Look looks; sections = []; work = None }

    i : IsScene set e u cs w r p a life (record { state = Look looks; sections = []; work = None }) seen
    i = y.scene

    k0 : Holds set.space (event_begun_at w seen.event p r) u cs
    k0 = begun-holds set.space r u cs w (record { number = seen.event; proc = p; records = [] }) i.holds

    carries : runs_by (event_begun_at w seen.event p r) life ≡ None
    carries = scene.carries set e u cs w r p a life c seen i

    inside : (own_list u seen.proc).0 < length u.shared.state.lists.lists
    inside = scene.list-inside set e u cs w r p a life c seen i

    stays_there : is_gone (stage_of (event_begun_at w seen.event p r) set.space a life) ≡ false
    stays_there = ap is_gone (k0.runs p a life i.on.runs i.on.is i.on.space).2

    patient : u.def.patience ≤ MAX_PATIENCE
    patient = subst (λ d. d.patience ≤ MAX_PATIENCE) (sym i.stands.made.def) i.stands.made.setting.def.patience

    -- A TAKE
    pop-legal : (l : ℕ) → sought u.shared.state.lists (own_list u seen.proc).0 ≡ Some l → IsLegal w set r p seen.event a cs (stepped u seen c)
    pop-legal l found =
        let own = list-own set e u cs w r p a life c seen y in
        let from_own : sought u.shared.state.lists p.0 ≡ Some l = ap (λ (q : ProcNo). sought u.shared.state.lists q.0) (sym own) ∙ found in
        turn-legal set e u cs w r p a life c seen y (pop-move set e u cs w r p a life seen looks i l found) (record {
          table = refl;
          keeps =
              pop_keeps set e u cs i.stands s r0 k0 a w n p life i.on.runs i.on.is looks i.on.mine l from_own (lists-many set e u cs w r p a life c seen y)
              (scene.inside set e u cs w r p a life c seen i)
              (ready-alike u (ready_of r set.space) y.lists) carries;
          alone = refl;
          free = record { free = λ bound. y.free refl };
          next = λ behind. tt;
          lists = record { many = y.lists.many; ranks = y.lists.ranks; numbers = y.lists.numbers };
        })

    -- AN IDLE RECORD
    idle-legal : sought u.shared.state.lists (own_list u seen.proc).0 ≡ None → is_idle u seen looks ≡ false
        → IsLegal w set r p seen.event a cs (stepped u seen c)
    idle-legal none calm =
        turn-legal set e u cs w r p a life c seen y (idle-move set e u cs w r p a life seen looks i none calm) (record {
          table = (
            refl,
            can-idle set e u cs i.stands s r0 k0 a (Look looks) i.on.mine life i.on.is stays_there refl refl w seen i.sees.demand
                (own_list u seen.proc).0 looks refl none inside (ready-alike u (ready_of r set.space) y.lists) carries i.own
                (scene.def set e u cs w r p a life c seen i) patient calm,
          );
          keeps = tt;
          alone = tt;
          free = record { free = λ bound. y.free refl };
          next = λ behind. tt;
          lists = record { many = y.lists.many; ranks = y.lists.ranks; numbers = y.lists.numbers };
        })

    -- THE HINT that the processor is idle
    lower-legal : sought u.shared.state.lists (own_list u seen.proc).0 ≡ None → is_idle u seen looks ≡ true
        → IsLegal w set r p seen.event a cs (stepped u seen c)
    lower-legal none idle =
        let lower =
        can-lower set e u cs i.stands s r0 k0 a (Look looks) i.on.mine life i.on.is stays_there refl refl w seen i.sees.demand
        (own_list u seen.proc).0 looks refl none inside (ready-alike u (ready_of r set.space) y.lists) carries i.own
        (scene.def set e u cs w r p a life c seen i) patient idle in
        let less : nat_lt (demand_of r set.space - 1) (demand_of r set.space) ≡ true =
        one_less (demand_of r set.space)
        (let some : demand_of r set.space - 1 + 1 ≡ demand_of r life.space = lower.number in let same = ap (demand_of r) i.on.space in omega arith) in
        subst (IsLegal w set r p seen.event a cs) (sym (lower-is set e u cs w r p a life seen looks i none idle)) (record {
          steps = tt;
          answer = ask-legal set e u cs w r p a life c seen y (lower-move set e u cs w r p a life seen looks i less) (record {
            table = (refl, sym i.on.space, subst (λ b. CanHint b w (event_begun_at w seen.event p r) life (demand_of r set.space - 1)) (sym less) lower);
            keeps = tt;
            alone = tt;
            free = record { free = λ bound. y.free refl };
            next = λ behind. tt;
          });
        })

    pub look-legal : IsLegal w set r p seen.event a cs (stepped u seen c)
    look-legal = by (sought u.shared.state.lists (own_list u seen.proc).0) refl (is_idle u seen looks) refl where
      by : (o : Option ℕ) → sought u.shared.state.lists (own_list u seen.proc).0 ≡ o → (b : Bool) → is_idle u seen looks ≡ b
          → IsLegal w set r p seen.event a cs (stepped u seen c)
      by (Some l) found b is = pop-legal l found
      by None none true is = lower-legal none is
      by None none false is = idle-legal none is

  -- THE HINT FOR MORE
  module _ (t : Option ThreadNo) (more : ℕ) (y : IsFastScene set e u cs w r p a life (record { state = Hint t; sections = []; work = None }) seen)
      (owes : owed u seen ≡ Some more) where
    abbrev d : Context
    d = record { state = Hint t; sections = []; work = None }

    j : IsScene set e u cs w r p a life (record { state = Hint t; sections = []; work = None }) seen
    j = y.scene

    k1 : Holds set.space (event_begun_at w seen.event p r) u cs
    k1 = begun-holds set.space r u cs w (record { number = seen.event; proc = p; records = [] }) j.holds

    pub more-legal : IsLegal w set r p seen.event a cs (asks (pair u (record { state = Hint t; sections = []; work = None })) (asked.More more))
    more-legal =
        let processors = scene.processors set e u cs w r p a life d seen j in
        let stays_here : is_gone (stage_of (event_begun_at w seen.event p r) set.space a life) ≡ false =
        ap is_gone (k1.runs p a life j.on.runs j.on.is j.on.space).2 in
        let raise =
        can-raise set e u cs j.stands s r0 k1 a (Hint t) j.on.mine life j.on.is stays_here refl refl w seen j.sees.demand more processors owes in
        let not_lower : nat_lt (demand_of r set.space + more) (demand_of r set.space) ≡ false = not_less (demand_of r set.space) more in
        record {
          steps = tt;
          answer = ask-legal set e u cs w r p a life d seen y (more-move set e u cs w r p a life seen t more j) (record {
            table = (refl, sym j.on.space, subst (λ b. CanHint b w (event_begun_at w seen.event p r) life (demand_of r set.space + more)) (sym not_lower) raise);
            keeps = tt;
            alone = tt;
            free = record { free = λ bound. absurd (let no_bound = sym not_lower ∙ bound in cc) };
            next = λ behind. tt;
          });
        }
