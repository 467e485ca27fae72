-- FastThreads' looks at the one list are legal under the rules of priorities: a take for a pop, an idle record, or the hint
-- that the processor is idle; and the hint for more.
use Rattle.std.proofs.Common.{◌≡◌, ℕ, ◌+◌, ◌-◌, ◌≤◌, ◌<◌, nat_lt, Bool, true, false, not, ◌&&◌, [], length, Option, Some, None, refl, sym, ap, ◌∙◌, subst, arith}
use Rattle.sa_base.specs.declared.context.Seen.{Seen}
use Rattle.sa_base.specs.declared.number.ActNo.{ActNo}
use Rattle.sa_base.specs.declared.number.ProcNo.{ProcNo}
use Rattle.sa_base.specs.declared.record.Record.{Record}
use Rattle.sa_base.specs.declared.record.Record.TheVariants as records
use Rattle.sa_instr.specs.declared.limits.TheConstants.{MAX_PATIENCE}
use Rattle.sa_spaces.specs.Workload.{WorkloadView}
use Rattle.sa_lists.proofs.Rounds.{sought-first}
use Rattle.sa_lists.specs.ReadyView.{processor, sought}
use Rattle.sa_abstract.specs.Calls.{Contexts}
use Rattle.sa_abstract.specs.Setting.{Setting}
use Rattle.sa_abstract.specs.declared.answer.Step.TheVariants as asked
use Rattle.sa_package_model.specs.Rules.{is_idle, own_list}
use Rattle.sa_package_model.specs.declared.context.Context.{Context}
use Rattle.sa_package_model.specs.declared.context.ContextState.TheVariants.{Look}
use Rattle.sa_laws.specs.Life.{Life}
use Rattle.sa_laws.specs.Readings.{Readings, HasNothing, demand_of, has_ready, ready_of, carried_by as runs_by}
use Rattle.sa_user_laws.specs.Scene.{event_begun_at}
use Rattle.sa_user_laws.specs.Steps.{IsLegalStep}
use Rattle.sa_fast_laws.specs.FastFits.{Holds}
use Rattle.sa_fast_laws.proofs.relation.EventEnds.{begun-holds}
use Rattle.sa_fast_laws.specs.Stage.{stage_of, is_gone}
use Rattle.sa_fast_laws.proofs.lists.LockedLists.{AreReadyAlike, opens}
use Rattle.sa_fast_laws.proofs.steps.Hints.{nothing, can-idle, can-lower}
use Rattle.sa_fast_laws.proofs.steps.LookMoves.{one_less, pop-move, idle-move, lower-is, lower-move}
use Rattle.sa_fast_laws.proofs.steps.Scenes.{IsScene}
use Rattle.sa_fast_laws.proofs.steps.Scenes as scene
use Rattle.sa_ranks.specs.Locks.{TakesFor}
use Rattle.sa_ranks.specs.Rules.{prio_threads}
use Rattle.sa_ranks.specs.Steps.{CanHint, the_list}
use Rattle.sa_prio_model.specs.Prio.{Prio, with_on, has_pair as prio_pair}
use Rattle.sa_prio_model.specs.Stands.{bases}
use Rattle.sa_prio_model.specs.Step.{prio_calls, goes, going}
use Rattle.sa_prio_model.specs.declared.context.PrioContext.{PrioContext}
use Rattle.sa_prio_laws.specs.PrioFits.{prio_fits}
use Rattle.sa_prio_laws.proofs.steps.AskMoves.{asked-legal}
use Rattle.sa_prio_laws.proofs.steps.CodeSteps.{keeps-with}
use Rattle.sa_prio_laws.proofs.steps.Moves.{base-scene, move-legal}
use Rattle.sa_prio_laws.proofs.relation.OneList.{ranked-alike}
use Rattle.sa_prio_laws.proofs.steps.Scenes.{IsPrioScene}
use Rattle.sa_prio_laws.proofs.steps.Unbound.{IsUnbound, is-free, is-unurged}

module _ (set : Setting) (e : ℕ) (v : Prio) (cs : Contexts PrioContext) (w : WorkloadView) (r : Readings) (p : ProcNo) (a : ActNo) (life : Life)
    (seen : Seen) where
  abbrev r0 : Readings
  r0 = event_begun_at w seen.event p r

  module _ (looks : ℕ)
      (i : IsPrioScene set e v cs w r p a life (record { base = record { state = Look looks; sections = []; work = None }; urge = false }) seen)
      (unbound : IsUnbound w r life) where
    abbrev c : Context
    c = record { state = Look looks; sections = []; work = None }

    base : IsScene set e v.base (bases cs) w r p a life (record { state = Look looks; sections = []; work = None }) seen
    base = base-scene set e v cs w r p a life c seen i

    k0 : Holds set.space (event_begun_at w seen.event p r) v.base (bases cs)
    k0 = begun-holds set.space r v.base (bases cs) w (record { number = seen.event; proc = p; records = [] }) i.holds

    carries : runs_by (event_begun_at w seen.event p r) life ≡ None
    carries = scene.carries set e v.base (bases cs) w r p a life c seen base

    inside : (own_list v.base seen.proc).0 < length v.base.shared.state.lists.lists
    inside = scene.list-inside set e v.base (bases cs) w r p a life c seen base

    stays : is_gone (stage_of (event_begun_at w seen.event p r) set.space a life) ≡ false
    stays = ap is_gone (k0.runs p a life i.on.runs i.on.is i.on.space).2

    patient : v.base.def.patience ≤ MAX_PATIENCE
    patient = subst (λ d. d.patience ≤ MAX_PATIENCE) (sym i.stands.base.made.def) i.stands.base.made.setting.def.patience

    alike : AreReadyAlike set.space (event_begun_at w seen.event p r) v.base
    alike = ranked-alike v.base (ready_of r set.space) i.ranked

    owes : HasNothing (event_begun_at w seen.event p r) life
    owes = nothing set e v.base (bases cs) i.stands.base set.space r0 k0 a (Look looks) base.on.mine life i.on.is stays refl refl w seen i.sees.demand

    -- A TAKE for a pop: what is found is the one list
    pop-legal : (l : ℕ) → sought v.base.shared.state.lists (own_list v.base seen.proc).0 ≡ Some l
        → IsLegalStep prio_calls prio_threads prio_fits w set r p seen.event a cs (goes v seen (record { state = Look looks; sections = []; work = None }))
    pop-legal l found =
        let m = pop-move set e v.base (bases cs) w r p a life seen looks base l found in
        let first = sought-first v.base.shared.state.lists (own_list v.base seen.proc).0 l inside found in
        let is_first : processor l ≡ the_list =
        ap processor (let one = i.ranked.one in let below = first.inside in let zero_is : l ≡ 0 = omega arith in zero_is) in
        let open_it = opens set e v.base (bases cs) i.stands.base set.space r0 k0 alike (processor l) first.here in
        let x : Record = records.Take set.space (processor l) None in
        move-legal set e v cs w r p a life c seen i x [] _ _ m (record {
          ruled = record {
            step = refl;
            table = refl;
            keeps = keeps-with w r0 p life x (record {
              space = sym i.on.space;
              list = is_first;
              unlocked = λ locked. open_it.unlocked (record {
                act = locked.act;
                life = locked.life;
                is = locked.is;
                has = record {
                  space = locked.has.space;
                  lock = locked.has.lock;
                  among = locked.has.among;
                  list = locked.has.list ∙ sym is_first;
                };
              });
              locks = owes.locks;
              cont = owes.cont;
              thread = sym carries;
              target = subst (λ b. TakesFor b r0 life) (sym owes.hand) (
                carries,
                ap (λ s. has_ready r0 s the_list) i.on.space ∙ ap (has_ready r0 set.space) (sym is_first) ∙ open_it.ready,
              );
            }) m.back;
            alone = refl;
            free = is-free w r life x unbound;
            unurged = is-unurged w r life x unbound;
            next = λ behind. tt;
          };
          ranked = record { one = i.ranked.one; many = i.ranked.many; there = i.ranked.there; order = i.ranked.order; ranks = i.ranked.ranks };
          settled = λ last state out. absurd cc;
        })

    -- AN IDLE RECORD
    idle-legal : sought v.base.shared.state.lists (own_list v.base seen.proc).0 ≡ None → is_idle v.base seen looks ≡ false
        → IsLegalStep prio_calls prio_threads prio_fits w set r p seen.event a cs (goes v seen (record { state = Look looks; sections = []; work = None }))
    idle-legal none calm =
        let m = idle-move set e v.base (bases cs) w r p a life seen looks base none calm in
        let row = can-idle set e v.base (bases cs) i.stands.base set.space r0 k0 a (Look looks) base.on.mine life i.on.is stays refl refl w seen i.sees.demand
        (own_list v.base seen.proc).0 looks refl none inside alike carries base.own (scene.def set e v.base (bases cs) w r p a life c seen base) patient calm in
        move-legal set e v cs w r p a life c seen i records.Idle [] _ _ m (record {
          ruled = record {
            step = refl;
            table = (refl, record { finds = record { carries = carries; none = row.finds.none.locked the_list }; no_hint_is_due = row.no_hint_is_due });
            keeps = keeps-with w r0 p life records.Idle tt m.back;
            alone = tt;
            free = is-free w r life records.Idle unbound;
            unurged = is-unurged w r life records.Idle unbound;
            next = λ behind. tt;
          };
          ranked = i.ranked;
          settled = λ last state out. refl;
        })

    -- THE HINT that the processor is idle
    lower-legal : sought v.base.shared.state.lists (own_list v.base seen.proc).0 ≡ None → is_idle v.base seen looks ≡ true
        → IsLegalStep prio_calls prio_threads prio_fits w set r p seen.event a cs (goes v seen (record { state = Look looks; sections = []; work = None }))
    lower-legal none idle =
        let n = demand_of r set.space - 1 in
        let x : Record = records.Want set.space (demand_of r set.space - 1) in
        let row = can-lower set e v.base (bases cs) i.stands.base set.space r0 k0 a (Look looks) base.on.mine life i.on.is stays refl refl w seen i.sees.demand
        (own_list v.base seen.proc).0 looks refl none inside alike carries base.own (scene.def set e v.base (bases cs) w r p a life c seen base) patient idle in
        let less : nat_lt (demand_of r set.space - 1) (demand_of r set.space) ≡ true =
        one_less (demand_of r set.space)
        (let some : demand_of r set.space - 1 + 1 ≡ demand_of r life.space = row.number in let same = ap (demand_of r) i.on.space in omega arith) in
        let m = lower-move set e v.base (bases cs) w r p a life seen looks base less in
        subst (λ st. IsLegalStep prio_calls prio_threads prio_fits w set r p seen.event a cs (going v seen (Look looks) st))
        (sym (lower-is set e v.base (bases cs) w r p a life seen looks base none idle)) (record {
          steps = tt;
          answer = asked-legal set e v cs w r p a life (Look looks) seen i asked.Idle x [] m (record {
            entry = refl;
            ruled = record {
              step = refl;
              table = (
                refl,
                sym i.on.space,
                subst (λ b. CanHint b w (event_begun_at w seen.event p r) life (demand_of r set.space - 1)) (sym less) (record {
                  finds = record { carries = carries; none = row.finds.none.locked the_list };
                  patient = row.patient;
                  above = row.above;
                  number = row.number;
                }),
              );
              keeps = keeps-with w r0 p life x tt m.back;
              alone = tt;
              free = is-free w r life x unbound;
              unurged = is-unurged w r life x unbound;
              next = λ behind. tt;
            };
            unmoved = refl;
            urged = λ last later. ap (λ b. not b && prio_pair (with_on v seen.proc None) later) less;
          });
        })

    pub look-legal : IsLegalStep prio_calls prio_threads prio_fits w set r p seen.event a cs
        (goes v seen (record { state = Look looks; sections = []; work = None }))
    look-legal = by (sought v.base.shared.state.lists (own_list v.base seen.proc).0) refl (is_idle v.base seen looks) refl where
      by : (o : Option ℕ) → sought v.base.shared.state.lists (own_list v.base seen.proc).0 ≡ o → (b : Bool) → is_idle v.base seen looks ≡ b
          → IsLegalStep prio_calls prio_threads prio_fits w set r p seen.event a cs (goes v seen (record { state = Look looks; sections = []; work = None }))
      by (Some l) found b is = pop-legal l found
      by None none true is = lower-legal none is
      by None none false is = idle-legal none is
