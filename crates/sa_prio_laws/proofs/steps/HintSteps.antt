-- The hint for more is legal under the rules of priorities, and so is the return of activations.
use Rattle.std.proofs.Common.{◌≡◌, ℕ, ◌+◌, ◌≤◌, nat_lt, true, false, not, ◌||◌, ◌&&◌, List, [], ◌∷◌, length, map, Option, Some, None, is_some, refl, sym, ap, ◌∙◌, subst, arith}
use Rattle.std.specs.List.{list_any}
use Rattle.sa_base.specs.declared.context.Seen.{Seen}
use Rattle.sa_base.specs.declared.limits.TheConstants.{BULK_RETURN}
use Rattle.sa_base.specs.declared.number.ActNo.{ActNo}
use Rattle.sa_base.specs.declared.number.ProcNo.{ProcNo}
use Rattle.sa_base.specs.declared.number.ThreadNo.{ThreadNo}
use Rattle.sa_base.specs.declared.record.Record.{Record}
use Rattle.sa_base.specs.declared.record.Record.TheVariants as records
use Rattle.sa_spaces.specs.Workload.{WorkloadView}
use Rattle.sa_abstract.specs.Calls.{Contexts}
use Rattle.sa_abstract.specs.Setting.{Setting}
use Rattle.sa_abstract.specs.declared.answer.Step.TheVariants as asked
use Rattle.sa_package_model.specs.Context.{has_bulk, settled_to, stands_inside}
use Rattle.sa_package_model.specs.Rules.{pair, owed, asks}
use Rattle.sa_package_model.specs.declared.context.Context.{Context}
use Rattle.sa_package_model.specs.declared.context.ContextState.TheVariants.{Hint, Return}
use Rattle.sa_laws.specs.Life.{Life}
use Rattle.sa_laws.specs.Readings.{Readings, demand_of, taken_of}
use Rattle.sa_laws.specs.Turns.{is_of_locks}
use Rattle.sa_laws.proofs.Records.{alone-plain}
use Rattle.sa_user_laws.specs.Scene.{event_begun_at}
use Rattle.sa_user_laws.specs.Steps.{IsLegalStep}
use Rattle.sa_fast_laws.proofs.relation.EventEnds.{begun-holds}
use Rattle.sa_fast_laws.specs.Stage.{stage_of, is_gone}
use Rattle.sa_fast_laws.specs.FastFits.{Holds}
use Rattle.sa_fast_laws.proofs.steps.GivingMoves.{gives-plain, gives-state, many-taken, give-move}
use Rattle.sa_fast_laws.proofs.steps.Hints.{nothing, can-raise}
use Rattle.sa_fast_laws.proofs.steps.LookMoves.{not_less, more-move}
use Rattle.sa_fast_laws.proofs.steps.Scenes.{IsScene}
use Rattle.sa_fast_laws.proofs.steps.Scenes as scene
use Rattle.sa_ranks.specs.Rules.{prio_threads}
use Rattle.sa_ranks.specs.Steps.{CanHint}
use Rattle.sa_prio_model.specs.Prio.{Prio, with_on, has_pair as prio_pair}
use Rattle.sa_prio_model.specs.Stands.{bases}
use Rattle.sa_prio_model.specs.Step.{prio_calls, going}
use Rattle.sa_prio_model.specs.declared.context.PrioContext.{PrioContext}
use Rattle.sa_prio_laws.specs.PrioFits.{prio_fits}
use Rattle.sa_prio_laws.proofs.notices.Answers.{out-or}
use Rattle.sa_prio_laws.proofs.steps.AskMoves.{asked-legal}
use Rattle.sa_prio_laws.proofs.steps.CodeSteps.{keeps-with}
use Rattle.sa_prio_laws.proofs.steps.Moves.{base-scene}
use Rattle.sa_prio_laws.proofs.steps.Scenes.{IsPrioScene}

module _ (set : Setting) (e : ℕ) (v : Prio) (cs : Contexts PrioContext) (w : WorkloadView) (r : Readings) (p : ProcNo) (a : ActNo) (life : Life)
    (seen : Seen) where
  abbrev r0 : Readings
  r0 = event_begun_at w seen.event p r

  -- THE HINT FOR MORE
  module _ (t : Option ThreadNo) (more : ℕ)
      (i : IsPrioScene set e v cs w r p a life (record { base = record { state = Hint t; sections = []; work = None }; urge = false }) seen)
      (due : owed v.base seen ≡ Some more) where
    abbrev d : Context
    d = record { state = Hint t; sections = []; work = None }

    base : IsScene set e v.base (bases cs) w r p a life (record { state = Hint t; sections = []; work = None }) seen
    base = base-scene set e v cs w r p a life d seen i

    k1 : Holds set.space (event_begun_at w seen.event p r) v.base (bases cs)
    k1 = begun-holds set.space r v.base (bases cs) w (record { number = seen.event; proc = p; records = [] }) i.holds

    stays : is_gone (stage_of (event_begun_at w seen.event p r) set.space a life) ≡ false
    stays = ap is_gone (k1.runs p a life i.on.runs i.on.is i.on.space).2

    pub more-legal : IsLegalStep prio_calls prio_threads prio_fits w set r p seen.event a cs
        (going v seen (Hint t) (asks (pair v.base (record { state = Hint t; sections = []; work = None })) (asked.More more)))
    more-legal =
        let processors = scene.processors set e v.base (bases cs) w r p a life d seen base in
        let x : Record = records.Want set.space (demand_of r set.space + more) in
        let raise = can-raise set e v.base (bases cs) i.stands.base set.space r0 k1 a
        (Hint t) base.on.mine life i.on.is stays refl refl w seen i.sees.demand more processors due in
        let not_lower : nat_lt (demand_of r set.space + more) (demand_of r set.space) ≡ false = not_less (demand_of r set.space) more in
        let m = more-move set e v.base (bases cs) w r p a life seen t more base in
        record {
          steps = tt;
          answer = asked-legal set e v cs w r p a life (Hint t) seen i (asked.More more) x [] m (record {
            entry = refl;
            ruled = record {
              step = refl;
              table = (refl, sym i.on.space, subst (λ b. CanHint b w (event_begun_at w seen.event p r) life (demand_of r set.space + more)) (sym not_lower) raise);
              keeps = keeps-with w r0 p life x tt m.back;
              alone = tt;
              free = record { free = λ bound. absurd (let no_bound = sym not_lower ∙ bound in cc) };
              unurged = record { unurged = λ bound. absurd (let no_bound = sym not_lower ∙ bound in cc) };
              next = λ behind. tt;
            };
            unmoved = refl;
            urged = λ last later.
                let b = stands_inside (settled_to t false (is_some (owed v.base later)) (has_bulk later)) in
                let there = prio_pair (with_on v seen.proc t) later in
                ap (λ z. b || (not z && there)) not_lower ∙ sym (out-or b there);
          });
        }

  -- ALL THAT WAS TAKEN is given back
  module _ (i : IsPrioScene set e v cs w r p a life (record { base = record { state = Return; sections = []; work = None }; urge = false }) seen)
      (bulk : has_bulk seen ≡ true) where
    abbrev c : Context
    c = record { state = Return; sections = []; work = None }

    scene2 : IsScene set e v.base (bases cs) w r p a life (record { state = Return; sections = []; work = None }) seen
    scene2 = base-scene set e v cs w r p a life c seen i

    k2 : Holds set.space (event_begun_at w seen.event p r) v.base (bases cs)
    k2 = begun-holds set.space r v.base (bases cs) w (record { number = seen.event; proc = p; records = [] }) i.holds

    stays_here : is_gone (stage_of (event_begun_at w seen.event p r) set.space a life) ≡ false
    stays_here = ap is_gone (k2.runs p a life i.on.runs i.on.is i.on.space).2

    many : BULK_RETURN ≤ length (taken_of r life.space)
    many = many-taken set e v.base (bases cs) w r p a life seen scene2 bulk

    pub give-legal : IsLegalStep prio_calls prio_threads prio_fits w set r p seen.event a cs
        (going v seen Return (asks (pair v.base (record { state = Return; sections = []; work = None })) asked.GiveBack))
    give-legal = by (taken_of r set.space) refl where
      by : (bs : List ActNo) → taken_of r set.space ≡ bs → IsLegalStep prio_calls prio_threads prio_fits w set r p seen.event a cs
          (going v seen Return (asks (pair v.base (record { state = Return; sections = []; work = None })) asked.GiveBack))
      by [] at =
          absurd
          (let zero_is : length (taken_of r life.space) ≡ 0 = ap (λ o. length (taken_of r o)) i.on.space ∙ ap length at in let more = many in omega arith)
      by (b ∷ bs) at =
          let x : Record = records.GiveBack b in
          let m = give-move set e v.base (bases cs) w r p a life seen scene2 b bs at in
          record {
            steps = tt;
            answer = asked-legal set e v cs w r p a life Return seen i asked.GiveBack x (map records.GiveBack bs) m (record {
              entry = refl;
              ruled = record {
                step = refl;
                table = record {
                  carries = scene.carries set e v.base (bases cs) w r p a life c seen scene2;
                  nothing =
                      nothing set e v.base
                      (bases cs) i.stands.base set.space r0 k2 a Return scene2.on.mine life i.on.is stays_here refl refl w seen i.sees.demand;
                  many = many;
                  all = ap (map records.GiveBack) (sym at ∙ ap (taken_of r) (sym i.on.space));
                };
                keeps = keeps-with w r0 p life x tt m.back;
                alone = alone-plain (list_any is_of_locks (map records.GiveBack bs)) (map records.GiveBack bs) (gives-plain bs).1;
                free = record { free = λ bound. absurd cc };
                unurged = record { unurged = λ bound. absurd cc };
                next = λ behind. tt;
              };
              unmoved = (gives-state w seen.event p (b ∷ bs) r0).0;
              urged =
                  λ last later. sym (out-or (stands_inside (settled_to None false (is_some (owed v.base later)) (has_bulk later)))
                  (prio_pair (with_on v seen.proc None) later));
            });
          }
