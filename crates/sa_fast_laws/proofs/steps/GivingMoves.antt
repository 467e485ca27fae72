-- Activations are given back; and a context whose hint or return is no longer owed goes on as it settles again.
use Rattle.std.proofs.Common.{◌≡◌, ℕ, true, false, List, [], ◌∷◌, map, Option, Some, None, is_some, nat_le, refl, sym, ap, ◌∙◌, subst, inl, inr, arith, zero, suc, ◌≢◌, Contains, IsSome}
use Rattle.std.specs.Prelude.{length, ◌≤◌}
use Rattle.std.proofs.lemmas.Bool.{cases_eq, leb-true}
use Rattle.std.proofs.lemmas.Option.{none-some}
use Rattle.std.specs.List.{list_any}
use Rattle.sa_base.specs.declared.context.Seen.{Seen}
use Rattle.sa_base.specs.declared.limits.TheConstants.{BULK_RETURN}
use Rattle.sa_base.specs.declared.number.ActNo.{ActNo}
use Rattle.sa_base.specs.declared.number.ProcNo.{ProcNo}
use Rattle.sa_base.specs.declared.number.SpaceNo.{SpaceNo}
use Rattle.sa_base.specs.declared.number.ThreadNo.{ThreadNo}
use Rattle.sa_base.specs.declared.record.Record.TheVariants as records
use Rattle.sa_lemmas.proofs.FunctionUpdates.{put-same, put-other}
use Rattle.sa_lemmas.specs.Function.{put}
use Rattle.sa_spaces.specs.Workload.{WorkloadView}
use Rattle.sa_abstract.specs.Calls.{Contexts}
use Rattle.sa_abstract.specs.Setting.{Setting}
use Rattle.sa_abstract.specs.declared.answer.Step.TheVariants as asked
use Rattle.sa_package_model.proofs.BeginRule.{answers}
use Rattle.sa_package_model.proofs.Views.{settled_between}
use Rattle.sa_package_model.specs.Context.{carried_by, section_in, settled_to, has_bulk}
use Rattle.sa_package_model.specs.Rules.{owed, settled}
use Rattle.sa_package_model.specs.Stands.{IsStanding}
use Rattle.sa_package_model.specs.Step.{answered}
use Rattle.sa_package_model.specs.declared.context.Context.{Context}
use Rattle.sa_package_model.specs.declared.context.ContextState.{ContextState}
use Rattle.sa_package_model.specs.declared.context.ContextState.TheVariants.{Return}
use Rattle.sa_package_model.specs.declared.package.Package.{Package}
use Rattle.sa_laws.specs.History.{after_records, is_up}
use Rattle.sa_laws.specs.Life.{Life}
use Rattle.sa_laws.specs.Readings.{Readings, life_of, taken_of, untold_of, stopped_thread}
use Rattle.sa_laws.specs.Record.{after_record}
use Rattle.sa_laws.specs.State.{runner_of, space_at}
use Rattle.sa_laws.specs.Turns.{is_of_locks}
use Rattle.sa_user_laws.specs.Scene.{event_begun_at}
use Rattle.sa_fast_laws.proofs.relation.EventEnds.{begun-holds}
use Rattle.sa_fast_laws.proofs.relation.InsideMarks.{settled-copy, settled-left, settled-looks}
use Rattle.sa_fast_laws.proofs.relation.NoteLists.{notes-same}
use Rattle.sa_fast_laws.proofs.relation.Restated.{restated}
use Rattle.sa_fast_laws.proofs.relation.SettledMarks.{settled-marked, settled-yield}
use Rattle.sa_fast_laws.specs.FastFits.{Holds}
use Rattle.sa_fast_laws.specs.Stage.{is_gone}
use Rattle.sa_fast_laws.specs.View.{in_copy, at_yield, looks_of}
use Rattle.sa_fast_laws.proofs.steps.Asks.{IsAsking}
use Rattle.sa_fast_laws.proofs.steps.Scenes.{IsScene}
use Rattle.sa_fast_laws.proofs.steps.Scenes as scene

-- A LIFE IS GIVEN BACK that has no context any more
module _ (s : SpaceNo) (r : Readings) (u : Package) (cs : Contexts Context) (k : Holds s r u cs) (w : WorkloadView) (number : ℕ) (p : ProcNo)
    (b : ActNo) (none : cs b.0 ≡ None) where
  abbrev q : Readings
  q = after_record w number p r (records.GiveBack b)

  apart : (x : ActNo) (d : Context) → cs x.0 ≡ Some d → x.0 ≢ b.0
  apart x d at same = none-some d (sym none ∙ ap cs (sym same) ∙ at)

  pub give-there : (x : ActNo) (d : Context) → cs x.0 ≡ Some d → life_of q x ≡ life_of r x
  give-there x d at = put-other r.lives b.0 x.0 None (apart x d at)

  back_to : (x : ActNo) (l : Life) → life_of q x ≡ Some l → life_of r x ≡ Some l
  back_to x l at = elim (cases_eq x.0 b.0) [
    | inl e ↦ absurd (none-some l (sym (put-same r.lives b.0 None) ∙ ap (put r.lives b.0 None) (sym e) ∙ at))
    | inr ne ↦ sym (put-other r.lives b.0 x.0 None ne) ∙ at
  ]

  pub give-holds : Holds s q u cs
  give-holds = record {
    space = k.space;
    load =
        let sums = notes-same r q (untold_of r s) (λ x has. by x (cs x.0) refl (k.noted x (inl has))) in
        let was = k.load in omega arith;
    lives = λ x d at. let its = k.lives x d at in (its.0, give-there x d at ∙ its.1, its.2);
    others = λ x l at of no_ctx. k.others x l (back_to x l at) of no_ctx;
    noted = k.noted;
    single = k.single;
    runs = λ y x l at its of. k.runs y x l at (back_to x l its) of;
  } where
    by : (x : ActNo) (o : Option Context) → cs x.0 ≡ o → IsSome (cs x.0) → stopped_thread (life_of q x) ≡ stopped_thread (life_of r x)
    by x None at some = absurd (let no_such = subst IsSome at some in cc)
    by x (Some d) at some = ap stopped_thread (give-there x d at)

pub gives-hold : (s : SpaceNo) (r : Readings) (u : Package) (cs : Contexts Context) (w : WorkloadView) (number : ℕ) (p : ProcNo) (bs : List ActNo)
    → ((b : ActNo) → Contains bs b → cs b.0 ≡ None)
    → Holds s r u cs → Holds s (after_records w number p r (map records.GiveBack bs)) u cs
gives-hold s r u cs w number p [] none k = k
gives-hold s r u cs w number p (b ∷ bs) none k =
    gives-hold s (after_record w number p r (records.GiveBack b)) u cs w number p bs (λ x has. none x (let inside = has.1 in (suc has.0, omega arith, has.2)))
    (give-holds s r u cs k w number p b (none b (zero, omega arith, refl)))

pub gives-there : (s : SpaceNo) (r : Readings) (u : Package) (cs : Contexts Context) (w : WorkloadView) (number : ℕ) (p : ProcNo) (bs : List ActNo)
    → ((b : ActNo) → Contains bs b → cs b.0 ≡ None)
    → Holds s r u cs → (x : ActNo) (d : Context) → cs x.0 ≡ Some d → life_of (after_records w number p r (map records.GiveBack bs)) x ≡ life_of r x
gives-there s r u cs w number p [] none k x d at = refl
gives-there s r u cs w number p (b ∷ bs) none k x d at =
    gives-there s (after_record w number p r (records.GiveBack b)) u cs w number p bs (λ y has. none y (let inside = has.1 in (suc has.0, omega arith, has.2)))
    (give-holds s r u cs k w number p b (none b (zero, omega arith, refl))) x d at
    ∙ give-there s r u cs k w number p b (none b (zero, omega arith, refl)) x d at

pub gives-state : (w : WorkloadView) (number : ℕ) (p : ProcNo) (bs : List ActNo) (r : Readings)
    → ((after_records w number p r (map records.GiveBack bs)).state ≡ r.state) ×
    ((after_records w number p r (map records.GiveBack bs)).running ≡ r.running)
gives-state w number p [] r = (refl, refl)
gives-state w number p (b ∷ bs) r = gives-state w number p bs (after_record w number p r (records.GiveBack b))

pub gives-lists : (w : WorkloadView) (number : ℕ) (p : ProcNo) (bs : List ActNo) (r : Readings)
    → ((after_records w number p r (map records.GiveBack bs)).ready ≡ r.ready) × ((after_records w number p r (map records.GiveBack bs)).untold ≡ r.untold)
gives-lists w number p [] r = (refl, refl)
gives-lists w number p (b ∷ bs) r = gives-lists w number p bs (after_record w number p r (records.GiveBack b))

pub gives-plain : (bs : List ActNo) → (list_any is_up (map records.GiveBack bs) ≡ false) × (list_any is_of_locks (map records.GiveBack bs) ≡ false)
gives-plain [] = (refl, refl)
gives-plain (b ∷ bs) = gives-plain bs

module _ (set : Setting) (e : ℕ) (u : Package) (cs : Contexts Context) (w : WorkloadView) (r : Readings) (p : ProcNo) (a : ActNo) (life : Life)
    (seen : Seen) where
  abbrev r0 : Readings
  r0 = event_begun_at w seen.event p r

  abbrev n : ℕ
  n = seen.event

  -- ALL THAT WAS TAKEN is given back
  module _ (i : IsScene set e u cs w r p a life (record { state = Return; sections = []; work = None }) seen) where
    abbrev c : Context
    c = record { state = Return; sections = []; work = None }

    k0 : Holds set.space (event_begun_at w seen.event p r) u cs
    k0 = begun-holds set.space r u cs w (record { number = seen.event; proc = p; records = [] }) i.holds

    pub many-taken : has_bulk seen ≡ true → BULK_RETURN ≤ length (taken_of r life.space)
    many-taken bulk =
        leb-true BULK_RETURN (length (taken_of r life.space))
        (ap (λ o. nat_le BULK_RETURN (length (taken_of r o))) i.on.space ∙ ap (nat_le BULK_RETURN) (sym i.sees.taken) ∙ bulk)

    pub give-move : (b : ActNo) (bs : List ActNo) → taken_of r set.space ≡ b ∷ bs
        → IsAsking set e u cs w r p a life (record { state = Return; sections = []; work = None }) seen asked.GiveBack (records.GiveBack b)
        (map records.GiveBack bs)
    give-move b bs at = record {
      records = ap (map records.GiveBack) at;
      first = refl;
      no_up = (gives-plain bs).0;
      back = sym i.own.back;
      running = (gives-state w n p (b ∷ bs) r0).1;
      ready = (gives-lists w n p (b ∷ bs) r0).0;
      untold = (gives-lists w n p (b ∷ bs) r0).1;
      elsewhere = λ z. ap (λ y. space_at y z) (gives-state w n p (b ∷ bs) r0).0;
      lives = λ x d here. gives-there set.space r0 u cs w n p (b ∷ bs) given k0 x d here;
      holds = λ later.
          let between = settled_between None false (is_some (owed u later)) (has_bulk later) in
          restated set.space (after_records w n p r0 (map records.GiveBack (b ∷ bs))) u cs (gives-hold set.space r0 u cs w n p (b ∷ bs) given k0) a Return
          (settled_to None false (is_some (owed u later)) (has_bulk later)) [] None i.on.mine refl refl between.section
          (settled-copy None false (is_some (owed u later)) (has_bulk later)) between.carries;
      marks = λ ev last later z.
          let between = settled_between None false (is_some (owed u later)) (has_bulk later) in
          settled-marked set e u (put cs a.0 (Some (answered u later c).1)) z.stands set.space last z.holds a None later [] None life z.there
          (ap is_gone z.stage) w r ev (records.GiveBack b)
          z.mine z.demand z.taken (scene.processors set e u cs w r p a life c seen i) (z.carries ∙ between.carries) refl refl (λ some. absurd cc);
    } where
      given : (x : ActNo) → Contains (b ∷ bs) x → cs x.0 ≡ None
      given x has = i.given x (subst (λ xs. Contains xs x) (sym at) has)

  -- A CONTEXT SETTLES AGAIN where nothing is owed any more
  module _ (old : ContextState) (t : Option ThreadNo) (i : IsScene set e u cs w r p a life (record { state = old; sections = []; work = None }) seen)
      (out : section_in old ≡ None) (no_copy : in_copy old ≡ false) (carries : carried_by old ≡ t) (yields : at_yield old ≡ false)
      (looks : looks_of old ≡ 0)
      -- as it settles
      (settles : (answered u seen (record { state = old; sections = []; work = None })).1 ≡ settled u seen
      (record { state = old; sections = []; work = None }) t) where
    abbrev was : Context
    was = record { state = old; sections = []; work = None }

    abbrev state : ContextState
    state = settled_to t false (is_some (owed u seen)) (has_bulk seen)

    abbrev new : Context
    new = record { state = settled_to t false (is_some (owed u seen)) (has_bulk seen); sections = []; work = None }

    pub settled-scene : IsScene set e u
        (put cs a.0 (Some (record { state = settled_to t false (is_some (owed u seen)) (has_bulk seen); sections = []; work = None }))) w r p a life
        (record { state = settled_to t false (is_some (owed u seen)) (has_bulk seen); sections = []; work = None }) seen
    settled-scene =
        let between = settled_between t false (is_some (owed u seen)) (has_bulk seen) in
        record {
          of = i.of;
          moment = i.moment;
          sizes = i.sizes;
          stands = subst (λ x. IsStanding set e u (put cs a.0 (Some x))) settles (answers set e u cs i.stands a.0 was i.on.mine seen);
          holds =
              restated set.space r u cs i.holds a old state [] None i.on.mine out no_copy between.section
              (settled-copy t false (is_some (owed u seen)) (has_bulk seen)) (between.carries ∙ sym carries);
          runner = i.runner ∙ ap (runner_of set.space) (carries ∙ sym between.carries);
          own = record {
            back = i.own.back ∙ yields ∙ sym (settled-yield t false (is_some (owed u seen)) (has_bulk seen));
            scans = i.own.scans ∙ looks ∙ sym (settled-looks t false (is_some (owed u seen)) (has_bulk seen));
            left = settled-left t false (is_some (owed u seen)) (has_bulk seen);
            lone = refl;
          };
          on = record { runs = i.on.runs; is = i.on.is; space = i.on.space; proc = i.on.proc; owner = i.on.owner; mine = put-same cs a.0 (Some new) };
          sees = i.sees;
          given = λ x has. elim (cases_eq x.0 a.0) [
            | inl e ↦ absurd (none-some was (sym (i.given x has) ∙ ap cs e ∙ i.on.mine))
            | inr ne ↦ put-other cs a.0 x.0 (Some new) ne ∙ i.given x has
          ];
          later = i.later;
          within = i.within;
        }
