-- An upcall begins: a fresh life, with a fresh context.
use Rattle.std.proofs.Common.{◌≡◌, ◌≢◌, ℕ, ◌<◌, Bool, true, false, length, Contains, Some, None, IsSome, refl, sym, ap, ◌∙◌, subst, inl, inr, arith}
use Rattle.std.proofs.lemmas.Bool.{cases_eq, eq-eqb, ne_eqb}
use Rattle.std.proofs.lemmas.List.{get_or-set_same, get_or-set_other}
use Rattle.std.proofs.lemmas.Option.{same_Some, none-some}
use Rattle.std.specs.List.{list_any}
use Rattle.sa_base.specs.declared.number.ActNo.{ActNo}
use Rattle.sa_base.specs.declared.number.ProcNo.{ProcNo}
use Rattle.sa_base.specs.declared.number.SpaceNo.{SpaceNo}
use Rattle.sa_base.specs.declared.record.Note.TheVariants.{Preempted, Unblocked}
use Rattle.sa_base.specs.declared.record.Record.TheVariants.{Up}
use Rattle.sa_lemmas.proofs.FunctionUpdates.{put-same, put-other, put-at}
use Rattle.sa_lemmas.specs.Function.{put}
use Rattle.sa_spaces.specs.Workload.{WorkloadView}
use Rattle.sa_abstract.specs.Calls.{Contexts}
use Rattle.sa_package_model.specs.Context.{fresh}
use Rattle.sa_package_model.specs.declared.context.Context.{Context}
use Rattle.sa_package_model.specs.declared.package.Package.{Package}
use Rattle.sa_laws.specs.Life.{Life, new_life}
use Rattle.sa_laws.specs.Readings.{Readings, running_of, life_of, untold_of, stopped_thread}
use Rattle.sa_laws.specs.Record.{after_record, same_note}
use Rattle.sa_laws.specs.State.{space_at}
use Rattle.sa_fast_laws.proofs.relation.NoteLists.{any-note}
use Rattle.sa_fast_laws.proofs.relation.Notices.{note_of}
use Rattle.sa_fast_laws.proofs.relation.Places.{load-moves}
use Rattle.sa_fast_laws.specs.FastFits.{Holds}
use Rattle.sa_fast_laws.specs.Life.{HasLife}
use Rattle.sa_fast_laws.specs.Stage.{stage_by, stage_on, stage_of, is_act, Runs}
use Rattle.sa_fast_laws.specs.View.{view}

module _ (s : SpaceNo) (r : Readings) (u : Package) (cs : Contexts Context) (k : Holds s r u cs) (w : WorkloadView) (number : ℕ) (p : ProcNo)
    (a : ActNo)
    (free : running_of r p ≡ None) (unused : life_of r a ≡ None) (none : cs a.0 ≡ None) (nowhere : (y : ProcNo) → running_of r y ≢ Some a)
    (procs : p.0 < length r.running) where
  abbrev q : Readings
  q = after_record w number p r (Up s a)

  abbrev ds : Contexts Context
  ds = put cs a.0 (Some fresh)

  live_a : q.lives a.0 ≡ Some (new_life s p)
  live_a = put-same r.lives a.0 (Some (new_life s p))

  live_x : (x : ℕ) → x ≢ a.0 → q.lives x ≡ r.lives x
  live_x x ne = put-other r.lives a.0 x (Some (new_life s p)) ne

  running_p : running_of q p ≡ Some a
  running_p = get_or-set_same r.running p.0 (Some a) None procs

  running_x : (y : ProcNo) → y.0 ≢ p.0 → running_of q y ≡ running_of r y
  running_x y ne = get_or-set_other r.running p.0 y.0 (Some a) None ne

  untold_none : (kind : Bool) → (Contains (untold_of r s) (note_of kind a) → IsSome (cs a.0))
      → list_any (same_note (note_of kind a)) (untold_of r s) ≡ false
  untold_none kind there = by (list_any (same_note (note_of kind a)) (untold_of r s)) refl where
    by : (b : Bool) → list_any (same_note (note_of kind a)) (untold_of r s) ≡ b → list_any (same_note (note_of kind a)) (untold_of r s) ≡ false
    by false e = e
    by true e = absurd (let some = subst IsSome none (there (any-note kind a (untold_of r s) e)) in cc)

  pub up-stage : stage_of q s a (new_life s p) ≡ Runs
  up-stage =
      ap (λ b. stage_by b (list_any (same_note (Unblocked a)) (untold_of r s)) (is_act a (running_of q p))) (untold_none true (λ has. k.noted a (inl has)))
      ∙ ap (λ b. stage_by false b (is_act a (running_of q p))) (untold_none false (λ has. k.noted a (inr has)))
      ∙ ap (λ o. stage_by false false (is_act a o)) running_p ∙ ap (stage_by false false) (eq-eqb a.0 a.0 refl)

  pub stage_x : (x : ActNo) (y : ProcNo) → x.0 ≢ a.0 → stage_on q s x y ≡ stage_on r s x y
  stage_x x y ne = ap (stage_by (list_any (same_note (Preempted x)) (untold_of r s)) (list_any (same_note (Unblocked x)) (untold_of r s)))
      (elim (cases_eq y.0 p.0) [
        | inl e ↦
            let one : y ≡ p = ap (λ j. record { 0 = j }) e in
            ap (λ j. is_act x (running_of q j)) one ∙ ap (is_act x) running_p ∙ ne_eqb a.0 x.0 (λ z. ne (sym z))
            ∙ sym (ap (λ j. is_act x (running_of r j)) one ∙ ap (is_act x) free)
        | inr other ↦ ap (is_act x) (running_x y other)
      ])

  some_still : (x : ℕ) → IsSome (cs x) → IsSome (ds x)
  some_still x some = elim (cases_eq x a.0) [
    | inl e ↦ subst IsSome (sym (put-at cs a.0 x (Some fresh) e)) refl
    | inr ne ↦ subst IsSome (sym (put-other cs a.0 x (Some fresh) ne)) some
  ]

  fresh-has : HasLife s u.shared (space_at q.state s) (stage_of q s a (new_life s p)) (view fresh) (new_life s p)
  fresh-has = record {
    space = refl;
    locks = refl;
    cont = refl;
    hand = record {
      all = λ n some. absurd (omega arith);
      own = λ gone n some. absurd (omega arith);
      only = λ n some. absurd (omega arith);
    };
    place = λ n at. absurd cc;
    kept = λ n at. absurd cc;
    stopped = λ n some. absurd (omega arith);
    named = λ no_run. refl;
  }

  pub up-holds : Holds s q u ds
  up-holds = record {
    space = k.space;
    load =
        let moves = load-moves r q s (λ x. elim (cases_eq x.0 a.0) [
          | inl e ↦ ap stopped_thread (ap q.lives e ∙ live_a) ∙ sym (ap stopped_thread (ap r.lives e ∙ unused))
          | inr ne ↦ ap stopped_thread (live_x x.0 ne)
        ]) refl in
        let was = k.load in omega arith;
    lives = λ x d at. elim (cases_eq x.0 a.0) [
      | inl e ↦
          let act : x ≡ a = ap (λ j. record { 0 = j }) e in
          let one : d ≡ fresh = same_Some d fresh (sym at ∙ put-at cs a.0 x.0 (Some fresh) e) in (
            new_life s p,
            ap q.lives e ∙ live_a,
            subst (λ j. HasLife s u.shared (space_at q.state s) (stage_of q s j (new_life s p)) (view d) (new_life s p)) (sym act)
                (subst (λ z. HasLife s u.shared (space_at q.state s) (stage_of q s a (new_life s p)) (view z) (new_life s p)) (sym one) fresh-has),
          )
      | inr ne ↦
          let was = k.lives x d (sym (put-other cs a.0 x.0 (Some fresh) ne) ∙ at) in
          (was.0, live_x x.0 ne ∙ was.1, subst (λ g. HasLife s u.shared (space_at r.state s) g (view d) was.0) (sym (stage_x x was.0.proc ne)) was.2)
    ];
    others = λ x life at mine no_ctx. elim (cases_eq x.0 a.0) [
      | inl e ↦ absurd (none-some fresh (sym no_ctx ∙ put-at cs a.0 x.0 (Some fresh) e))
      | inr ne ↦ k.others x life (sym (live_x x.0 ne) ∙ at) mine (sym (put-other cs a.0 x.0 (Some fresh) ne) ∙ no_ctx)
    ];
    noted = λ x there. some_still x.0 (k.noted x there);
    single = k.single;
    runs = λ y x life at its mine. elim (cases_eq x.0 a.0) [
      | inl e ↦
          let act : x ≡ a = ap (λ j. record { 0 = j }) e in
          let one : life ≡ new_life s p = same_Some life (new_life s p) (sym its ∙ ap q.lives e ∙ live_a) in
          elim (cases_eq y.0 p.0) [
            | inl here ↦
                let proc : p ≡ y = ap (λ j. record { 0 = j }) (sym here) in (
                  subst IsSome (sym (put-at cs a.0 x.0 (Some fresh) e)) refl,
                  ap (λ (z : Life). z.proc) one ∙ proc,
                  ap (λ j. stage_on q s j life.proc) act ∙ ap (λ (z : Life). stage_on q s a z.proc) one ∙ up-stage,
                )
            | inr other ↦ absurd (nowhere y (sym (running_x y other) ∙ at ∙ ap Some act))
          ]
      | inr ne ↦ elim (cases_eq y.0 p.0) [
        | inl here ↦
            absurd
            (let one : y ≡ p = ap (λ j. record { 0 = j }) here in ne (ap (λ (z : ActNo). z.0) (same_Some x a (sym at ∙ ap (running_of q) one ∙ running_p))))
        | inr other ↦ let old =
            k.runs y x life (sym (running_x y other) ∙ at) (sym (live_x x.0 ne) ∙ its) mine in (some_still x.0 old.0, old.1, stage_x x life.proc ne ∙ old.2)
      ]
    ];
  }
