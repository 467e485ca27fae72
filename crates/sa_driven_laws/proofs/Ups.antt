-- An upcall begins: a fresh life, with a fresh context.
use Rattle.std.proofs.Common.{◌≡◌, ◌≢◌, ℕ, ◌<◌, Bool, true, false, ◌||◌, ◌&&◌, length, Contains, Some, None, IsSome, refl, sym, ap, ◌∙◌, subst, inl, inr, arith}
use Rattle.std.proofs.lemmas.Bool.{cases_eq, eq-eqb, ne_eqb}
use Rattle.std.proofs.lemmas.List.{get_or-set_same, get_or-set_other}
use Rattle.std.proofs.lemmas.Option.{same_Some}
use Rattle.std.specs.List.{list_any}
use Rattle.sa_base.specs.declared.limits.TheConstants.{MAX_THREADS}
use Rattle.sa_base.specs.declared.number.ActNo.{ActNo}
use Rattle.sa_base.specs.declared.number.ProcNo.{ProcNo}
use Rattle.sa_base.specs.declared.number.SpaceNo.{SpaceNo}
use Rattle.sa_base.specs.declared.record.Note.TheVariants.{Preempted, Unblocked}
use Rattle.sa_base.specs.declared.record.Record.TheVariants.{Up}
use Rattle.sa_lemmas.proofs.FunctionUpdates.{put-same, put-other}
use Rattle.sa_lemmas.proofs.ListReads.{all-same}
use Rattle.sa_lemmas.specs.Function.{put}
use Rattle.sa_spaces.specs.Workload.{WorkloadView}
use Rattle.sa_fast.specs.declared.shared.Shared.{Shared}
use Rattle.sa_abstract.specs.Calls.{Contexts}
use Rattle.sa_driven_model.specs.Context.{fresh}
use Rattle.sa_driven_model.specs.Threads.{has}
use Rattle.sa_driven_model.specs.declared.context.DrivenContext.{DrivenContext}
use Rattle.sa_laws.specs.Life.{new_life}
use Rattle.sa_laws.specs.Readings.{Readings, running_of, life_of, untold_of, stopped_thread}
use Rattle.sa_laws.specs.Record.{after_record, same_note}
use Rattle.sa_fast_laws.proofs.relation.NoteLists.{any-note}
use Rattle.sa_fast_laws.proofs.relation.Notices.{note_of}
use Rattle.sa_fast_laws.proofs.relation.Places.{load-moves}
use Rattle.sa_fast_laws.specs.Stage.{stage_by, stage_on, stage_of, is_act, is_gone, Runs}
use Rattle.sa_driven_laws.specs.Life.{is_own}
use Rattle.sa_driven_laws.specs.DrivenFits.{Holds, Rest, DrivenHears}
use Rattle.sa_driven_laws.proofs.Changed.{IsChanged, changed-holds, changed-others}

module _ (s : SpaceNo) (r : Readings) (u : Shared) (cs : Contexts DrivenContext) (k : Holds s r u cs) (w : WorkloadView) (number : ℕ) (p : ProcNo)
    (a : ActNo)
    (free : running_of r p ≡ None) (unused : life_of r a ≡ None) (none : cs a.0 ≡ None) (nowhere : (y : ProcNo) → running_of r y ≢ Some a)
    (procs : p.0 < length r.running) where
  abbrev q : Readings
  q = after_record w number p r (Up s a)

  running_p : running_of q p ≡ Some a
  running_p = get_or-set_same r.running p.0 (Some a) None procs

  running_x : (y : ProcNo) → y.0 ≢ p.0 → running_of q y ≡ running_of r y
  running_x y ne = get_or-set_other r.running p.0 y.0 (Some a) None ne

  untold_none : (kind : Bool) → (Contains (untold_of r s) (note_of kind a) → IsSome (cs a.0))
      → list_any (same_note (note_of kind a)) (untold_of r s) ≡ false
  untold_none kind there = by (list_any (same_note (note_of kind a)) (untold_of r s)) refl where
    by : (b : Bool) → list_any (same_note (note_of kind a)) (untold_of r s) ≡ b → list_any (same_note (note_of kind a)) (untold_of r s) ≡ false
    by false e = e
    by true e = absurd (let some = subst IsSome none (there (any-note kind a (untold_of r s) e)) in cc)

  up-stage : stage_of q s a (new_life s p) ≡ Runs
  up-stage =
      ap (λ b. stage_by b (list_any (same_note (Unblocked a)) (untold_of r s)) (is_act a (running_of q p))) (untold_none true (λ has. k.noted a (inl has)))
      ∙ ap (λ b. stage_by false b (is_act a (running_of q p))) (untold_none false (λ has. k.noted a (inr has)))
      ∙ ap (λ o. stage_by false false (is_act a o)) running_p ∙ ap (stage_by false false) (eq-eqb a.0 a.0 refl)

  stage_x : (x : ActNo) (y : ProcNo) → x.0 ≢ a.0 → stage_on q s x y ≡ stage_on r s x y
  stage_x x y ne = ap (stage_by (list_any (same_note (Preempted x)) (untold_of r s)) (list_any (same_note (Unblocked x)) (untold_of r s)))
      (elim (cases_eq y.0 p.0) [
        | inl e ↦
            let one : y ≡ p = ap (λ j. record { 0 = j }) e in
            ap (λ j. is_act x (running_of q j)) one ∙ ap (is_act x) running_p ∙ ne_eqb a.0 x.0 (λ z. ne (sym z))
            ∙ sym (ap (λ j. is_act x (running_of r j)) one ∙ ap (is_act x) free)
        | inr other ↦ ap (is_act x) (running_x y other)
      ])

  up-changed : IsChanged s r q u u cs (put cs a.0 (Some fresh)) a (new_life s p) fresh
  up-changed = record {
    space = k.space;
    load =
        let moves = load-moves r q s (λ x. elim (cases_eq x.0 a.0) [
          | inl e ↦ ap stopped_thread (ap q.lives e ∙ put-same r.lives a.0 (Some (new_life s p))) ∙ sym (ap stopped_thread (ap r.lives e ∙ unused))
          | inr ne ↦ ap stopped_thread (put-other r.lives a.0 x.0 (Some (new_life s p)) ne)
        ]) refl in
        let was = k.load in omega (arith, moves, was);
    here = put-same r.lives a.0 (Some (new_life s p));
    mine = put-same cs a.0 (Some fresh);
    own = record {
      space = refl;
      locks = refl;
      cont = refl;
      hand = λ n. sym (ap (λ b. b || (is_gone (stage_of q s a (new_life s p)) && is_own None n)) (all-same MAX_THREADS n false)
          ∙ ap (λ g. is_gone g && is_own None n) up-stage);
      place = λ n at. absurd cc;
      kept = λ n at. absurd cc;
      named = λ no. refl;
    };
    single = k.single;
    runs = λ y at. elim (cases_eq y.0 p.0) [
      | inl e ↦ (ap (λ j. record { 0 = j }) (sym e), up-stage)
      | inr ne ↦ absurd (nowhere y (sym (running_x y ne) ∙ at))
    ];
    others = λ x ne. inl (record {
      life = put-other r.lives a.0 x.0 (Some (new_life s p)) ne;
      ctx = put-other cs a.0 x.0 (Some fresh) ne;
      stage = λ y. stage_x x y ne;
      runs = λ y at. elim (cases_eq y.0 p.0) [
        | inl e ↦ absurd (
            let one : y ≡ p = ap (λ j. record { 0 = j }) e in ne (ap (λ (z : ActNo). z.0) (same_Some x a (sym at ∙ ap (running_of q) one ∙ running_p))))
        | inr other ↦ sym (running_x y other) ∙ at
      ];
      noted = λ it. it;
      places = λ d t at carries. (refl, refl);
    });
  }

  pub up-hears : Rest s r cs → DrivenHears s q a u (put cs a.0 (Some fresh))
  up-hears rest = record {
    holds = changed-holds s r q u u cs (put cs a.0 (Some fresh)) a (new_life s p) fresh up-changed k;
    others = changed-others s r q u u cs (put cs a.0 (Some fresh)) a (new_life s p) fresh up-changed (λ x c l ne at is. rest x c l at is);
    lowers = λ c at. ap (λ (d : DrivenContext). d.lowers) (same_Some c fresh (sym at ∙ put-same cs a.0 (Some fresh)));
    runs = λ life is. subst (λ l. stage_of q s a l ≡ Runs) (same_Some (new_life s p) life (sym (put-same r.lives a.0 (Some (new_life s p))) ∙ is)) up-stage;
  }
