-- A context settles (after its upcall, after an entry, or before its step): it has what it had.
use Rattle.std.proofs.Common.{◌≡◌, ℕ, false, ◌||◌, List, Option, Some, None, IsSome, refl, sym, ap, ◌∙◌, subst, inl, inr, arith}
use Rattle.std.proofs.lemmas.Bool.{cases_eq}
use Rattle.std.proofs.lemmas.Option.{same_Some, none-some}
use Rattle.sa_base.specs.declared.number.ActNo.{ActNo}
use Rattle.sa_base.specs.declared.number.SpaceNo.{SpaceNo}
use Rattle.sa_base.specs.declared.number.ThreadNo.{ThreadNo}
use Rattle.sa_lemmas.proofs.FunctionUpdates.{put-at, put-other}
use Rattle.sa_lemmas.specs.Function.{put}
use Rattle.sa_code.specs.declared.state.Frame.{Frame}
use Rattle.sa_fast.specs.Rest.{one_of}
use Rattle.sa_abstract.specs.Calls.{Contexts}
use Rattle.sa_package_model.specs.Context.{carried_by, section_in}
use Rattle.sa_package_model.specs.declared.context.Context.{Context}
use Rattle.sa_package_model.specs.declared.context.ContextState.{ContextState}
use Rattle.sa_package_model.specs.declared.package.Package.{Package}
use Rattle.sa_laws.specs.Life.{Life}
use Rattle.sa_laws.specs.Readings.{Readings}
use Rattle.sa_laws.specs.State.{space_at}
use Rattle.sa_fast_laws.specs.FastFits.{Holds}
use Rattle.sa_fast_laws.specs.Life.{locks_from, pushed_in, beside, carried, count_if, HasLife}
use Rattle.sa_fast_laws.specs.Stage.{stage_of, is_gone}
use Rattle.sa_fast_laws.specs.View.{view, in_copy}

module _ (s : SpaceNo) (r : Readings) (u : Package) (cs : Contexts Context) (k : Holds s r u cs) (a : ActNo) (old state : ContextState) (fs : List Frame)
    (wk : Option ThreadNo)
    (is : cs a.0 ≡ Some (record { state = old; sections = fs; work = wk }))
    (was_out : section_in old ≡ None) (was_none : in_copy old ≡ false) (out : section_in state ≡ None) (no_copy : in_copy state ≡ false)
    (same : carried_by state ≡ carried_by old) where
  abbrev c : Context
  c = record { state = old; sections = fs; work = wk }

  abbrev new : Context
  new = record { state = state; sections = fs; work = wk }

  beside_same : (n : ℕ) → beside u.shared.works (view new) n ≡ beside u.shared.works (view c) n
  beside_same n = let one : pushed_in (section_in state) n ≡ pushed_in (section_in old) n = ap (λ o. pushed_in o n) (out ∙ sym was_out) in omega arith

  carried_same : (n : ℕ) → carried (view new) n ≡ carried (view c) n
  carried_same n = ap (λ o. one_of o n) same

  has-new : (life : Life) → HasLife s u.shared (space_at r.state s) (stage_of r s a life) (view c) life
      → HasLife s u.shared (space_at r.state s) (stage_of r s a life) (view new) life
  has-new life l = record {
    space = l.space;
    locks = l.locks ∙ ap (λ o. locks_from (in_copy old) o fs) was_out ∙ sym (ap (λ o. locks_from (in_copy state) o fs) out);
    cont = l.cont ∙ was_none ∙ sym no_copy;
    hand = record {
      all = λ n some. l.hand.all n (let one = beside_same n in omega arith);
      own = λ gone n some. l.hand.own gone n (let one = carried_same n in omega arith);
      only = λ n some.
          let was = l.hand.only n some in let one = beside_same n in
          let all : count_if (is_gone (stage_of r s a life) || in_copy state) (carried (view new) n) ≡ count_if (is_gone (stage_of r s a life) || in_copy old)
          (carried (view c) n) =
          ap (λ b. count_if (is_gone (stage_of r s a life) || b) (carried (view new) n)) (no_copy ∙ sym was_none)
          ∙ ap (count_if (is_gone (stage_of r s a life) || in_copy old)) (carried_same n) in
          omega arith;
    };
    place = λ n at. l.place n (sym same ∙ at);
    kept = λ n at. l.kept n (sym same ∙ at);
    stopped = l.stopped;
    named = λ no_run. l.named no_run ∙ sym same;
  }

  some_still : (x : ℕ) → IsSome (cs x) → IsSome (put cs a.0 (Some new) x)
  some_still x some = elim (cases_eq x a.0) [
    | inl e ↦ subst IsSome (sym (put-at cs a.0 x (Some new) e)) refl
    | inr ne ↦ subst IsSome (sym (put-other cs a.0 x (Some new) ne)) some
  ]

  pub restated : Holds s r u (put cs a.0 (Some new))
  restated = record {
    space = k.space;
    load = k.load;
    lives = λ x d at. elim (cases_eq x.0 a.0) [
      | inl e ↦
          let act : x ≡ a = ap (λ j. record { 0 = j }) e in
          let one : d ≡ new = same_Some d new (sym at ∙ put-at cs a.0 x.0 (Some new) e) in
          let its = k.lives a c is in (
            its.0,
            ap r.lives e ∙ its.1,
            subst (λ j. HasLife s u.shared (space_at r.state s) (stage_of r s j its.0) (view d) its.0) (sym act)
                (subst (λ z. HasLife s u.shared (space_at r.state s) (stage_of r s a its.0) (view z) its.0) (sym one) (has-new its.0 its.2)),
          )
      | inr ne ↦ k.lives x d (sym (put-other cs a.0 x.0 (Some new) ne) ∙ at)
    ];
    others = λ x life at mine none. elim (cases_eq x.0 a.0) [
      | inl e ↦ absurd (none-some new (sym none ∙ put-at cs a.0 x.0 (Some new) e))
      | inr ne ↦ k.others x life at mine (sym (put-other cs a.0 x.0 (Some new) ne) ∙ none)
    ];
    noted = λ x there. some_still x.0 (k.noted x there);
    single = k.single;
    runs = λ y x life at its mine. let old_run = k.runs y x life at its mine in (some_still x.0 old_run.0, old_run.1, old_run.2);
  }
