-- What concerns other spaces, aims, lines, pages and I/Os does not matter to what holds, nor to lives at rest.
use Rattle.std.proofs.Common.{◌≡◌, ℕ, zero, suc, ◌≤◌, slice_index_or, Bool, true, false, List, [], ◌∷◌, sum_by, count_by, Contains, Option, Some, None, IsSome, option_map, refl, sym, ap, ◌∙◌, subst, ◌⊎◌, inl, arith}
use Rattle.std.specs.Prelude.{◌==◌, if◌then◌else◌}
use Rattle.std.proofs.lemmas.Bool.{eq-eqb, eqb-true}
use Rattle.std.proofs.lemmas.List.Sums.{sum_by-cons}
use Rattle.std.proofs.lemmas.Option.{same_Some}
use Rattle.std.specs.List.{list_any}
use Rattle.sa_base.specs.declared.number.ActNo.{ActNo}
use Rattle.sa_base.specs.declared.number.ProcNo.{ProcNo}
use Rattle.sa_base.specs.declared.number.SpaceNo.{SpaceNo}
use Rattle.sa_base.specs.declared.record.Note.{Note}
use Rattle.sa_base.specs.declared.record.Note.TheVariants.{Add, Preempted, Blocked, Unblocked}
use Rattle.sa_abstract.specs.Calls.{Contexts}
use Rattle.sa_package_model.specs.declared.context.Context.{Context}
use Rattle.sa_package_model.specs.declared.package.Package.{Package}
use Rattle.sa_laws.specs.Life.{Life}
use Rattle.sa_laws.specs.Readings.{Readings, running_of, life_of, untold_of, stopped_thread, untold_thread}
use Rattle.sa_laws.specs.Record.{same_note}
use Rattle.sa_laws.specs.State.{space_at, active_threads}
use Rattle.sa_user_laws.specs.Moments.{SameFor, AlikeButDemands, life_in, runs_in}
use Rattle.sa_fast_laws.proofs.relation.EventEnds.{same-holds}
use Rattle.sa_fast_laws.specs.FastFits.{is_of, FitsShared, Holds}
use Rattle.sa_fast_laws.specs.Life.{IsAtRest, HasLife}
use Rattle.sa_fast_laws.specs.Stage.{stage_by, stage_on, stage_of, is_act}
use Rattle.sa_fast_laws.specs.View.{View, view}
use Rattle.sa_fast_laws.specs.Rests.{Rests, RestBut, IsBasedOn, LivesFit}
use Rattle.sa_fast_laws.proofs.lives.Rests.{others-rest}

-- a life of the space
life_is : (s : SpaceNo) (o : Option Life) (life : Life) → life_in s o ≡ Some life → (o ≡ Some life) × (life.space.0 ≡ s.0)
life_is s None life e = absurd cc
life_is s (Some l) life e = elim (l.space.0 == s.0) as (λ b. (l.space.0 == s.0) ≡ b → (if b then Some l else None) ≡ Some life
    → (Some l ≡ Some life) × (life.space.0 ≡ s.0)) [
      | true ↦ λ test is. let same = same_Some l life is in (is, sym (ap (λ (x : Life). x.space.0) same) ∙ eqb-true l.space.0 s.0 test)
      | false ↦ λ test is. absurd cc
    ] refl e

life_has : (s : SpaceNo) (o : Option Life) (life : Life) → o ≡ Some life → life.space ≡ s → life_in s o ≡ Some life
life_has s o life e of = ap (life_in s) e ∙ ap (λ b. if b then Some life else None) (eq-eqb life.space.0 s.0 (ap (λ (x : SpaceNo). x.0) of))

run_is : (s : SpaceNo) (lives : ℕ → Option Life) (o : Option ActNo) (a : ActNo) → runs_in s lives o ≡ Some a → o ≡ Some a
run_is s lives None a e = absurd cc
run_is s lives (Some b) a e = by (life_in s (lives b.0)) refl where
  by : (x : Option Life) → life_in s (lives b.0) ≡ x → Some b ≡ Some a
  by None at = absurd (let none = sym (ap (option_map (λ (l : Life). b)) at) ∙ e in cc)
  by (Some l) at = sym (ap (option_map (λ (l : Life). b)) at) ∙ e

run_has : (s : SpaceNo) (lives : ℕ → Option Life) (o : Option ActNo) (a : ActNo) (life : Life) → o ≡ Some a → lives a.0 ≡ Some life → life.space ≡ s
    → runs_in s lives o ≡ Some a
run_has s lives o a life e at of = ap (runs_in s lives) e ∙ ap (option_map (λ (l : Life). a)) (life_has s (lives a.0) life at of)

module _ (s : SpaceNo) (m n : Readings) (u : Package) (cs : Contexts Context) (i : SameFor s m n) where
  life_to : (a : ActNo) (life : Life) → life_of m a ≡ Some life → life.space ≡ s → life_of n a ≡ Some life
  life_to a life at of = (life_is s (n.lives a.0) life (i.lives a.0 ∙ life_has s (m.lives a.0) life at of)).0

  life_back : (a : ActNo) (life : Life) → life_of n a ≡ Some life → life.space ≡ s → life_of m a ≡ Some life
  life_back a life at of = (life_is s (m.lives a.0) life (sym (i.lives a.0) ∙ life_has s (n.lives a.0) life at of)).0

  act_same : (a : ActNo) (life : Life) (y : ProcNo) → life_of m a ≡ Some life → life.space ≡ s → is_act a (running_of n y) ≡ is_act a (running_of m y)
  act_same a life y at of = by (is_act a (running_of n y)) refl (is_act a (running_of m y)) refl where
    that : (o : Option ActNo) → is_act a o ≡ true → o ≡ Some a
    that None e = absurd cc
    that (Some b) e = ap (λ j. Some (record { 0 = j })) (eqb-true b.0 a.0 e)

    acts : (o : Option ActNo) → o ≡ Some a → is_act a o ≡ true
    acts o e = ap (is_act a) e ∙ eq-eqb a.0 a.0 refl

    by : (b : Bool) → is_act a (running_of n y) ≡ b → (c : Bool) → is_act a (running_of m y) ≡ c
        → is_act a (running_of n y) ≡ is_act a (running_of m y)
    by true now true was = now ∙ sym was
    by false now false was = now ∙ sym was
    by true now false was = absurd (
        let runs =
        run_is s m.lives (running_of m y) a
        (sym (i.running y) ∙ run_has s n.lives (running_of n y) a life (that (running_of n y) now) (life_to a life at of) of) in
        let yes = acts (running_of m y) runs in cc)
    by false now true was = absurd (
        let runs = run_is s n.lives (running_of n y) a (i.running y ∙ run_has s m.lives (running_of m y) a life (that (running_of m y) was) at of) in
        let yes = acts (running_of n y) runs in cc)

  stage_same : (a : ActNo) (life : Life) → life_of m a ≡ Some life → life.space ≡ s → stage_of n s a life ≡ stage_of m s a life
  stage_same a life at of =
      ap (λ ns. stage_by (list_any (same_note (Preempted a)) ns) (list_any (same_note (Unblocked a)) ns) (is_act a (running_of n life.proc))) i.untold
      ∙ ap (stage_by (list_any (same_note (Preempted a)) (untold_of m s)) (list_any (same_note (Unblocked a)) (untold_of m s)))
      (act_same a life life.proc at of)

  module _ (k : Holds s m u cs) where
    notes : (ns : List Note) → ((x : Note) → Contains ns x → Contains (untold_of m s) x) → sum_by (untold_thread n) ns ≡ sum_by (untold_thread m) ns
    notes [] within = refl
    notes (x ∷ ns) within =
        sum_by-cons (untold_thread n) x ns
        ∙ (let rest = notes ns (λ z has. within z (let inside = has.1 in (suc has.0, omega arith, has.2))) in
        let one = note_one x (within x (zero, omega arith, refl)) in let all = sum_by-cons (untold_thread m) x ns in omega arith) where
          by : (a : ActNo) (o : Option Context) → cs a.0 ≡ o → IsSome (cs a.0) → stopped_thread (life_of n a) ≡ stopped_thread (life_of m a)
          by a None none some = absurd (let no_such = subst IsSome none some in cc)
          by a (Some c) at some = let its = k.lives a c at in ap stopped_thread (life_to a its.0 its.1 its.2.space) ∙ sym (ap stopped_thread its.1)

          note_one : (y : Note) → Contains (untold_of m s) y → untold_thread n y ≡ untold_thread m y
          note_one (Add q) has = refl
          note_one (Preempted a) has = by a (cs a.0) refl (k.noted a (inl has))
          note_one (Blocked a) has = refl
          note_one (Unblocked a) has = refl

    pub same-for : Holds s n u cs
    same-for = record {
      space = subst (FitsShared u.shared) (sym i.space) k.space;
      load =
          let sums = notes (untold_of m s) (λ x has. has) in
          let now : sum_by (untold_thread n) (untold_of n s) ≡ sum_by (untold_thread n) (untold_of m s) = ap (sum_by (untold_thread n)) i.untold in
          let active : active_threads (space_at n.state s) ≡ active_threads (space_at m.state s) = ap active_threads i.space in
          let was = k.load in omega arith;
      lives = λ a c at. let its = k.lives a c at in (
        its.0,
        life_to a its.0 its.1 its.2.space,
        subst (λ y. HasLife s u.shared y (stage_of n s a its.0) (view c) its.0) (sym i.space)
            (subst (λ g. HasLife s u.shared (space_at m.state s) g (view c) its.0) (sym (stage_same a its.0 its.1 its.2.space)) its.2),
      );
      others = λ a life at of none. k.others a life (life_back a life at of) of none;
      noted = λ a there. k.noted a (subst (λ ns. Contains ns (Preempted a) ⊎ Contains ns (Unblocked a)) i.untold there);
      single = λ a. subst (λ ns. count_by (is_of a) ns ≤ 1) (sym i.untold) (k.single a);
      runs = λ y a life at its of.
          let old_life = life_back a life its of in
          let at_m = run_is s m.lives (running_of m y) a (sym (i.running y) ∙ run_has s n.lives (running_of n y) a life at its of) in
          let old = k.runs y a life at_m old_life of in
          (old.0, old.1, stage_same a life old_life of ∙ old.2);
    }

  -- A life with a context runs where it ran.
  pub runs-back : Holds s m u cs → (y : ProcNo) (a : ActNo) (c : Context) → cs a.0 ≡ Some c → running_of n y ≡ Some a → running_of m y ≡ Some a
  runs-back k y a c at runs =
      let its = k.lives a c at in
      run_is s m.lives (running_of m y) a
      (sym (i.running y) ∙ run_has s n.lives (running_of n y) a its.0 runs (life_to a its.0 its.1 its.2.space) its.2.space)

  -- So do lives at rest, which are lives of the space.
  pub same-rests : {C : Type 0} (look : C → View) (ds : Contexts C)
      → ((a : ActNo) (c : C) → ds a.0 ≡ Some c → (life : Life) × (life_of m a ≡ Some life) × (life.space ≡ s))
      → Rests look s m ds → Rests look s n ds
  same-rests look ds lives rests a c life at its =
      let mine = lives a c at in
      let one : mine.0 ≡ life = same_Some mine.0 life (sym (life_to a mine.0 mine.1 mine.2) ∙ its) in
      let is : life_of m a ≡ Some life = mine.1 ∙ ap Some one in
      subst (λ g. IsAtRest g (look c) life) (sym (stage_same a life is (ap (λ (l : Life). l.space) (sym one) ∙ mine.2))) (rests a c life at is)

-- THE LAW
pub same-fits : {C : Type 0} (look : C → View) (base : C → Context) (s : SpaceNo) (m n : Readings) (u : Package) (bs : Contexts Context) (cs : Contexts C)
    → IsBasedOn look base bs cs → SameFor s m n → LivesFit look s m u bs cs → LivesFit look s n u bs cs
same-fits look base s m n u bs cs on same k = record {
  holds = same-for s m n u bs same k.holds;
  rest = same-rests s m n u bs same look cs (λ a c at. let its = k.holds.lives a (base c) (on.down a.0 c at) in (its.0, its.1, its.2.space)) k.rest;
}

-- Nor does what a closing changes.
module _ (s : SpaceNo) (m n : Readings) (i : AlikeButDemands m n) where
  pub alike-stage : (x : ActNo) (y : ProcNo) → stage_on n s x y ≡ stage_on m s x y
  alike-stage x y =
      ap (λ (ps : List (Option ActNo)). stage_on (record n { running = ps }) s x y) i.running
      ∙ ap (λ (ns : List (List Note)). stage_on (record n { untold = ns; running = m.running }) s x y) i.untold

  pub alike-holds : (u : Package) (cs : Contexts Context) → Holds s m u cs → Holds s n u cs
  alike-holds u cs k = same-holds s m n u cs (record {
    space = ap (λ x. space_at x s) i.state;
    untold = ap (λ (ns : List (List Note)). slice_index_or ns s.0 []) i.untold;
    running = i.running;
    lives = i.lives;
  }) k

  pub alike-rest : {C : Type 0} (look : C → View) (ds : Contexts C) (a : ActNo) → RestBut look s m a ds → RestBut look s n a ds
  alike-rest look ds a rest = others-rest look s m n a ds ds (λ x ne. refl) (λ x ne. ap (λ (f : ℕ → Option Life). f x.0) i.lives)
      (λ x y ne. alike-stage x y) rest
