-- What concerns other spaces, aims, lines, pages and I/Os does not matter.
use Rattle.std.proofs.Common.{◌≡◌, ℕ, ◌≤◌, slice_index_or, Bool, true, false, [], sum_by, count_by, Contains, Option, Some, None, IsSome, option_map, refl, sym, ap, ◌∙◌, subst, ◌⊎◌, inl, arith}
use Rattle.std.specs.Prelude.{◌==◌, if◌then◌else◌}
use Rattle.std.proofs.lemmas.Bool.{eq-eqb, eqb-true}
use Rattle.std.proofs.lemmas.Option.{same_Some}
use Rattle.std.specs.List.{list_any}
use Rattle.sa_base.specs.declared.number.ActNo.{ActNo}
use Rattle.sa_base.specs.declared.number.ProcNo.{ProcNo}
use Rattle.sa_base.specs.declared.number.SpaceNo.{SpaceNo}
use Rattle.sa_base.specs.declared.record.Note.TheVariants.{Preempted, Unblocked}
use Rattle.sa_spaces.specs.Workload.{WorkloadView}
use Rattle.sa_fast.specs.declared.shared.Shared.{Shared}
use Rattle.sa_abstract.specs.Calls.{Contexts}
use Rattle.sa_abstract.specs.Setting.{Setting}
use Rattle.sa_driven_model.specs.declared.context.DrivenContext.{DrivenContext}
use Rattle.sa_driven_model.specs.declared.space.DrivenSpace.{DrivenSpace}
use Rattle.sa_laws.specs.Life.{Life}
use Rattle.sa_laws.specs.Event.{Event}
use Rattle.sa_laws.specs.History.{event_begun}
use Rattle.sa_laws.specs.Readings.{Readings, running_of, life_of, untold_of, stopped_thread, untold_thread}
use Rattle.sa_laws.specs.Record.{same_note}
use Rattle.sa_laws.specs.State.{space_at, active_threads}
use Rattle.sa_user_laws.specs.Moments.{SameFor, AlikeButDemands, life_in, runs_in}
use Rattle.sa_user_laws.specs.Scene.{IsOfSpace}
use Rattle.sa_fast_laws.proofs.relation.NoteLists.{notes-same}
use Rattle.sa_fast_laws.proofs.relation.Places.{load-moves}
use Rattle.sa_fast_laws.proofs.relation.Stages.{stage-same}
use Rattle.sa_fast_laws.specs.FastFits.{is_of, FitsShared}
use Rattle.sa_fast_laws.specs.Stage.{stage_by, stage_on, stage_of, is_act}
use Rattle.sa_driven_laws.specs.Life.{HasLife, IsAtRest}
use Rattle.sa_driven_laws.specs.DrivenFits.{Holds, Rest, RestBut, driven_fits, driven_hears}

-- a life of the space
life_is : (s : SpaceNo) (o : Option Life) (life : Life) → life_in s o ≡ Some life → (o ≡ Some life) × (life.space.0 ≡ s.0)
life_is s None life e = absurd cc
life_is s (Some l) life e = elim (l.space.0 == s.0) as (λ b. (l.space.0 == s.0) ≡ b → (if b then Some l else None) ≡ Some life
    → (Some l ≡ Some life) × (life.space.0 ≡ s.0)) [
      | true ↦ λ test is. let same = same_Some l life is in (is, sym (ap (λ (x : Life). x.space.0) same) ∙ eqb-true l.space.0 s.0 test)
      | false ↦ λ test is. absurd cc
    ] refl e

life_has : (s : SpaceNo) (o : Option Life) (life : Life) → o ≡ Some life → life.space ≡ s → life_in s o ≡ Some life
life_has s o life e of = ap (life_in s) e ∙ ap (λ b. if b then Some life else None) (eq-eqb life.space.0 s.0 (ap (λ (x : SpaceNo). x.0) of))

run_is : (s : SpaceNo) (lives : ℕ → Option Life) (o : Option ActNo) (a : ActNo) → runs_in s lives o ≡ Some a → o ≡ Some a
run_is s lives None a e = absurd cc
run_is s lives (Some b) a e = by (life_in s (lives b.0)) refl where
  by : (x : Option Life) → life_in s (lives b.0) ≡ x → Some b ≡ Some a
  by None at = absurd (let none = sym (ap (option_map (λ (l : Life). b)) at) ∙ e in cc)
  by (Some l) at = sym (ap (option_map (λ (l : Life). b)) at) ∙ e

run_has : (s : SpaceNo) (lives : ℕ → Option Life) (o : Option ActNo) (a : ActNo) (life : Life) → o ≡ Some a → lives a.0 ≡ Some life → life.space ≡ s
    → runs_in s lives o ≡ Some a
run_has s lives o a life e at of = ap (runs_in s lives) e ∙ ap (option_map (λ (l : Life). a)) (life_has s (lives a.0) life at of)

module _ (s : SpaceNo) (m n : Readings) (u : Shared) (cs : Contexts DrivenContext) (i : SameFor s m n) where
  life_to : (a : ActNo) (life : Life) → life_of m a ≡ Some life → life.space ≡ s → life_of n a ≡ Some life
  life_to a life at of = (life_is s (n.lives a.0) life (i.lives a.0 ∙ life_has s (m.lives a.0) life at of)).0

  life_back : (a : ActNo) (life : Life) → life_of n a ≡ Some life → life.space ≡ s → life_of m a ≡ Some life
  life_back a life at of = (life_is s (m.lives a.0) life (sym (i.lives a.0) ∙ life_has s (n.lives a.0) life at of)).0

  act_same : (a : ActNo) (life : Life) (y : ProcNo) → life_of m a ≡ Some life → life.space ≡ s → is_act a (running_of n y) ≡ is_act a (running_of m y)
  act_same a life y at of = by (is_act a (running_of n y)) refl (is_act a (running_of m y)) refl where
    that : (o : Option ActNo) → is_act a o ≡ true → o ≡ Some a
    that None e = absurd cc
    that (Some b) e = ap (λ j. Some (record { 0 = j })) (eqb-true b.0 a.0 e)

    acts : (o : Option ActNo) → o ≡ Some a → is_act a o ≡ true
    acts o e = ap (is_act a) e ∙ eq-eqb a.0 a.0 refl

    by : (b : Bool) → is_act a (running_of n y) ≡ b → (c : Bool) → is_act a (running_of m y) ≡ c
        → is_act a (running_of n y) ≡ is_act a (running_of m y)
    by true now true was = now ∙ sym was
    by false now false was = now ∙ sym was
    by true now false was = absurd (
        let runs =
        run_is s m.lives (running_of m y) a
        (sym (i.running y) ∙ run_has s n.lives (running_of n y) a life (that (running_of n y) now) (life_to a life at of) of) in
        let yes = acts (running_of m y) runs in cc)
    by false now true was = absurd (
        let runs = run_is s n.lives (running_of n y) a (i.running y ∙ run_has s m.lives (running_of m y) a life (that (running_of m y) was) at of) in
        let yes = acts (running_of n y) runs in cc)

  stage_same : (a : ActNo) (life : Life) → life_of m a ≡ Some life → life.space ≡ s → stage_of n s a life ≡ stage_of m s a life
  stage_same a life at of =
      ap (λ ns. stage_by (list_any (same_note (Preempted a)) ns) (list_any (same_note (Unblocked a)) ns) (is_act a (running_of n life.proc))) i.untold
      ∙ ap (stage_by (list_any (same_note (Preempted a)) (untold_of m s)) (list_any (same_note (Unblocked a)) (untold_of m s)))
      (act_same a life life.proc at of)

  module _ (k : Holds s m u cs) where
    stopped : (b : ActNo) → Contains (untold_of m s) (Preempted b) → stopped_thread (life_of n b) ≡ stopped_thread (life_of m b)
    stopped b has = by (cs b.0) refl (k.noted b (inl has)) where
      by : (o : Option DrivenContext) → cs b.0 ≡ o → IsSome (cs b.0) → stopped_thread (life_of n b) ≡ stopped_thread (life_of m b)
      by None none some = absurd (let no_such = subst IsSome none some in cc)
      by (Some c) at some = let its = k.lives b c at in ap stopped_thread (life_to b its.0 its.1 its.2.space) ∙ sym (ap stopped_thread its.1)

    same-holds : Holds s n u cs
    same-holds = record {
      space = subst (FitsShared u) (sym i.space) k.space;
      load =
          let sums = notes-same m n (untold_of m s) stopped in
          let now : sum_by (untold_thread n) (untold_of n s) ≡ sum_by (untold_thread n) (untold_of m s) = ap (sum_by (untold_thread n)) i.untold in
          let active : active_threads (space_at n.state s) ≡ active_threads (space_at m.state s) = ap active_threads i.space in
          let was = k.load in omega (arith, sums, now, active, was);
      lives = λ a c at. let its = k.lives a c at in (
        its.0,
        life_to a its.0 its.1 its.2.space,
        subst (λ y. HasLife s u y (stage_of n s a its.0) c its.0) (sym i.space)
            (subst (λ g. HasLife s u (space_at m.state s) g c its.0) (sym (stage_same a its.0 its.1 its.2.space)) its.2),
      );
      others = λ a life at of none. k.others a life (life_back a life at of) of none;
      noted = λ a there. k.noted a (subst (λ ns. Contains ns (Preempted a) ⊎ Contains ns (Unblocked a)) i.untold there);
      single = λ a. subst (λ ns. count_by (is_of a) ns ≤ 1) (sym i.untold) (k.single a);
      runs = λ y a life at its of.
          let old_life = life_back a life its of in
          let at_m = run_is s m.lives (running_of m y) a (sym (i.running y) ∙ run_has s n.lives (running_of n y) a life at its of) in
          let old = k.runs y a life at_m old_life of in
          (old.0, old.1, stage_same a life old_life of ∙ old.2);
    }

    same-rest : Rest s m cs → Rest s n cs
    same-rest rests a c life at its =
        let mine = k.lives a c at in
        let one : mine.0 ≡ life = same_Some mine.0 life (sym (life_to a mine.0 mine.1 mine.2.space) ∙ its) in
        let is : life_of m a ≡ Some life = mine.1 ∙ ap Some one in
        subst (λ g. IsAtRest g c life) (sym (stage_same a life is (ap (λ (l : Life). l.space) (sym one) ∙ mine.2.space))) (rests a c life at is)

pub driven-same : (w : WorkloadView) (s : Setting) (m n : Readings) (u : DrivenSpace) (cs : Contexts DrivenContext)
    → IsOfSpace w s → SameFor s.space m n → driven_fits w s m u cs → driven_fits w s n u cs
driven-same w s m n u cs of same k = record {
  holds = same-holds s.space m n u.base.shared cs same k.holds;
  rest = same-rest s.space m n u.base.shared cs same k.holds k.rest;
}

-- WHAT IS LOOKED AT: the space's threads, what is untold to it, who runs, and lives
pub record SameHeld (s : SpaceNo) (r q : Readings) : Type 0 where
  pub space : space_at q.state s ≡ space_at r.state s
  pub untold : untold_of q s ≡ untold_of r s
  pub running : q.running ≡ r.running
  pub lives : q.lives ≡ r.lives

module _ (s : SpaceNo) (r q : Readings) (i : SameHeld s r q) where
  pub held-stage : (a : ActNo) (y : ProcNo) (life : Life) → stage_on q s a y ≡ stage_on r s a y
  held-stage a y life = stage-same s r q i.untold i.running a (record life { proc = y })

  life-same : (x : ActNo) → life_of q x ≡ life_of r x
  life-same x = ap (λ (f : ℕ → Option Life). f x.0) i.lives

  pub held-holds : (u : Shared) (cs : Contexts DrivenContext) → Holds s r u cs → Holds s q u cs
  held-holds u cs k = record {
    space = subst (FitsShared u) (sym i.space) k.space;
    load =
        let moves = load-moves r q s (λ x. ap (λ (f : ℕ → Option Life). stopped_thread (f x.0)) i.lives) i.untold in
        let active : active_threads (space_at q.state s) ≡ active_threads (space_at r.state s) = ap active_threads i.space in
        let was = k.load in omega (arith, moves, active, was);
    lives = λ x c at. let its = k.lives x c at in (
      its.0,
      life-same x ∙ its.1,
      subst (λ y. HasLife s u y (stage_of q s x its.0) c its.0) (sym i.space)
          (subst (λ g. HasLife s u (space_at r.state s) g c its.0) (sym (stage-same s r q i.untold i.running x its.0)) its.2),
    );
    others = λ x life at mine none. k.others x life (sym (life-same x) ∙ at) mine none;
    noted = λ x there. k.noted x (subst (λ ns. Contains ns (Preempted x) ⊎ Contains ns (Unblocked x)) i.untold there);
    single = λ x. subst (λ ns. count_by (is_of x) ns ≤ 1) (sym i.untold) (k.single x);
    runs = λ y x life at its mine.
        let old = k.runs y x life (sym (ap (λ ps. slice_index_or ps y.0 None) i.running) ∙ at) (sym (life-same x) ∙ its) mine in
        (old.0, old.1, stage-same s r q i.untold i.running x life ∙ old.2);
  }

  pub held-others : (a : ActNo) (cs : Contexts DrivenContext) → RestBut s r a cs → RestBut s q a cs
  held-others a cs rest x c life ne at its =
      subst (λ g. IsAtRest g c life) (sym (stage-same s r q i.untold i.running x life)) (rest x c life ne at (sym (life-same x) ∙ its))

  pub held-rest : (cs : Contexts DrivenContext) → Rest s r cs → Rest s q cs
  held-rest cs rest x c life at its =
      subst (λ g. IsAtRest g c life) (sym (stage-same s r q i.untold i.running x life)) (rest x c life at (sym (life-same x) ∙ its))

pub alike-held : (s : SpaceNo) (m n : Readings) → AlikeButDemands m n → SameHeld s m n
alike-held s m n i = record {
  space = ap (λ x. space_at x s) i.state;
  untold = ap (λ x. slice_index_or x s.0 []) i.untold;
  running = i.running;
  lives = i.lives;
}

pub driven-hears_same : (w : WorkloadView) (s : Setting) (m n : Readings) (a : ActNo) (u : DrivenSpace) (cs : Contexts DrivenContext)
    → IsOfSpace w s → AlikeButDemands m n → driven_hears w s m a u cs → driven_hears w s n a u cs
driven-hears_same w s m n a u cs of same k =
    let i = alike-held s.space m n same in record {
      holds = held-holds s.space m n i u.base.shared cs k.holds;
      others = held-others s.space m n i a cs k.others;
      lowers = k.lowers;
      runs = λ life is. held-stage s.space m n i a life.proc life ∙ k.runs life (sym (life-same s.space m n i a) ∙ is);
    }

-- an event's beginning
pub begun-held : (s : SpaceNo) (w : WorkloadView) (ev : Event) (r : Readings) → SameHeld s r (event_begun w ev r)
begun-held s w ev r = record { space = refl; untold = refl; running = refl; lives = refl }
