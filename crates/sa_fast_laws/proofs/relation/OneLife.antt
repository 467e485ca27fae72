-- A step of one life changes what one context has, and leaves all others alone.
use Rattle.std.proofs.Common.{[], ◌∷◌, ◌≡◌, ◌≢◌, ℕ, ◌≤◌, List, Contains, count_by, Option, Some, None, IsSome, slice_index_or, ◌⊎◌, refl, sym, ap, ◌∙◌, subst, inl, inr, arith}
use Rattle.std.proofs.lemmas.Bool.{cases_eq, cases_lt}
use Rattle.std.proofs.lemmas.Option.{same_Some, none-some}
use Rattle.sa_base.specs.declared.number.ActNo.{ActNo}
use Rattle.sa_base.specs.declared.number.SpaceNo.{SpaceNo}
use Rattle.sa_base.specs.declared.number.ThreadNo.{ThreadNo}
use Rattle.sa_base.specs.declared.record.Note.TheVariants.{Preempted, Unblocked}
use Rattle.sa_lemmas.proofs.FunctionUpdates.{put-same, put-other, put-at}
use Rattle.sa_lemmas.specs.Function.{put}
use Rattle.sa_links.specs.Lists.{list_at}
use Rattle.sa_code.specs.declared.state.Frame.{Frame}
use Rattle.sa_fast.proofs.WorkSteps.{one_same}
use Rattle.sa_fast.specs.Rest.{one_of, threads_at_rest, empty_at, place_at}
use Rattle.sa_fast.specs.declared.shared.Shared.{Shared}
use Rattle.sa_abstract.specs.Calls.{Contexts}
use Rattle.sa_abstract.specs.Setting.{Setting}
use Rattle.sa_package_model.proofs.Changing.{other_hand, name_none, name_full}
use Rattle.sa_package_model.specs.Context.{carried_by}
use Rattle.sa_package_model.specs.Hands.{threads_in, threads_of, name_of}
use Rattle.sa_package_model.specs.Rules.{load}
use Rattle.sa_package_model.specs.Stands.{IsStanding}
use Rattle.sa_package_model.specs.declared.context.Context.{Context}
use Rattle.sa_package_model.specs.declared.package.Package.{Package}
use Rattle.sa_laws.specs.Life.{Life}
use Rattle.sa_laws.specs.Readings.{Readings, running_of, untold_of, life_of, load_of}
use Rattle.sa_laws.specs.State.{SpaceState, space_at, thread_in}
use Rattle.sa_fast_laws.proofs.relation.Hands.{split}
use Rattle.sa_fast_laws.proofs.relation.Stages.{stage-same}
use Rattle.sa_fast_laws.specs.FastFits.{is_of, FitsShared, Holds}
use Rattle.sa_fast_laws.specs.Life.{stopped_in, beside, carried, HasLife}
use Rattle.sa_fast_laws.specs.Stage.{Stage, stage_on, stage_of}
use Rattle.sa_fast_laws.specs.View.{view}

-- a thread that a context carries is in its hand
pub carried_one : (c : Context) (t : ThreadNo) → carried_by c.state ≡ Some t → carried (view c) t.0 ≡ 1
carried_one c t e = ap (λ o. one_of o t.0) e ∙ one_same t.0 t.0 refl

pub carried_has : (works : List (List ℕ)) (c : Context) (t : ThreadNo) → carried_by c.state ≡ Some t → 1 ≤ threads_of works (Some c) t.0
carried_has works c t e = let one = carried_one c t e in let all = split works c t.0 in omega arith

stopped_less : (fs : List Frame) (t : ℕ) → stopped_in fs t ≤ threads_in fs t
stopped_less [] t = omega arith
stopped_less (f ∷ fs) t = let rest = stopped_less fs t in omega arith

pub stopped_beside : (works : List (List ℕ)) (c : Context) (t : ℕ) → 1 ≤ stopped_in c.sections t → 1 ≤ beside works (view c) t
stopped_beside works c t some = let less = stopped_less c.sections t in omega arith

pub stopped_has : (works : List (List ℕ)) (c : Context) (t : ℕ) → 1 ≤ stopped_in c.sections t → 1 ≤ threads_of works (Some c) t
stopped_has works c t some = let all = split works c t in let beside_it = stopped_beside works c t some in omega arith

-- ANOTHER LIFE keeps what it has where its work list and its thread stay
pub other-life : (s : SpaceNo) (u v : Shared) (x y : SpaceState) (stage : Stage) (d : Context) (life : Life)
    → ((t : ℕ) → beside v.works (view d) t ≡ beside u.works (view d) t)
    → ((t : ThreadNo) → 1 ≤ threads_of u.works (Some d) t.0 → (thread_in y t).place ≡ (thread_in x t).place)
    → ((t : ThreadNo) → 1 ≤ threads_of u.works (Some d) t.0 → place_at v t.0 ≡ place_at u t.0)
    → HasLife s u x stage (view d) life → HasLife s v y stage (view d) life
other-life s u v x y stage d life works places kept h = record {
  space = h.space;
  locks = h.locks;
  cont = h.cont;
  hand = record {
    all = λ t some. h.hand.all t (let same = works t in omega arith);
    own = h.hand.own;
    only = λ t some. let was = h.hand.only t some in let same = works t in omega arith;
  };
  place = λ t e. places t (carried_has u.works d t e) ∙ h.place t e;
  kept = λ t e. kept t (carried_has u.works d t e) ∙ h.kept t e;
  stopped = λ t some. kept t (stopped_has u.works d t.0 some) ∙ h.stopped t some;
  named = h.named;
}

-- ONE LIFE CHANGES: what is to be shown of it
pub record IsHeld (s : SpaceNo) (r q : Readings) (u v : Package) (a : ActNo) (c new : Context) : Type 0 where
  pub space : FitsShared v.shared (space_at q.state s)
  pub load : load_of q s ≡ load v
  pub was : Life
  pub life : Life
  pub lives : q.lives ≡ put r.lives a.0 (Some life)
  pub old : life_of r a ≡ Some was
  pub stays : (life.space ≡ was.space) × (life.proc ≡ was.proc)
  pub untold : untold_of q s ≡ untold_of r s
  pub running : q.running ≡ r.running
  pub mine : HasLife s v.shared (space_at q.state s) (stage_of r s a life) (view new) life
  -- threads that are neither at rest nor in its hand stay where they are
  pub places : (t : ThreadNo) → threads_at_rest u.shared t.0 ≡ 0 → threads_of u.shared.works (Some c) t.0 ≡ 0
      → (thread_in (space_at q.state s) t).place ≡ (thread_in (space_at r.state s) t).place
  pub kept : (t : ThreadNo) → threads_at_rest u.shared t.0 ≡ 0 → threads_of u.shared.works (Some c) t.0 ≡ 0
      → place_at v.shared t.0 ≡ place_at u.shared t.0
  -- work lists of others stay
  pub works : (l : ℕ) → name_of (Some c) l ≡ 0 → empty_at u.shared.works l ≡ 0 → list_at v.shared.works l ≡ list_at u.shared.works l

module _ (set : Setting) (e : ℕ) (u : Package) (cs : Contexts Context) (h : IsStanding set e u cs) (s : SpaceNo) (r : Readings) (k : Holds s r u cs)
    (a : ActNo) (c : Context) (is : cs a.0 ≡ Some c) where
  -- what another context carries is neither at rest nor in this one's hand
  pub other_rest : (b : ℕ) (d : Context) → cs b ≡ Some d → (t : ThreadNo) → 1 ≤ threads_of u.shared.works (Some d) t.0
      → threads_at_rest u.shared t.0 ≡ 0
  other_rest b d there t has =
      let some : 1 ≤ threads_of u.shared.works (cs b) t.0 = subst (λ x. 1 ≤ threads_of u.shared.works x t.0) (sym there) has in
      let once = h.threads.once b t.0 in omega arith

  pub other_none : (b : ℕ) (d : Context) → cs b ≡ Some d → b ≢ a.0 → (t : ℕ) → 1 ≤ threads_of u.shared.works (Some d) t
      → threads_of u.shared.works (Some c) t ≡ 0
  other_none b d there ne t has =
      let some : 1 ≤ threads_of u.shared.works (cs b) t = subst (λ x. 1 ≤ threads_of u.shared.works x t) (sym there) has in
      elim (cases_lt (threads_of u.shared.works (Some c) t) 1) [
        | inl less ↦ omega arith
        | inr more ↦ absurd (ne (h.threads.apart b a.0 t some (subst (λ x. 1 ≤ threads_of u.shared.works x t) (sym is) more)))
      ]

  module _ (q : Readings) (v : Package) (new : Context) (i : IsHeld s r q u v a c new) where
    other_beside : (b : ℕ) (d : Context) → cs b ≡ Some d → b ≢ a.0 → (t : ℕ) → beside v.shared.works (view d) t ≡ beside u.shared.works (view d) t
    other_beside b d there ne t =
        let same = other_hand set e u cs h v.shared.works b (Some d) there
        (λ l some. let has : 1 ≤ name_of (cs b) l = subst (λ x. 1 ≤ name_of x l) (sym there) some in
        i.works l (ap (λ x. name_of x l) (sym is) ∙ name_none set e u cs h a.0 b l ne has) (name_full set e u cs h b l has)) t in
        let one = split u.shared.works d t in let two = split v.shared.works d t in omega arith

    lives_other : (b : ℕ) → b ≢ a.0 → q.lives b ≡ r.lives b
    lives_other b ne = ap (λ (f : ℕ → Option Life). f b) i.lives ∙ put-other r.lives a.0 b (Some i.life) ne

    lives_here : q.lives a.0 ≡ Some i.life
    lives_here = ap (λ (f : ℕ → Option Life). f a.0) i.lives ∙ put-same r.lives a.0 (Some i.life)

    stages : (b : ActNo) (life : Life) → stage_of q s b life ≡ stage_of r s b life
    stages b life = stage-same s r q i.untold i.running b life

    still_some : (b : ActNo) → IsSome (cs b.0) → IsSome (put cs a.0 (Some new) b.0)
    still_some b some = elim (cases_eq b.0 a.0) [
      | inl here ↦ subst IsSome (sym (put-at cs a.0 b.0 (Some new) here)) refl
      | inr ne ↦ subst IsSome (sym (put-other cs a.0 b.0 (Some new) ne)) some
    ]

    pub held-holds : Holds s q v (put cs a.0 (Some new))
    held-holds = record {
      space = i.space;
      load = i.load;
      lives = λ b d at. elim (cases_eq b.0 a.0) [
        | inl here ↦
            let one : d ≡ new = same_Some d new (sym at ∙ put-at cs a.0 b.0 (Some new) here) in
            let act : b ≡ a = ap (λ n. record { 0 = n }) here in (
              i.life,
              ap q.lives here ∙ lives_here,
              subst (λ x. HasLife s v.shared (space_at q.state s) (stage_of q s b i.life) (view x) i.life) (sym one)
                  (subst (λ g. HasLife s v.shared (space_at q.state s) g (view new) i.life)
                  (sym (stages b i.life ∙ ap (λ x. stage_of r s x i.life) act)) i.mine),
            )
        | inr ne ↦
            let there : cs b.0 ≡ Some d = sym (put-other cs a.0 b.0 (Some new) ne) ∙ at in
            let was = k.lives b d there in (
              was.0,
              lives_other b.0 ne ∙ was.1,
              subst (λ g. HasLife s v.shared (space_at q.state s) g (view d) was.0) (sym (stages b was.0))
                  (other-life s u.shared v.shared (space_at r.state s) (space_at q.state s) (stage_of r s b was.0) d was.0 (other_beside b.0 d there ne)
                  (λ t e. i.places t (other_rest b.0 d there t e) (other_none b.0 d there ne t.0 e))
                  (λ t e. i.kept t (other_rest b.0 d there t e) (other_none b.0 d there ne t.0 e)) was.2),
            )
      ];
      others = λ b life at mine none. elim (cases_eq b.0 a.0) [
        | inl here ↦ absurd (none-some new (sym none ∙ put-at cs a.0 b.0 (Some new) here))
        | inr ne ↦ k.others b life (sym (lives_other b.0 ne) ∙ at) mine (sym (put-other cs a.0 b.0 (Some new) ne) ∙ none)
      ];
      noted = λ b there. still_some b (k.noted b (subst (λ ns. Contains ns (Preempted b) ⊎ Contains ns (Unblocked b)) i.untold there));
      single = λ b. subst (λ ns. count_by (is_of b) ns ≤ 1) (sym i.untold) (k.single b);
      runs = λ p b life at there mine.
          let at_r : running_of r p ≡ Some b = sym (ap (λ ps. slice_index_or ps p.0 None) i.running) ∙ at in
          elim (cases_eq b.0 a.0) [
            | inl here ↦
                let one : life ≡ i.life = same_Some life i.life (sym there ∙ ap q.lives here ∙ lives_here) in
                let old_at : life_of r b ≡ Some i.was = ap r.lives here ∙ i.old in
                let old = k.runs p b i.was at_r old_at (sym i.stays.0 ∙ ap (λ (l : Life). l.space) (sym one) ∙ mine) in (
                  still_some b old.0,
                  ap (λ (l : Life). l.proc) one ∙ i.stays.1 ∙ old.1,
                  stages b life ∙ ap (stage_on r s b) (ap (λ (l : Life). l.proc) one ∙ i.stays.1) ∙ old.2,
                )
            | inr ne ↦ let old = k.runs p b life at_r (sym (lives_other b.0 ne) ∙ there) mine in (still_some b old.0, old.1, stages b life ∙ old.2)
          ];
    }
