-- What is kept where one thread is put elsewhere, and where a virtual processor's life changes.
use Rattle.std.proofs.Common.{◌≡◌, ℕ, ◌<◌, ◌≤◌, true, List, length, Option, Some, None, inl, inr, refl, sym, ap, subst, ◌∙◌, arith}
use Rattle.std.specs.Option.{option_map}
use Rattle.std.proofs.Math.Path.{fun_ext}
use Rattle.std.proofs.lemmas.Bool.{cases_eq, or_left}
use Rattle.std.proofs.lemmas.List.{length-set, get_or-set_same, get_or-set_other}
use Rattle.sa_base.specs.declared.number.SpaceNo.{SpaceNo}
use Rattle.sa_base.specs.declared.number.ThreadNo.{ThreadNo}
use Rattle.sa_base.specs.declared.number.ActNo.{ActNo}
use Rattle.sa_spaces.specs.Workload.{WorkloadView}
use Rattle.sa_lemmas.specs.Function.{put}
use Rattle.sa_lemmas.proofs.FunctionUpdates.{put-at, put-other, put-self}
use Rattle.sa_laws.specs.declared.place.Place.{Place}
use Rattle.sa_laws.specs.declared.place.Place.TheVariants as places
use Rattle.sa_laws.specs.State.{SpaceState, at_start, thread_in, put_thread, space_def, is_due}
use Rattle.sa_laws.specs.Life.{Life, has_lock}
use Rattle.sa_laws.specs.Record.{with_life}
use Rattle.sa_replay.specs.Running.{IsAt, is_settled, can_move}
use Rattle.sa_replay.specs.Spaces.{space_in, with_space_in, place_in}
use Rattle.sa_virtual.specs.Virtual.{thread_of_life}
use Rattle.sa_virtual.specs.Holding.{one_if, kind, at_no, threads_of, IsSized, StandWithin, HaveLives}
use Rattle.sa_virtual.proofs.Agree.{this_space, other_space}

-- a fact of each space, one of which is another
pub each_set : (P : ℕ → SpaceState → Type 0) (spaces : List SpaceState) (s : SpaceNo) (x : SpaceState) → s.0 < length spaces
    → ((r : ℕ) → P r (at_no spaces r)) → P s.0 x → (r : ℕ) → P r (at_no (with_space_in spaces s x) r)
each_set P spaces s x inside all here r = elim (cases_eq r s.0) [
  | inl e ↦ subst (λ n. P n (at_no (with_space_in spaces s x) n)) (sym e) (subst (P s.0) (sym (this_space spaces s x inside)) here)
  | inr ne ↦ subst (P r) (sym (other_space spaces s x inside r ne)) (all r)
]

abbrev Within : WorkloadView → ℕ → SpaceState → Type 0
Within w r x = (t : ℕ) → t < length x.threads → IsAt (space_def w (record { 0 = r })) (thread_in x (record { 0 = t }))

module _ (w : WorkloadView) (spaces : List SpaceState) (s : SpaceNo) (t : ThreadNo) (new : Place) (inside : s.0 < length spaces) where
  pub sized_put : ((r : ℕ) → IsSized (at_no spaces r)) → (r : ℕ) → IsSized (at_no (with_space_in spaces s (put_thread new (space_in spaces s) t)) r)
  sized_put sized = each_set (λ r x. IsSized x) spaces s (put_thread new (space_in spaces s) t) inside sized
      (let x = space_in spaces s in record {
        few = omega (arith, (sized s.0).few, length-set x.threads t.0 (record (thread_in x t) { place = new }));
        joiners = (sized s.0).joiners;
      })

  put_at : (x : SpaceState) → Within w s.0 x → Within w s.0 (put_thread new x t)
  put_at x all u below =
      let thread = record (thread_in x t) { place = new } in
      let made : u < length x.threads = omega (arith, below, length-set x.threads t.0 thread) in
      elim (cases_eq u t.0) [
        | inl e ↦ subst (λ n. IsAt (space_def w s) (thread_in (put_thread new x t) (record { 0 = n }))) (sym e)
            (let at = all t.0 (omega (arith, e, made)) in
            subst (IsAt (space_def w s)) (sym (get_or-set_same x.threads t.0 thread (at_start 0 places.Done) (omega (arith, e, made))))
            (record { in_space = at.in_space; in_program = at.in_program }))
        | inr ne ↦ subst (IsAt (space_def w s)) (sym (get_or-set_other x.threads t.0 u thread (at_start 0 places.Done) ne)) (all u made)
      ]

  pub within_put : StandWithin w spaces → StandWithin w (with_space_in spaces s (put_thread new (space_in spaces s) t))
  within_put within = each_set (Within w) spaces s (put_thread new (space_in spaces s) t) inside within (put_at (space_in spaces s) (within s.0))

-- a life that changes keeps its space, and has no lock still
pub record KeepsLife (f : Life → Life) : Type 0 where
  pub space : (life : Life) → (f life).space ≡ life.space
  pub locks : (life : Life) → has_lock (f life) ≡ has_lock life

pub lives_kept : (w : WorkloadView) (f : Life → Life) (a : ActNo) (lives : ℕ → Option Life) → KeepsLife f → HaveLives w lives
    → HaveLives w (with_life f (Some a) lives)
lives_kept w f a lives keeps have b = elim (cases_eq b.0 a.0) [
  | inl e ↦
      let old = have b in
      let is : with_life f (Some a) lives b.0 ≡ Some (f old.0) =
      put-at lives a.0 b.0 (option_map f (lives a.0)) e ∙ ap (λ n. option_map f (lives n)) (sym e) ∙ ap (option_map f) old.1 in
      (f old.0, is, keeps.space old.0 ∙ old.2, keeps.locks old.0 ∙ old.3)
  | inr ne ↦ let old = have b in (old.0, put-other lives a.0 b.0 (option_map f (lives a.0)) ne ∙ old.1, old.2, old.3)
]

pub threads_put : (f : Life → Life) (a : ActNo) (lives : ℕ → Option Life)
    → threads_of (with_life f (Some a) lives) ≡ put (threads_of lives) a.0 (thread_of_life (option_map f (lives a.0)))
threads_put f a lives = fun_ext (λ b. elim (cases_eq b a.0) [
  | inl e ↦ ap thread_of_life (put-at lives a.0 b (option_map f (lives a.0)) e)
      ∙ sym (put-at (threads_of lives) a.0 b (thread_of_life (option_map f (lives a.0))) e)
  | inr ne ↦ ap thread_of_life (put-other lives a.0 b (option_map f (lives a.0)) ne)
      ∙ sym (put-other (threads_of lives) a.0 b (thread_of_life (option_map f (lives a.0))) ne)
])

-- the thread of a life that changes, where it keeps its thread, and where it gets one
same_seen : (f : Life → Life) → ((life : Life) → (f life).thread ≡ life.thread) → (o : Option Life) → thread_of_life (option_map f o) ≡ thread_of_life o
same_seen f same None = refl
same_seen f same (Some life) = same life

pub threads_same : (f : Life → Life) (a : ActNo) (lives : ℕ → Option Life) → ((life : Life) → (f life).thread ≡ life.thread)
    → threads_of (with_life f (Some a) lives) ≡ threads_of lives
threads_same f a lives same = threads_put f a lives ∙ ap (put (threads_of lives) a.0) (same_seen f same (lives a.0)) ∙ put-self (threads_of lives) a.0

pub threads_new : (w : WorkloadView) (f : Life → Life) (a : ActNo) (lives : ℕ → Option Life) (o : Option ThreadNo) → HaveLives w lives
    → ((life : Life) → (f life).thread ≡ o)
    → threads_of (with_life f (Some a) lives) ≡ put (threads_of lives) a.0 o
threads_new w f a lives o have gets =
    threads_put f a lives ∙ ap (put (threads_of lives) a.0) (ap (λ x. thread_of_life (option_map f x)) (have a).1 ∙ gets (have a).0)

-- where a thread of this kind is
pub is_ready : (place : Place) → 1 ≤ one_if (kind place) 1 → place ≡ places.Ready
is_ready places.Ready some = refl
is_ready _ some = absurd (omega (arith, some))

pub is_carried : (place : Place) → 1 ≤ one_if (kind place) 2 → place ≡ places.Carried
is_carried places.Carried some = refl
is_carried _ some = absurd (omega (arith, some))

pub is_blocked : (place : Place) → 1 ≤ one_if (kind place) 3 → place ≡ places.Blocked
is_blocked places.Blocked some = refl
is_blocked _ some = absurd (omega (arith, some))

-- a thread that is settled can be put elsewhere
pub settled_moves : (spaces : List SpaceState) (s : SpaceNo) (t : ThreadNo) (place : Place) → is_settled place ≡ true → place_in spaces s t ≡ place
    → can_move (space_in spaces s) t ≡ true
settled_moves spaces s t place settled is = or_left (is_settled (place_in spaces s t)) (is_due (space_in spaces s) t) (ap is_settled is ∙ settled)
