-- What a change of one space does to where threads are, and to what always holds of a replay.
use Rattle.std.proofs.Common.{◌≡◌, ◌≢◌, ℕ, ◌<◌, true, false, ◌&&◌, ◌||◌, ◌==◌, List, length, get_or, set, inl, inr, sym, ap, subst, ◌∙◌, arith}
use Rattle.std.proofs.lemmas.Bool.{cases_eq, cases_lt}
use Rattle.std.proofs.lemmas.List.{length-set, get_or-set_same, get_or-set_other, get_or_past}
use Rattle.sa_base.specs.declared.number.ProcNo.{ProcNo}
use Rattle.sa_base.specs.declared.number.SpaceNo.{SpaceNo}
use Rattle.sa_base.specs.declared.number.ThreadNo.{ThreadNo}
use Rattle.sa_spaces.specs.Space.{SpaceView}
use Rattle.sa_sync.specs.Sync.{waits_of}
use Rattle.sa_laws.specs.declared.place.Place.{Place}
use Rattle.sa_laws.specs.declared.place.Place.TheVariants as places
use Rattle.sa_laws.specs.State.{Thread, SpaceState, at_start, thread_in, put_thread, no_space, is_waiting, no_threads}
use Rattle.sa_replay.specs.Running.{is_settled, can_move, HasDeclared}
use Rattle.sa_replay.specs.Spaces.{space_in, with_space_in, place_in}
use Rattle.sa_replay.specs.Inside.{AreDeclared}
use Rattle.sa_replay.proofs.IndexLemmas.{OthersRun}

-- a thread that is not done is one of a space that is there
pub is_there : (spaces : List SpaceState) (s : SpaceNo) (t : ThreadNo) → place_in spaces s t ≢ places.Done → s.0 < length spaces
is_there spaces s t live = elim (cases_lt s.0 (length spaces)) [
  | inl within ↦ within
  | inr past ↦ absurd (live (ap (λ (x : SpaceState). (thread_in x t).place) (get_or_past spaces s.0 no_threads past)))
]

pub moves_there : (spaces : List SpaceState) (s : SpaceNo) (t : ThreadNo) → can_move (space_in spaces s) t ≡ true → s.0 < length spaces
moves_there spaces s t can = elim (cases_lt s.0 (length spaces)) [
  | inl within ↦ within
  | inr past ↦
      let none : can_move (space_in spaces s) t ≡ false = ap (λ (x : SpaceState). can_move x t) (get_or_past spaces s.0 no_threads past) in
      let both : true ≡ false = sym can ∙ none in cc
]

-- a thread that is done stays where it is
can_not : (x : SpaceState) (t : ThreadNo) → (thread_in x t).place ≡ places.Done → can_move x t ≡ false
can_not x t done = ap (λ (place : Place). is_settled place || (is_waiting place && waits_of x.sync t.0 == 0)) done

-- and was made
pub moves_made : (x : SpaceState) (t : ThreadNo) → can_move x t ≡ true → t.0 < length x.threads
moves_made x t can = elim (cases_lt t.0 (length x.threads)) [
  | inl made ↦ made
  | inr past ↦
      let none : can_move x t ≡ false = can_not x t (ap (λ (y : Thread). y.place) (get_or_past x.threads t.0 (at_start 0 places.Done) past)) in
      let both : true ≡ false = sym can ∙ none in cc
]

-- once one space is another in which the other threads run where they ran
module _ (spaces : List SpaceState) (s : SpaceNo) (t : ThreadNo) (x : SpaceState) (within : s.0 < length spaces) where
  pub own_place : place_in (with_space_in spaces s x) s t ≡ (thread_in x t).place
  own_place = ap (λ (y : SpaceState). (thread_in y t).place) (get_or-set_same spaces s.0 x no_threads within)

  of_space : (r : SpaceNo) → r.0 ≡ s.0 → space_in (with_space_in spaces s x) r ≡ x
  of_space r same = ap (λ n. get_or (set spaces s.0 x) n no_threads) same ∙ get_or-set_same spaces s.0 x no_threads within

  old_space : (r : SpaceNo) → r.0 ≡ s.0 → space_in spaces r ≡ space_in spaces s
  old_space r same = ap (λ n. get_or spaces n no_threads) same

  other_space : (r : SpaceNo) → r.0 ≢ s.0 → space_in (with_space_in spaces s x) r ≡ space_in spaces r
  other_space r other = get_or-set_other spaces s.0 r.0 x no_threads other

  pub others_run : ((u : ThreadNo) (p : ProcNo) → u.0 ≢ t.0 → (thread_in x u).place ≡ places.Running p
      → (thread_in (space_in spaces s) u).place ≡ places.Running p)
      → ((u : ThreadNo) (p : ProcNo) → u.0 ≢ t.0 → (thread_in (space_in spaces s) u).place ≡ places.Running p → (thread_in x u).place ≡ places.Running p)
      → OthersRun s t (place_in spaces) (place_in (with_space_in spaces s x))
  others_run runs ran = record {
    before = λ r u p other is. elim (cases_eq r.0 s.0) [
      | inl same ↦
          ap (λ (y : SpaceState). (thread_in y u).place) (old_space r same)
          ∙ runs u p (λ e. other (same, e)) (sym (ap (λ (y : SpaceState). (thread_in y u).place) (of_space r same)) ∙ is)
      | inr apart ↦ sym (ap (λ (y : SpaceState). (thread_in y u).place) (other_space r apart)) ∙ is
    ];
    since = λ r u p other is. elim (cases_eq r.0 s.0) [
      | inl same ↦
          ap (λ (y : SpaceState). (thread_in y u).place) (of_space r same)
          ∙ ran u p (λ e. other (same, e)) (sym (ap (λ (y : SpaceState). (thread_in y u).place) (old_space r same)) ∙ is)
      | inr apart ↦ ap (λ (y : SpaceState). (thread_in y u).place) (other_space r apart) ∙ is
    ];
  }

  -- what the workload declares is there still
  pub declared-set : (defs : List SpaceView) → AreDeclared defs spaces
      → (HasDeclared (get_or defs s.0 no_space) (space_in spaces s).sync → HasDeclared (get_or defs s.0 no_space) x.sync)
      → AreDeclared defs (with_space_in spaces s x)
  declared-set defs declared keeps k below =
      let below' : k < length spaces = omega (arith, length-set spaces s.0 x, below) in
      elim (cases_eq k s.0) [
        | inl same ↦
            let own : HasDeclared (get_or defs s.0 no_space) x.sync = keeps (declared s.0 within) in
            subst (λ (n : ℕ). HasDeclared (get_or defs n no_space) (get_or (set spaces s.0 x) n no_threads).sync) (sym same)
            (subst (λ (y : SpaceState). HasDeclared (get_or defs s.0 no_space) y.sync) (sym (get_or-set_same spaces s.0 x no_threads within)) own)
        | inr other ↦
            subst (λ (y : SpaceState). HasDeclared (get_or defs k no_space) y.sync) (sym (get_or-set_other spaces s.0 k x no_threads other)) (declared k below')
      ]

-- a thread that is put elsewhere
module _ (place : Place) (x : SpaceState) (t : ThreadNo) (made : t.0 < length x.threads) where
  pub put_own : (thread_in (put_thread place x t) t).place ≡ place
  put_own = ap (λ (y : Thread). y.place) (get_or-set_same x.threads t.0 (record (thread_in x t) { place = place }) (at_start 0 places.Done) made)

  pub put_other : (u : ThreadNo) → u.0 ≢ t.0 → (thread_in (put_thread place x t) u).place ≡ (thread_in x u).place
  put_other u other =
      ap (λ (y : Thread). y.place) (get_or-set_other x.threads t.0 u.0 (record (thread_in x t) { place = place }) (at_start 0 places.Done) other)

-- a thread of a space that is there is put elsewhere
module _ (spaces : List SpaceState) (s : SpaceNo) (t : ThreadNo) (place : Place) (can : can_move (space_in spaces s) t ≡ true) where
  pub placed_others : OthersRun s t (place_in spaces) (place_in (with_space_in spaces s (put_thread place (space_in spaces s) t)))
  placed_others =
      let x = space_in spaces s in
      let made = moves_made x t can in
      others_run spaces s t (put_thread place x t) (moves_there spaces s t can)
      (λ u p other is. sym (put_other place x t made u other) ∙ is)
      (λ u p other is. put_other place x t made u other ∙ is)

  pub placed_own : place_in (with_space_in spaces s (put_thread place (space_in spaces s) t)) s t ≡ place
  placed_own =
      let x = space_in spaces s in own_place spaces s t (put_thread place x t) (moves_there spaces s t can) ∙ put_own place x t (moves_made x t can)

  pub placed_declared : (defs : List SpaceView) → AreDeclared defs spaces → AreDeclared defs (with_space_in spaces s (put_thread place (space_in spaces s) t))
  placed_declared defs declared =
      let x = space_in spaces s in declared-set spaces s t (put_thread place x t) (moves_there spaces s t can) defs declared (λ own. own)
