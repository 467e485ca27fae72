-- What a change of one space does to the list of spaces and to its counts.
use Rattle.std.proofs.Common.{◌≡◌, ℕ, ◌+◌, ◌<◌, ◌≤◌, true, false, not, cond, List, length, get_or, set, sym, ap, subst, ◌∙◌, arith}
use Rattle.std.proofs.lemmas.List.{length-set, get_or_read, set-get_or}
use Rattle.std.proofs.lemmas.List.Sums.{count_by-le-length}
use Rattle.sa_base.specs.declared.number.SpaceNo.{SpaceNo}
use Rattle.sa_base.specs.declared.number.ThreadNo.{ThreadNo}
use Rattle.sa_base.specs.declared.limits.TheConstants.{MAX_THREADS}
use Rattle.sa_spaces.specs.Space.{SpaceView}
use Rattle.sa_laws.specs.State.{SpaceState, thread_in, no_threads}
use Rattle.sa_laws.specs.Effect.{Effect, effect, effect_of}
use Rattle.sa_laws.specs.Ends.{are_done, are_at_rest}
use Rattle.sa_replay.specs.Running.{instr_in, is_running, can_move, CanRun, IsFull}
use Rattle.sa_replay.specs.Shape.{IsShaped}
use Rattle.sa_replay.specs.Spaces.{space_in, with_space_in, place_in, run_of, IsCounted, HasRun}
use Rattle.sa_replay.proofs.ChangeLemmas.{is_there, moves_there, own_place}
use Rattle.sa_replay.proofs.CountChanges.{count-set, count-some}

-- a thread that runs is one of a space that is there
pub runs_there : (spaces : List SpaceState) (def : SpaceView) (s : SpaceNo) (t : ThreadNo) → CanRun def (space_in spaces s) t → s.0 < length spaces
runs_there spaces def s t can = is_there spaces s t (λ done. let both : true ≡ false = sym can.runs ∙ ap is_running done in cc)

-- no count is above what a count may be
pub live_few : (spaces : List SpaceState) (live restless : ℕ) → IsCounted spaces live restless → live ≤ MAX_THREADS
live_few spaces live restless counted =
    omega (arith, count_by-le-length (λ (x : SpaceState). not (are_done x)) spaces, counted.few, counted.lives)

pub restless_few : (spaces : List SpaceState) (live restless : ℕ) → IsCounted spaces live restless → restless ≤ MAX_THREADS
restless_few spaces live restless counted =
    omega (arith, count_by-le-length (λ (x : SpaceState). not (are_at_rest x)) spaces, counted.few, counted.restless_ones)

-- the counts where space x, which is in place i, becomes another
module _ (spaces : List SpaceState) (i : ℕ) (x : SpaceState) (within : i < length spaces) (is : x ≡ get_or spaces i x) (live restless : ℕ)
    (counted : IsCounted spaces live restless) where
  pub live_some : cond (not (are_done x)) 1 0 ≤ live
  live_some = count-some (λ (z : SpaceState). not (are_done z)) spaces i x within is live counted.lives

  pub restless_some : cond (not (are_at_rest x)) 1 0 ≤ restless
  restless_some = count-some (λ (z : SpaceState). not (are_at_rest z)) spaces i x within is restless counted.restless_ones

  pub counted-set : (y : SpaceState) (alive awake : ℕ) → alive + cond (not (are_done x)) 1 0 ≡ live + cond (not (are_done y)) 1 0
      → awake + cond (not (are_at_rest x)) 1 0 ≡ restless + cond (not (are_at_rest y)) 1 0 → IsCounted (set spaces i y) alive awake
  counted-set y alive awake lives rests = record {
    few = omega (arith, length-set spaces i y, counted.few);
    lives = count-set (λ (z : SpaceState). not (are_done z)) spaces i x within is y live alive counted.lives lives;
    restless_ones = count-set (λ (z : SpaceState). not (are_at_rest z)) spaces i x within is y restless awake counted.restless_ones rests;
  }

  -- one that is as much alive and at rest as it was leaves them as they are
  pub counted-kept : (y : SpaceState) → are_done y ≡ are_done x → are_at_rest y ≡ are_at_rest x → IsCounted (set spaces i y) live restless
  counted-kept y done rest =
      counted-set y live restless (ap (λ b. live + cond (not b) 1 0) (sym done)) (ap (λ b. restless + cond (not b) 1 0) (sym rest))

-- the spaces that are kept are those of the view, and the place is that of the number
module _ (kept now : List SpaceState) (same : kept ≡ now) (i : ℕ) (s : SpaceNo) (at : i ≡ s.0) (there : s.0 < length now) where
  pub place_within : i < length kept
  place_within = omega (arith, at, there, ap length same)

  pub set_is : (y : SpaceState) → set kept i y ≡ with_space_in now s y
  set_is y = ap (λ (spaces : List SpaceState). set spaces i y) same ∙ ap (λ (n : ℕ). set now n y) at

  module _ (x : SpaceState) (is : x ≡ get_or kept i x) where
    pub space_is : x ≡ space_in now s
    space_is =
        get_or_read kept i x place_within is no_threads
        ∙ ap (λ (spaces : List SpaceState). get_or spaces i no_threads) same ∙ ap (λ (n : ℕ). get_or now n no_threads) at

    -- a thread that can run in the view can run in that space
    pub can_run : (def : SpaceView) (t : ThreadNo) → CanRun def (space_in now s) t → CanRun def x t
    can_run def t can = subst (λ (y : SpaceState). CanRun def y t) (sym space_is) can

    -- and has run its next instruction where that is what becomes of it
    pub has_run : (def : SpaceView) (t : ThreadNo) (y : SpaceState) (roused : List ThreadNo)
        → effect y roused ≡ effect_of x t (thread_in x t) (instr_in def (thread_in x t)) → IsShaped x t (thread_in x t).place y
        → HasRun now def s t (set kept i y) roused
    has_run def t y roused ran shape =
        let done : effect y roused ≡ run_of def (space_in now s) t = ran ∙ ap (λ (z : SpaceState). run_of def z t) space_is in
        record {
          spaces = set_is y ∙ ap (λ (e : Effect). with_space_in now s e.space) done;
          woken = ap (λ (e : Effect). e.roused) done;
          shape =
              subst (λ (e : Effect). IsShaped (space_in now s) t (place_in now s t) e.space) done
              (subst (λ (z : SpaceState). IsShaped z t (thread_in z t).place y) space_is shape);
        }

    -- with that space put back nothing has changed
    pub kept_there : (y : SpaceState) → y ≡ x → set kept i y ≡ now
    kept_there y stays = ap (set kept i) (stays ∙ is) ∙ set-get_or kept i x ∙ same

    -- the thread is where that space says, if that is where it was
    pub stays_placed : (t : ThreadNo) (y : SpaceState) → (thread_in y t).place ≡ (thread_in x t).place → place_in (set kept i y) s t ≡ place_in now s t
    stays_placed t y stays =
        ap (λ (spaces : List SpaceState). place_in spaces s t) (set_is y) ∙ own_place now s t y there ∙ stays
        ∙ ap (λ (z : SpaceState). (thread_in z t).place) space_is

    -- an instruction has no room in that space exactly where it has none in the view
    pub full_there : (def : SpaceView) (t : ThreadNo) → IsFull x.sync (instr_in def (thread_in x t))
        → IsFull (space_in now s).sync (instr_in def (thread_in (space_in now s) t))
    full_there def t full = subst (λ (z : SpaceState). IsFull z.sync (instr_in def (thread_in z t))) space_is full

    pub full_here : (def : SpaceView) (t : ThreadNo) → IsFull (space_in now s).sync (instr_in def (thread_in (space_in now s) t))
        → IsFull x.sync (instr_in def (thread_in x t))
    full_here def t full = subst (λ (z : SpaceState). IsFull z.sync (instr_in def (thread_in z t))) (sym space_is) full

-- the place of a space of which a thread can run, or can be put elsewhere, is one of those that are kept
pub runs_within : (kept now : List SpaceState) → kept ≡ now → (i : ℕ) (s : SpaceNo) → i ≡ s.0 → (def : SpaceView) (t : ThreadNo)
    → CanRun def (space_in now s) t → i < length kept
runs_within kept now same i s at def t can = place_within kept now same i s at (runs_there now def s t can)

pub moves_within : (kept now : List SpaceState) → kept ≡ now → (i : ℕ) (s : SpaceNo) → i ≡ s.0 → (t : ThreadNo) → can_move (space_in now s) t ≡ true
    → i < length kept
moves_within kept now same i s at t can = place_within kept now same i s at (moves_there now s t can)
