-- An instruction that stays within its thread leaves where the thread is.
use Rattle.std.proofs.Common.{◌≡◌, ℕ, zero, suc, Bool, true, ◌&&◌, List, [], ◌∷◌, get_or, set, inl, refl, sym, ap, subst, ◌∙◌}
use Rattle.std.specs.List.{list_all}
use Rattle.std.proofs.lemmas.List.{get_or-set_same}
use Rattle.sa_base.specs.declared.number.ThreadNo.{ThreadNo}
use Rattle.sa_instr.specs.declared.instr.Instr.{Instr}
use Rattle.sa_instr.specs.declared.instr.Instr.TheVariants.{Compute, Set, Add, Sub, Jnz, Signal}
use Rattle.sa_spaces.specs.Space.{SpaceView}
use Rattle.sa_sync.specs.Sync.{Sync}
use Rattle.sa_laws.specs.declared.place.Place.TheVariants as places
use Rattle.sa_laws.specs.State.{Thread, SpaceState, at_start, thread_in, with_thread}
use Rattle.sa_laws.specs.Effect.{effect, effect_of}
use Rattle.sa_laws.specs.Ends.{is_done, is_at_rest}
use Rattle.sa_replay.specs.Running.{instr_in, CanRun, IsFull}
use Rattle.sa_replay.specs.Shape.{IsShaped}
use Rattle.sa_replay.specs.Local.{is_local, after_local, HasRunLocal}
use Rattle.sa_replay.proofs.ShapeLemmas.{own, runs_made}

-- what such an instruction does is the local effect
effect_is : (x : SpaceState) (t : ThreadNo) (thread : Thread) (instr : Instr) → is_local instr ≡ true
    → effect_of x t thread instr ≡ effect (with_thread x t (after_local instr thread)) []
effect_is x t thread Compute is = refl
effect_is x t thread (Set reg n) is = refl
effect_is x t thread (Add reg other) is = refl
effect_is x t thread (Sub reg other) is = refl
effect_is x t thread (Jnz reg place) is = refl
effect_is x t thread _ is = absurd cc

-- it signals no semaphore
has_room : (sync : Sync) (instr : Instr) → is_local instr ≡ true → IsFull sync instr → ⊥
has_room sync (Signal k) is full = absurd cc
has_room sync _ is full = full

-- a test that cannot tell a thread from the one in its place
all-set : {A : Type 0} (test : A → Bool) (xs : List A) (i : ℕ) (y d : A) → test y ≡ test (get_or xs i d) → list_all test (set xs i y) ≡ list_all test xs
all-set test [] i y d same = refl
all-set test (x ∷ xs) zero y d same = ap (λ b. b && list_all test xs) same
all-set test (x ∷ xs) (suc i) y d same = ap (λ b. test x && b) (all-set test xs i y d same)

module _ (def : SpaceView) (x : SpaceState) (t : ThreadNo) (new : List Thread) (can : CanRun def x t)
    (local : is_local (instr_in def (thread_in x t)) ≡ true) where
  abbrev after : Thread
  after = after_local (instr_in def (thread_in x t)) (thread_in x t)

  abbrev pub now : SpaceState
  now = record x { threads = new }

  pub has_run_local : new ≡ set x.threads t.0 after → HasRunLocal def x t now
  has_run_local gone =
      let is : with_thread x t after ≡ now = ap (λ (threads : List Thread). record x { threads = threads }) (sym gone) in
      record {
        room = has_room x.sync (instr_in def (thread_in x t)) local;
        effect = effect_is x t (thread_in x t) (instr_in def (thread_in x t)) local ∙ ap (λ (y : SpaceState). effect y []) is;
        shape = subst (λ (y : SpaceState). IsShaped x t (thread_in x t).place y) is (own x t (thread_in x t).place after (inl refl));
        place =
            ap (λ (y : SpaceState). (thread_in y t).place) (sym is)
            ∙ ap (λ (y : Thread). y.place) (get_or-set_same x.threads t.0 after (at_start 0 places.Done) (runs_made def x t can));
        done =
            ap (λ (threads : List Thread). list_all (λ (y : Thread). is_done y.place) threads) gone
            ∙ all-set (λ (y : Thread). is_done y.place) x.threads t.0 after (at_start 0 places.Done) refl;
        rest =
            ap (λ (threads : List Thread). list_all (λ (y : Thread). is_at_rest y.place) threads) gone
            ∙ all-set (λ (y : Thread). is_at_rest y.place) x.threads t.0 after (at_start 0 places.Done) refl;
      }
