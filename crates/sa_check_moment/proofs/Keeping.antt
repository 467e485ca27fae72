-- Records that neither make a thread ready nor run a ready one: the same threads are ready afterwards, in the same programs.
use Rattle.std.proofs.Common.{◌≡◌, ℕ, zero, suc, refl, sym, ◌∙◌, List, [], ◌∷◌, ◌++◌, length, true, false}
use Rattle.std.specs.Prelude.{Bool, if◌then◌else◌, nat_lt, ◌-◌, ◌^◌, get_or, slice_set}
use Rattle.sa_base.specs.declared.limits.TheConstants.{MAX_THREADS}
use Rattle.sa_base.specs.declared.number.ThreadNo.{ThreadNo}
use Rattle.sa_instr.specs.declared.instr.Reg.{Reg}
use Rattle.sa_instr.specs.declared.instr.Instr.{Instr}
use Rattle.sa_instr.specs.declared.instr.Instr.TheVariants as instr
use Rattle.sa_sync.specs.declared.answer.SyncAnswer.{SyncAnswer}
use Rattle.sa_sync.specs.declared.answer.SyncAnswer.TheVariants as answer
use Rattle.sa_sync.specs.Calls.{Change}
use Rattle.sa_laws.specs.declared.place.Place.{Place}
use Rattle.sa_laws.specs.declared.place.Place.TheVariants as place
use Rattle.sa_laws.specs.State.{SpaceState, Thread, with_thread, thread_in, put_thread, at_start}
use Rattle.sa_laws.specs.Effect.{effect, effect_of, answered, sync_effect, fork_effect, next_with, with_sync}
use Rattle.sa_ranks.specs.Pairs.{is_ready}

abbrev pub nobody : Thread
nobody = at_start 0 place.Done

-- the same are ready, in the same programs
pub record SameReady (old new : Thread) : Type 0 where
  pub ready : is_ready new.place ≡ is_ready old.place
  pub program : is_ready old.place ≡ true → new.program ≡ old.program

abbrev pub KeepsReady : List Thread → List Thread → Type 0
KeepsReady xs ys = (j : ℕ) → SameReady (get_or xs j nobody) (get_or ys j nobody)

pub keeps-self : (xs : List Thread) → KeepsReady xs xs
keeps-self xs j = record { ready = refl; program = λ h. refl }

keeps-more : (xs ys zs : List Thread) → KeepsReady xs ys → KeepsReady ys zs → KeepsReady xs zs
keeps-more xs ys zs one two j = record {
  ready = (two j).ready ∙ (one j).ready;
  program = λ h. (two j).program ((one j).ready ∙ h) ∙ (one j).program h;
}

-- neither was ready nor is
pub idle : (old new : Thread) → is_ready old.place ≡ false → is_ready new.place ≡ false → SameReady old new
idle old new was now = record { ready = now ∙ sym was; program = λ h. absurd (let clash = sym h ∙ was in cc) }

pub keeps-set : (xs : List Thread) (i : ℕ) (new : Thread) → SameReady (get_or xs i nobody) new → KeepsReady xs (slice_set xs i new)
keeps-set (x ∷ xs) zero new same zero = same
keeps-set (x ∷ xs) (suc i) new same (suc j) = keeps-set xs i new same j
keeps-set _ _ new same _ = record { ready = refl; program = λ h. refl }

keeps-push : (xs : List Thread) (new : Thread) → is_ready new.place ≡ false → KeepsReady xs (xs ++ new ∷ [])
keeps-push [] new now zero = idle nobody new refl now
keeps-push [] new now (suc j) = record { ready = refl; program = λ h. refl }
keeps-push (x ∷ xs) new now zero = record { ready = refl; program = λ h. refl }
keeps-push (x ∷ xs) new now (suc j) = keeps-push xs new now j

-- an instruction of a thread that is not ready
module _ (x : SpaceState) (t : ThreadNo) (was : is_ready (thread_in x t).place ≡ false) where
  abbrev Kept : SpaceState → Type 0
  Kept y = KeepsReady x.threads y.threads

  one-set : (new : Thread) → is_ready new.place ≡ false → Kept (with_thread x t new)
  one-set new now = keeps-set x.threads t.0 new (idle (thread_in x t) new was now)

  ins-answered : (thread : Thread) (change : Change) → is_ready thread.place ≡ false → Kept (sync_effect x t thread change).space
  ins-answered thread change now = one change.answer where
    one : (a : SyncAnswer) → Kept (answered (with_sync x change.state) t thread a).space
    one answer.Goes = one-set thread now
    one answer.Waits = one-set (record thread { place = place.Waiting }) refl
    one (answer.Wakes u) = one-set thread now

  ins-forked : (reg : Reg) (k : ℕ) → Kept (fork_effect x t (thread_in x t) reg k).space
  ins-forked reg k = one (nat_lt (length x.threads) MAX_THREADS) where
    made : Thread
    made = next_with (thread_in x t) reg (length x.threads)

    one : (b : Bool) → Kept (if b
        then effect (record (with_thread x t made) { threads = slice_set x.threads t.0 made ++ at_start k place.Waiting ∷ [] })
        (record { 0 = length x.threads } ∷ [])
        else effect (with_thread x t (next_with (thread_in x t) reg (2 ^ 64 - 1))) []).space
    one true =
        keeps-more x.threads (slice_set x.threads t.0 made) (slice_set x.threads t.0 made ++ at_start k place.Waiting ∷ []) (one-set made was)
        (keeps-push (slice_set x.threads t.0 made) (at_start k place.Waiting) refl)
    one false = one-set _ was

  pub ins-keeps : (i : Instr) → Kept (effect_of x t (thread_in x t) i).space
  ins-keeps (instr.Fork reg k) = ins-forked reg k
  ins-keeps (instr.Join reg) = ins-answered _ _ was
  ins-keeps (instr.Lock m) = ins-answered _ _ was
  ins-keeps (instr.Unlock m) = ins-answered _ _ was
  ins-keeps (instr.Wait m) = ins-answered _ _ was
  ins-keeps (instr.Signal m) = ins-answered _ _ was
  ins-keeps instr.End = one-set _ refl
  ins-keeps _ = one-set _ was

  -- it is put in another place, where it is not ready
  pub put-keeps : (to : Place) → is_ready to ≡ false → Kept (put_thread to x t)
  put-keeps to now = one-set (record (thread_in x t) { place = to }) now
