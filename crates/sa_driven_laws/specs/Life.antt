-- A life beside the context of a driven activation: its locks, its cont, its hand and its thread are those of the context.
use Rattle.std.specs.Prelude.{◌≡◌, ℕ, ◌==◌, ◌||◌, ◌&&◌, Bool, true, false, List, length, Option, Some, None}
use Rattle.std.specs.List.{list_any}
use Rattle.sa_base.specs.declared.number.SpaceNo.{SpaceNo}
use Rattle.sa_base.specs.declared.number.ThreadNo.{ThreadNo}
use Rattle.sa_fast.specs.Rest.{place_at}
use Rattle.sa_fast.specs.declared.shared.Shared.{Shared}
use Rattle.sa_driven_model.specs.declared.context.DrivenContext.{DrivenContext}
use Rattle.sa_driven_model.specs.Threads.{has}
use Rattle.sa_laws.specs.Life.{Life}
use Rattle.sa_laws.specs.State.{SpaceState, thread_in}
use Rattle.sa_fast_laws.specs.Stage.{Stage, is_gone, is_running, place_of, kept_of, was_idle}

-- HANDS are sets of threads, for the context and for the life.
abbrev pub is_number : ℕ → ThreadNo → Bool
is_number n t = t.0 == n

abbrev pub in_hand : List ThreadNo → ℕ → Bool
in_hand hand n = list_any (is_number n) hand

abbrev pub is_own : Option ThreadNo → ℕ → Bool
is_own None n = false
is_own (Some t) n = t.0 == n

-- THE LIFE of a context of space s, whatever comes within an event; x is the space in the history, and u in the value.
pub record HasLife (s : SpaceNo) (u : Shared) (x : SpaceState) (stage : Stage) (c : DrivenContext) (life : Life) : Type 0 where
  pub space : life.space ≡ s
  pub locks : length life.locks ≡ c.locks
  pub cont : life.cont ≡ c.continues
  -- the threads of the context's hand, and its own once the life is gone
  pub hand : (n : ℕ) → in_hand life.hand n ≡ (has c.hand n || (is_gone stage && is_own c.thread n))
  -- where its thread is in the history, and in the value
  pub place : (t : ThreadNo) → c.thread ≡ Some t → (thread_in x t).place ≡ place_of stage life.proc
  pub kept : (t : ThreadNo) → c.thread ≡ Some t → place_at u t.0 ≡ kept_of stage
  -- its stop or block named its thread
  pub named : is_running stage ≡ false → life.thread ≡ c.thread

-- A life with its context as it is between events: while it runs, it is in where its context says so; once it does not run
-- and has no thread, it is in but where it was idle.
pub record IsAtRest (stage : Stage) (c : DrivenContext) (life : Life) : Type 0 where
  pub lowers : c.lowers ≡ false
  pub inside : is_running stage ≡ true → life.inside ≡ c.inside
  pub busy : is_running stage ≡ false → c.thread ≡ None → was_idle stage life ≡ false → life.inside ≡ true
