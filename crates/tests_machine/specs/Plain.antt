-- Entries that say little of the user level: the contexts that they hand over are at work, and none blocks.
use Rattle.std.specs.Prelude.{◌≡◌, ◌⊎◌, ℕ, ◌/◌, List, false, Some, None, IsSome, ⊤}
use Rattle.sa_base.specs.declared.context.Stopped.{Stopped}
use Rattle.sa_spaces.specs.Workload.{WorkloadView}
use Rattle.sa_kernel_model.specs.declared.entry.Entry.{Entry}
use Rattle.sa_kernel_model.specs.declared.entry.Entry.TheVariants.{Interrupt, Block, Complete, More, Idle, GiveBack, InterruptOwn}
use Rattle.sa_kernel_model.specs.State.{Scene}
use Rattle.sa_kernel_laws.specs.Histories.{IsHistory, last_number}
use Rattle.sa_laws.specs.Event.{Event}
use Rattle.sa_laws.specs.History.{Test}

-- it carries a thread, and was not idle
pub record IsAtWork (held : Stopped ℕ) : Type 0 where
  pub thread : IsSome held.thread
  pub busy : held.idle ≡ false

abbrev pub IsPlain : Entry ℕ → Type 0
IsPlain (Interrupt None) = ⊤
IsPlain (Interrupt (Some held)) = IsAtWork held
IsPlain (Block held length page) = ⊥
IsPlain (Complete io) = ⊤
IsPlain (More n) = ⊤
IsPlain Idle = ⊤
IsPlain GiveBack = ⊤
IsPlain (InterruptOwn q) = ⊤

-- the trace is that of some history whose last event has this number
pub record IsLawful (test : Test) (w : WorkloadView) (last : ℕ) (x : Scene ℕ) : Type 0 where
  pub events : List Event
  pub last_is : last_number w events ≡ last
  pub history : IsHistory test w events x

-- such a trace becomes another, where slices are so long
abbrev pub GoesFrom : ℕ → ℕ → ℕ → Scene ℕ → Scene ℕ → Type 0
GoesFrom slice last next old new = (test : Test) (w : WorkloadView) → w.slice ≡ slice → IsLawful test w last old → IsLawful test w next new

-- no slice ends between these events
abbrev pub IsSameSlice : ℕ → ℕ → ℕ → Type 0
IsSameSlice slice last event = (slice ≡ 0) ⊎ (event / slice ≡ last / slice)
