-- What the calls ask of the value and of the context in hand.
use Rattle.std.specs.Prelude.{◌≡◌, ℕ, ◌+◌, ◌<◌, ◌^◌, List, Option, None, IfSome, length}
use Rattle.sa_base.specs.declared.number.ThreadNo.{ThreadNo}
use Rattle.sa_base.specs.declared.limits.TheConstants.{MAX_THREADS}
use Rattle.sa_base.specs.declared.context.Stopped.{Stopped}
use Rattle.sa_base.specs.declared.context.Seen.{Seen}
use Rattle.sa_fast.specs.Threads.{block_at}
use Rattle.sa_fast.specs.Instruction.{CanRun, IsAt}
use Rattle.sa_fast.specs.Rest.{one_of, empty_at, AreWorks}
use Rattle.sa_package_model.specs.Conditions.{IsThread}
use Rattle.sa_driven_model.specs.declared.context.DrivenContext.{DrivenContext}
use Rattle.sa_driven_model.specs.declared.space.DrivenSpace.{DrivenSpace}
use Rattle.sa_driven_model.specs.Step.{run_of}

-- no work list has a thread, but for one that is named
pub record IsAlone (lists : List (List ℕ)) (name : Option ThreadNo) : Type 0 where
  pub works : AreWorks lists
  pub names : (l : ℕ) → empty_at lists l + one_of name l ≡ 1

-- a thread can run its next instruction, which hands over what is in one work list
pub record CanIns (u : DrivenSpace) (seen : Seen) (t : ThreadNo) : Type 0 where
  pub runs : CanRun u.base.def u.base.shared None t
  pub alone : let o = run_of u seen t in IsAlone o.shared.works o.work

-- a step: the thread can run, there is room for one lock more, and there is a block, and a place in the set, for each thread
pub record CanStep (u : DrivenSpace) (seen : Seen) (c : DrivenContext) : Type 0 where
  pub thread : IfSome c.thread (CanIns u seen)
  pub locks : c.locks + 1 < 2 ^ 32
  pub blocks : length u.base.shared.threads ≡ MAX_THREADS
  pub handed : length u.handed ≡ MAX_THREADS

-- the context can be told of another
pub record CanTakeOver (c d : DrivenContext) : Type 0 where
  pub thread : IsThread d.thread
  pub locks : c.locks + d.locks < 2 ^ 32

abbrev pub CanBeTold : DrivenContext → Option (Stopped DrivenContext) → Type 0
CanBeTold c held = IfSome held (λ s. CanTakeOver c s.ctx)

-- the context's thread, if there is one, is within its program
abbrev pub CanGo : DrivenSpace → DrivenContext → Type 0
CanGo u c = IfSome c.thread (λ t. (t.0 < MAX_THREADS) × IsAt u.base.def (block_at u.base.shared.threads t.0))
