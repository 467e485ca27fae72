-- What holds in the middle of an event.
use Rattle.std.specs.Prelude.{◌≡◌, ℕ, ◌≤◌, ◌<◌, Some, None, [], length, slice_get}
use Rattle.sa_base.specs.declared.number.ProcNo.{ProcNo}
use Rattle.sa_base.specs.declared.number.SpaceNo.{SpaceNo}
use Rattle.sa_base.specs.declared.number.ActNo.{ActNo}
use Rattle.sa_base.specs.declared.limits.TheConstants.{MAX_EVENTS}
use Rattle.sa_spaces.specs.Space.{SpaceView}
use Rattle.sa_abstract.specs.Calls.{Calls}
use Rattle.sa_abstract.specs.Keeps.{Standing, IsBefore, IsAsked}
use Rattle.sa_abstract.specs.declared.answer.Step.{Step}
use Rattle.sa_kernel_model.specs.State.{owner_of, line_of}
use Rattle.sa_kernel_model.specs.Sound.{AreClaimed}
use Rattle.sa_core_model.specs.Machine.{Machine, user_of, seen_on, context_begun}
use Rattle.sa_core_model.specs.Run.{setting}
use Rattle.sa_core_model.specs.Standing.{Stands, IsBetween}

module _ {U C : Type 0} where
  -- the machine is another by f at some number that was not in use
  pub record ByFresh (old : Machine U C) (new : Machine U C) (f : ActNo → Machine U C) : Type 0 where
    pub fresh : ActNo
    pub unused : old.kernel.acts fresh.0 ≡ None
    pub is : new ≡ f fresh

module _ {U C : Type 0} (f : Calls U C) (stands : Standing U C) where
  -- an upcall was made on a processor: a context of its space can begin, and is told notices of that space
  pub record Welcomes (p : ProcNo) (m : Machine U C) : Type 0 where
    pub space : SpaceNo
    pub user : U
    pub owner : owner_of m.kernel p ≡ Some space
    pub is_user : user_of m space ≡ Some user
    pub before : IsBefore stands user (seen_on m p space)
    pub place : p.0 < length m.contexts
    pub lives : p.0 < length m.kernel.lives
    pub begins : Stands stands m.event (context_begun f p space m)
    pub claimed : AreClaimed m.kernel space.0

module _ {U C : Type 0} (stands : Standing U C) where
  -- all stands before a step of this event
  pub record IsNext (m : Machine U C) : Type 0 where
    pub last : ℕ
    pub before : last < m.event
    pub within : m.event ≤ MAX_EVENTS
    pub standing : Stands stands last m
    pub fetched : m.kernel.telling ≡ []

  -- the context that runs on a processor has asked for what the kernel can do
  pub record Asks (p : ProcNo) (asked : Step) (m : Machine U C) : Type 0 where
    pub space : SpaceNo
    pub def : SpaceView
    pub between : IsBetween stands m
    pub owner : owner_of m.kernel p ≡ Some space
    pub is_def : slice_get m.workload.spaces space.0 ≡ Some def
    pub low : line_of m.kernel p ≡ None
    pub can : IsAsked (setting m.workload space.0 def) (seen_on m p space) asked
