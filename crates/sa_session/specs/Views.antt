-- What contracts see of a session's machine.
use Rattle.std.specs.Prelude.{◌≡◌, ℕ, ◌≤◌, length, take}
use Rattle.sa_core.specs.View.{CoreView, machine}
use Rattle.sa_driven_model.specs.declared.context.DrivenContext.{DrivenContext}
use Rattle.sa_driven_model.specs.declared.space.DrivenSpace.{DrivenSpace}
use Rattle.sa_replies.specs.Telling.{Telling, opened, told_through}

-- the core, what is known of its trace, and how many items of it were told
pub record SessionView : Type 0 where
  pub core : CoreView DrivenSpace DrivenContext
  pub teller : Telling
  pub told : ℕ

-- what is known is known of the first items of the trace
pub record Follows (s : SessionView) : Type 0 where
  pub few : s.told ≤ length (machine s.core).items
  pub knows : s.teller ≡ told_through (opened (machine s.core).workload) (take s.told (machine s.core).items)

-- it is known of all items
pub record HasToldAll (s : SessionView) : Type 0 where
  pub all : s.told ≡ length (machine s.core).items
  pub knows : s.teller ≡ told_through (opened (machine s.core).workload) (machine s.core).items
