-- The ranges of a command's numbers.
use Rattle.std.specs.Prelude.{◌≡◌, ℕ, ◌≤◌, ⊤, List, Some}
use Rattle.sa_base.specs.declared.limits.TheConstants.{MAX_BURST, MAX_EVENTS}
use Rattle.sa_command.specs.declared.command.Command.{Command}
use Rattle.sa_command.specs.declared.command.Command.TheVariants.{Run, Threads, Load, Migrate, Check, Vp, Debug, Explore, Kernel}
use Rattle.sa_command.specs.Commands.{command_of}
use Rattle.sa_states.specs.declared.TheConstants.{MAX_STATES}

pub record IsFrom (low high n : ℕ) : Type 0 where
  pub least : low ≤ n
  pub most : n ≤ high

-- a budget is 1 to the greatest number of events, and so is a slice; a burst is 1 to the greatest number of its instructions,
-- and of states 1 to the greatest number are kept
abbrev pub IsInRange : Command → Type 0
IsInRange (Run schedule budget user_level) = IsFrom 1 MAX_EVENTS budget
IsInRange (Threads budget burst) = IsFrom 1 MAX_EVENTS budget × IsFrom 1 MAX_BURST burst
IsInRange (Load number budget) = IsFrom 1 MAX_EVENTS budget
IsInRange (Migrate slice) = IsFrom 1 MAX_EVENTS slice
IsInRange (Check rules) = ⊤
IsInRange (Vp schedule budget) = IsFrom 1 MAX_EVENTS budget
IsInRange (Debug budget) = IsFrom 1 MAX_EVENTS budget
IsInRange (Explore states user_level give) = IsFrom 1 MAX_STATES states
IsInRange (Kernel schedule budget) = IsFrom 1 MAX_EVENTS budget

abbrev pub CommandsAreInRange : Type 0
CommandsAreInRange = (words : List (List ℕ)) (command : Command) → command_of words ≡ Some command → IsInRange command
