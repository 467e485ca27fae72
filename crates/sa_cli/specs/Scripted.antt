-- What comes of an input of a workload and a script, before anything is written.
use Rattle.std.specs.Prelude.{◌≡◌, ◌⊎◌, ℕ, List, []}
use Rattle.sa_base.specs.declared.record.End.{End}
use Rattle.sa_base.specs.declared.record.Item.{Item}
use Rattle.sa_spaces.specs.Workload.{WorkloadView}
use Rattle.sa_debug.specs.declared.script.command.DebugCommand.{DebugCommand}
use Rattle.sa_cli.specs.Debugged.{IsOver, RanSoFar}
use Rattle.sa_cli.specs.declared.debug.NoSession.{NoSession}
use Rattle.sa_cli.specs.declared.debug.NoSession.TheVariants.{BadWorkload, BadScript, OutOfMemory}
use Rattle.sa_cli.specs.Debugging.{IsScripted}
use Rattle.sa_cli.specs.Debugging.Scripted.{Accepted, BadWorkload as NoWorkload, BadScript as NoScript}

-- the input is a workload and a script, whose commands were done
pub record IsDone (budget : ℕ) (input replies : List ℕ) (items : List Item) (end : End) (events : ℕ) : Type 0 where
  pub workload : WorkloadView
  pub commands : List DebugCommand
  pub is : IsScripted input (Accepted workload commands)
  pub over : IsOver workload budget commands replies items end events

-- the input is a workload and a script, some of whose commands were done
pub record IsHalfDone (budget : ℕ) (input : List ℕ) (items : List Item) : Type 0 where
  pub workload : WorkloadView
  pub commands : List DebugCommand
  pub is : IsScripted input (Accepted workload commands)
  pub came : RanSoFar workload budget commands items

abbrev pub IsStopped : ℕ → List ℕ → NoSession → Type 0
IsStopped budget input (BadWorkload bad) = IsScripted input (NoWorkload bad)
IsStopped budget input (BadScript bad) = IsScripted input (NoScript bad)
IsStopped budget input (OutOfMemory trace) = (trace.items ≡ []) ⊎ IsHalfDone budget input trace.items
