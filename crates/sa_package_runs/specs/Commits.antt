-- Where each space has FastThreads, local instructions that are committed at once are as many turns of the processor: a context
-- that stands at an instruction between two events has no section to continue and no thread to make ready first.
use Rattle.std.specs.Prelude.{◌≡◌, ℕ, ◌+◌, Some, None, replicate}
use Rattle.sa_base.specs.declared.number.ProcNo.{ProcNo}
use Rattle.sa_base.specs.declared.number.SpaceNo.{SpaceNo}
use Rattle.sa_base.specs.declared.number.ActNo.{ActNo}
use Rattle.sa_spaces.specs.Workload.{WorkloadView, IsWorkload}
use Rattle.sa_devices.specs.Ios.{due_of}
use Rattle.sa_kernel_model.specs.State.{owner_of}
use Rattle.sa_core_model.specs.Machine.{user_of, context_on}
use Rattle.sa_core_model.specs.End.{local_on}
use Rattle.sa_core_model.specs.Turn.{committed}
use Rattle.sa_core_model.specs.Run.{AreNextLocal, CanCommit, IsRun}
use Rattle.sa_core_model.specs.Run.Move.{turn}
use Rattle.sa_core_model.specs.Steps.{AreSteps}
use Rattle.sa_package_model.specs.declared.package.Package.{Package}
use Rattle.sa_package_model.specs.declared.context.Context.{Context}
use Rattle.sa_package_model.specs.Step.{fast_calls}
use Rattle.sa_package_runs.specs.Runs.{FastMachine}
use Rattle.sa_package_runs.specs.Calls.{IsReached}

-- each of the next n steps of the context on a processor does a local instruction, where its next n instructions are local
abbrev pub LocalInstructionsAreSteps : Type 0
LocalInstructionsAreSteps =
    (w : WorkloadView) (m : FastMachine) (p : ProcNo) (n : ℕ) → IsWorkload w → IsReached w m → AreNextLocal m.workload n (local_on fast_calls m p)
    → (s : SpaceNo) (u : Package) (c : Context) → owner_of m.kernel p ≡ Some s → user_of m s ≡ Some u → context_on m p ≡ Some c
    → AreSteps fast_calls n u c

-- turns of the processor lead where a commit leads, where no I/O is due before the last of n events is over
abbrev pub CommitsAreTurns : Type 0
CommitsAreTurns =
    (w : WorkloadView) (m : FastMachine) (p : ProcNo) (n : ℕ) (fresh : ActNo) → IsWorkload w → IsReached w m → CanCommit fast_calls m p n
    → due_of (m.event + n) m.kernel.under_way ≡ None → m.kernel.acts fresh.0 ≡ None
    → IsRun fast_calls m (replicate n (turn p)) (committed fast_calls p n m)

-- turns of the processor lead to no other machine than a commit does, where no I/O is due before the last of n events is over
abbrev pub TurnsAreCommits : Type 0
TurnsAreCommits =
    (w : WorkloadView) (m : FastMachine) (p : ProcNo) (n : ℕ) (after : FastMachine) → IsWorkload w → IsReached w m → CanCommit fast_calls m p n
    → due_of (m.event + n) m.kernel.under_way ≡ None → IsRun fast_calls m (replicate n (turn p)) after
    → after ≡ committed fast_calls p n m
