-- What is said of a debugging session of FastThreads.
use Rattle.std.specs.Prelude.{◌≡◌, ℕ, ◌+◌, List, length}
use Rattle.sa_spaces.specs.Workload.{WorkloadView, IsWorkload}
use Rattle.sa_abstract.specs.Calls.{Calls}
use Rattle.sa_laws.specs.Event.{events_of}
use Rattle.sa_laws.specs.Legal.{IsStrictRun, EndOf}
use Rattle.sa_laws.specs.Rules.{fast_threads}
use Rattle.sa_core_model.specs.End.{end_of}
use Rattle.sa_core_model.specs.Run.{opening}
use Rattle.sa_package_model.specs.Step.{fast_calls}
use Rattle.sa_prio_model.specs.Step.{prio_calls}
use Rattle.sa_package_runs.specs.Runs.{FastMachine}
use Rattle.sa_package_runs.specs.Whole.{IsLegalRun}
use Rattle.sa_debug.specs.declared.script.command.DebugCommand.{DebugCommand}
use Rattle.sa_debug.specs.declared.script.reply.Reply.{Reply}
use Rattle.sa_debug.specs.Session.{Session, fresh, DoAll, DoesSoFar}
use Rattle.sa_debug.specs.OverMachines.{over_machines}
use Rattle.sa_debug.specs.Reached.{IsPlayable}

-- what a session asks of its user level, these calls give
abbrev pub CanBeDebugged : {U C : Type 0} → Calls U C → Type 0
CanBeDebugged f = (w : WorkloadView) (budget : ℕ) → IsWorkload w → IsPlayable f w budget

abbrev pub FastThreadsCanBeDebugged : Type 0
FastThreadsCanBeDebugged = CanBeDebugged fast_calls

abbrev pub PrioThreadsCanBeDebugged : Type 0
PrioThreadsCanBeDebugged = CanBeDebugged prio_calls

-- from the opening of a workload these commands lead to a session, with these replies
abbrev pub IsSession : WorkloadView → (budget : ℕ) → List DebugCommand → Session FastMachine → List Reply → Type 0
IsSession w budget commands s replies = DoAll (over_machines fast_calls budget) commands (fresh (opening fast_calls w)) s replies

-- the trace of a machine is a legal run and a strict one, has as many events after the opening as the machine has made, and
-- has ended as the definitions say
pub record IsLegalSession (w : WorkloadView) (budget : ℕ) (m : FastMachine) : Type 0 where
  pub run : IsLegalRun fast_threads w m.items
  pub strict : IsStrictRun fast_threads w m.items
  pub count : length (events_of m.items) ≡ m.event + 1
  pub end : EndOf fast_threads w budget m.items (end_of fast_calls budget m)

abbrev pub SessionsAreLegal : Type 0
SessionsAreLegal =
    (w : WorkloadView) (budget : ℕ) (commands : List DebugCommand) (s : Session FastMachine) (replies : List Reply) → IsWorkload w
    → IsSession w budget commands s replies → IsLegalSession w budget s.machine

-- the same of a session in which memory ran out at the next command
abbrev pub SessionsSoFarAreLegal : Type 0
SessionsSoFarAreLegal =
    (w : WorkloadView) (budget : ℕ) (commands : List DebugCommand) (s t : Session FastMachine) (replies : List Reply) (command : DebugCommand) → IsWorkload w
    → IsSession w budget commands s replies → DoesSoFar (over_machines fast_calls budget) command s t → IsLegalSession w budget t.machine
