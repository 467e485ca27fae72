-- What a reader is told of a debugging session of FastThreads: a session over histories.
use Rattle.std.specs.Prelude.{◌≡◌, ◌⊎◌, ℕ, ◌≤◌, List, take, Some, slice_get}
use Rattle.sa_base.specs.declared.record.Item.{Item}
use Rattle.sa_spaces.specs.Workload.{WorkloadView, IsWorkload}
use Rattle.sa_laws.specs.Rules.{fast_threads}
use Rattle.sa_core_model.specs.Run.{opening}
use Rattle.sa_package_model.specs.Step.{fast_calls}
use Rattle.sa_package_runs.specs.Runs.{FastMachine}
use Rattle.sa_debug.specs.declared.script.command.DebugCommand.{DebugCommand}
use Rattle.sa_debug.specs.declared.script.reply.Reply.{Reply}
use Rattle.sa_debug.specs.OverHistories.{over_histories, opening_items}
use Rattle.sa_debug.specs.OverMachines.{over_machines}
use Rattle.sa_debug.specs.Session.{Watched, Session, fresh, DoAll, DoesSoFar}
use Rattle.sa_package_runs.specs.Sessions.{IsSession}

-- over histories these commands lead from the opening of a workload to a session, with these replies
abbrev pub Leads : WorkloadView → (budget : ℕ) → List DebugCommand → Session (List Item) → List Reply → Type 0
Leads w budget commands s replies = DoAll (over_histories fast_threads w budget) commands (fresh (opening_items w)) s replies

-- the commands lead to this session with these replies, to no other one with its history, and with no other replies
pub record IsTold (w : WorkloadView) (budget : ℕ) (commands : List DebugCommand) (s : Session (List Item)) (replies : List Reply) : Type 0 where
  pub done : Leads w budget commands s replies
  pub only : (t : Session (List Item)) (others : List Reply) → Leads w budget commands t others → t.machine ≡ s.machine
      → (t ≡ s) × (others ≡ replies)

-- a session of a machine, by its history
abbrev pub by_history : Session FastMachine → Session (List Item)
by_history s = record { machine = s.machine.items; halted = s.halted; points = s.points }

-- A SESSION OF A MACHINE IS ONE OF ITS HISTORY, with the same replies.
abbrev pub SessionsAreTold : Type 0
SessionsAreTold =
    (w : WorkloadView) (budget : ℕ) (commands : List DebugCommand) (s : Session FastMachine) (replies : List Reply)
    → IsWorkload w → IsSession w budget commands s replies → IsTold w budget commands (by_history s) replies

-- the same of a session in which memory ran out at the next command
abbrev pub SessionsSoFarAreTold : Type 0
SessionsSoFarAreTold =
    (w : WorkloadView) (budget : ℕ) (commands : List DebugCommand) (s t : Session FastMachine) (replies : List Reply) (command : DebugCommand)
    → IsWorkload w → IsSession w budget commands s replies → DoesSoFar (over_machines fast_calls budget) command s t
    → DoesSoFar (over_histories fast_threads w budget) command (by_history s) (by_history t)

-- some of the commands were done, and the next one perhaps in part
pub record CameSoFar {M : Type 0} (o : Watched M) (commands : List DebugCommand) (s t : Session M) : Type 0 where
  pub count : ℕ
  pub between : Session M
  pub replies : List Reply
  pub done : DoAll o (take count commands) s between replies
  pub last : (t ≡ between) ⊎ ((c : DebugCommand) × (slice_get commands count ≡ Some c) × DoesSoFar o c between t)

-- over histories some of these commands lead from the opening of a workload to a session
abbrev pub LeadsSoFar : WorkloadView → (budget : ℕ) → List DebugCommand → Session (List Item) → Type 0
LeadsSoFar w budget commands s = CameSoFar (over_histories fast_threads w budget) commands (fresh (opening_items w)) s

-- So many of the commands lead to this session with these replies: to no other one with its history, and with no other replies.
-- And where others of them lead to its history, the commands that both have done have the same replies.
pub record IsToldSoFar (w : WorkloadView) (budget : ℕ) (commands : List DebugCommand) (done : ℕ) (replies : List Reply) (s : Session (List Item)) : Type 0 where
  pub came : LeadsSoFar w budget commands s
  pub count : came.count ≡ done
  pub answers : came.replies ≡ replies
  pub only : (t : Session (List Item)) (other : LeadsSoFar w budget commands t) → t.machine ≡ s.machine → other.count ≡ done
      → (t ≡ s) × (other.replies ≡ replies)
  pub common : (t : Session (List Item)) (other : LeadsSoFar w budget commands t) → t.machine ≡ s.machine
      → (n : ℕ) → n ≤ done → n ≤ other.count → take n other.replies ≡ take n replies

-- what a session of a machine came to where memory ran out is what its history came to, and the history tells it alone
abbrev pub PartsOfSessionsAreTold : Type 0
PartsOfSessionsAreTold =
    (w : WorkloadView) (budget : ℕ) (commands : List DebugCommand) (s : Session FastMachine) → IsWorkload w
    → (came : CameSoFar (over_machines fast_calls budget) commands (fresh (opening fast_calls w)) s)
    → IsToldSoFar w budget commands came.count came.replies (by_history s)
