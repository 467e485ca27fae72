-- Each session is legal.
use Rattle.std.proofs.Common.{ℕ, List}
use Rattle.sa_base.specs.declared.number.ProcNo.{ProcNo}
use Rattle.sa_spaces.specs.Workload.{WorkloadView, IsWorkload}
use Rattle.sa_core_model.specs.Run.{opening, IsMove}
use Rattle.sa_core_model.specs.Run.Move.{turn}
use Rattle.sa_package_model.specs.Step.{fast_calls}
use Rattle.sa_legal_runs.proofs.runs.LegalRuns.{runs-count}
use Rattle.sa_fast_laws.proofs.FastLaws.{fast_level}
use Rattle.sa_package_runs.specs.Runs.{FastMachine}
use Rattle.sa_package_runs.specs.Calls.{IsReached, IsReachedByTurns}
use Rattle.sa_package_runs.proofs.Calls.{start-reaches, turn-alone-reaches, reached-legal, reached-strict, reached-ends}
use Rattle.sa_debug.specs.declared.script.command.DebugCommand.{DebugCommand}
use Rattle.sa_debug.specs.declared.script.reply.Reply.{Reply}
use Rattle.sa_debug.specs.Session.{Session, fresh, DoesSoFar}
use Rattle.sa_debug.specs.OverMachines.{over_machines}
use Rattle.sa_package_runs.specs.Sessions.{IsSession, IsLegalSession}
use Rattle.sa_package_runs.proofs.Keeping.{does-all, does-so_far}

pub reached-keeps : (w : WorkloadView) (m : FastMachine) (p : ProcNo) (after : FastMachine)
    → IsReachedByTurns w m → IsMove fast_calls m (turn p) after → IsReachedByTurns w after
reached-keeps w m p after is made = turn-alone-reaches w m p after is made.0 made.1

pub reached : (w : WorkloadView) (budget : ℕ) (cs : List DebugCommand) (s : Session FastMachine) (replies : List Reply)
    → IsSession w budget cs s replies → IsReachedByTurns w s.machine
reached w budget cs s replies done =
    does-all (over_machines fast_calls budget) (IsReachedByTurns w) (reached-keeps w) cs (fresh (opening fast_calls w)) s replies done (start-reaches w)

pub by-moves : (w : WorkloadView) (m : FastMachine) → IsReachedByTurns w m → IsReached w m
by-moves w m is = record { moves = is.moves; run = is.run }

legal : (w : WorkloadView) (budget : ℕ) (m : FastMachine) → IsWorkload w → IsReachedByTurns w m → IsLegalSession w budget m
legal w budget m ok is = record {
  run = reached-legal w m ok (by-moves w m is);
  strict = reached-strict w m ok is;
  count = runs-count fast_level w is.moves m ok is.run;
  end = reached-ends w m budget ok (by-moves w m is);
}

pub session-legal : (w : WorkloadView) (budget : ℕ) (cs : List DebugCommand) (s : Session FastMachine) (replies : List Reply)
    → IsWorkload w → IsSession w budget cs s replies → IsLegalSession w budget s.machine
session-legal w budget cs s replies ok done = legal w budget s.machine ok (reached w budget cs s replies done)

pub so-far-legal : (w : WorkloadView) (budget : ℕ) (cs : List DebugCommand) (s t : Session FastMachine) (replies : List Reply) (c : DebugCommand)
    → IsWorkload w → IsSession w budget cs s replies → DoesSoFar (over_machines fast_calls budget) c s t → IsLegalSession w budget t.machine
so-far-legal w budget cs s t replies c ok done comes =
    legal w budget t.machine ok
    (does-so_far (over_machines fast_calls budget) (IsReachedByTurns w) (reached-keeps w) c s t comes (reached w budget cs s replies done))
