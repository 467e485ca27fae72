use Rattle.std.proofs.Common.{◌≡◌, take}
use Rattle.sa_core.specs.View.{machine}
use Rattle.sa_debug.specs.OverMachines.{session}
use Rattle.sa_cli.specs.Debugged.{AreDone}
use Rattle.sa_cli.proofs.replies.do_all.Given as goal

-- the commands so far are done
abbrev pub invariant-loop-command : goal.invariant-loop-command
invariant-loop-command l = record {
  budget : l.debugged.core.budget ≡ l.initial.debugged.core.budget;
  workload : (machine l.debugged.core).workload ≡ (machine l.initial.debugged.core).workload;
  done : AreDone l.initial.debugged.core.budget (take l.command-index l.commands) (session l.initial.debugged) (session l.debugged) l.text.items;
}
