use Rattle.std.proofs.Common.{◌≡◌, ◌-◌}
use Rattle.sa_core.specs.View.{machine}
use Rattle.sa_core_model.specs.Machine.{Machine}
use Rattle.sa_debug.specs.declared.script.reply.Reply.{Reply}
use Rattle.sa_debug.specs.Session.{Session, IsFree, RunsTo, RunsSoFar}
use Rattle.sa_debug.specs.OverMachines.{over_machines, session}
use Rattle.sa_debug.proofs.session.Session.go_round.Given as goal

-- what the turns that are left lead to, all turns lead to
abbrev pub invariant-loop-turn : goal.invariant-loop-turn
invariant-loop-turn g l = record {
  budget : l.self.core.budget ≡ l.initial.self.core.budget;
  workload : (machine l.self.core).workload ≡ (machine l.initial.self.core).workload;
  free : IsFree (session l.self);
  runs : (t : Session (Machine g.row.U.Denot g.row.U-Ctx.Denot)) (reply : Reply)
      → RunsTo (over_machines g.U.UserLevel.calls l.initial.self.core.budget) (l.turns - l._turn) (session l.self) t reply
      → RunsTo (over_machines g.U.UserLevel.calls l.initial.self.core.budget) l.turns (session l.initial.self) t reply;
  so_far : (t : Session (Machine g.row.U.Denot g.row.U-Ctx.Denot))
      → RunsSoFar (over_machines g.U.UserLevel.calls l.initial.self.core.budget) (l.turns - l._turn) (session l.self) t
      → RunsSoFar (over_machines g.U.UserLevel.calls l.initial.self.core.budget) l.turns (session l.initial.self) t;
}
