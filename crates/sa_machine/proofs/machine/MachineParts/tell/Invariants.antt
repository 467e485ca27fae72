use Rattle.std.proofs.Common.{◌≡◌, ◌+◌, false, cond, Some, [], length}
use Rattle.sa_kernel_model.specs.State.{owner_of}
use Rattle.sa_kernel_model.specs.Sound.{AreClaimed}
use Rattle.sa_core_model.specs.Turn.{told_all}
use Rattle.sa_core_model.specs.Standing.{Stands}
use Rattle.sa_machine.specs.View.{machine_of}
use Rattle.sa_machine.specs.Room.{Spends}
use Rattle.sa_machine.proofs.machine.MachineParts.tell.Given as goal

abbrev pub invariant-loop-left : goal.invariant-loop-left
invariant-loop-left g l = record {
  standing : Stands g.U.UserLevel.stands l.self.events (machine_of l.self);
  owner : owner_of (machine_of l.self).kernel l.p ≡ Some l.s;
  claimed : AreClaimed (machine_of l.self).kernel l.s.0;
  rest : told_all g.U.UserLevel.calls l.p l.s (machine_of l.self).kernel.telling (machine_of l.self)
      ≡ told_all g.U.UserLevel.calls l.p l.s (machine_of l.fn.self).kernel.telling (machine_of l.fn.self);
  done : l.left ≡ false → (machine_of l.self).kernel.telling ≡ [];
  spends : Spends l.fn.self l.self 0 0;
}

abbrev pub decreases-loop-left : goal.decreases-loop-left
decreases-loop-left g l = length (machine_of l.self).kernel.telling + cond l.left 1 0
