use Rattle.std.proofs.Common.{◌≡◌, ◌+◌, ◌-◌}
use Rattle.sa_core_model.specs.Turn.{more_events}
use Rattle.sa_machine.specs.View.{machine_of}
use Rattle.sa_machine.specs.Room.{owed}
use Rattle.sa_machine.proofs.machine.MachineParts.skip.Given as goal

-- what is left to begin makes up the rest
abbrev pub invariant-loop-i : goal.invariant-loop-i
invariant-loop-i g l = record {
  machine : more_events (l.n - l._i) (machine_of l.self) ≡ more_events l.n (machine_of l.fn.self);
  events : l.self.events ≡ l.fn.self.events + l._i;
  owed : owed l.self ≡ owed l.fn.self;
  lives : (machine_of l.self).kernel.lives ≡ (machine_of l.fn.self).kernel.lives;
  spare : l.self.kernel.spare ≡ l.fn.self.kernel.spare;
  last : l.self.kernel.last ≡ l.fn.self.kernel.last;
  trace : l.self.trace ≡ l.fn.self.trace;
}
