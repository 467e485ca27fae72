use Rattle.std.proofs.Common.{◌<◌}
use Rattle.sa_kernel.specs.Kept.{scene}
use Rattle.tests_machine.specs.Plain.{GoesFrom}
use Rattle.tests_machine.proofs.lawful.go.Given as goal

abbrev pub invariant-loop-event : goal.invariant-loop-event
invariant-loop-event l = record {
  later : l.kernel.last < l.event;
  lawful : GoesFrom l.slice 0 l.last (scene l.fn.kernel l.fn.trace) (scene l.kernel l.trace);
}
