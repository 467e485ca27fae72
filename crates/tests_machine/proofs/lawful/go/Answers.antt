use Rattle.std.proofs.Common.{arith}
use Rattle.tests_machine.proofs.lawful.go.Goals as goal

pub loop-event-init : goal.loop-event-init
loop-event-init c = record {
  later = (let last = c.requires in omega arith);
  lawful = λ test w slices past. past;
}

pub loop-event-preserved : goal.loop-event-preserved
loop-event-preserved c = record {
  later = (let last = c.in_ok-last.ensures.last in omega arith);
  lawful = λ test w slices past. c.in_ok-last.ensures.lawful test w slices (c.loop-event.invariant.lawful test w slices past);
}
