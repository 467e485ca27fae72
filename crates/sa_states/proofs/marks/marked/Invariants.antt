use Rattle.std.proofs.Common.{◌≡◌, not, count_by, length}
use Rattle.sa_states.specs.Sweep.{AreSound}
use Rattle.sa_states.proofs.marks.marked.Given as goal

abbrev pub invariant-loop : goal.invariant-loop
invariant-loop l = record {
  size : length l.marks.items ≡ length l.states;
  sound : AreSound l.processors l.states l.nexts l.marks.items;
}

abbrev pub decreases-loop : goal.decreases-loop
decreases-loop l = count_by not l.marks.items
