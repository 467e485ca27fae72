use Rattle.std.proofs.Common.{◌≡◌, ◌≤◌, ◌+◌, length, drop}
use Rattle.std.specs.List.{slice_range}
use Rattle.sa_workload.specs.Texts.{workload_part, through_close}
use Rattle.sa_workload.proofs.texts.workload_len.Given as goal

-- the bytes before, and those that are still to be taken
abbrev pub invariant-loop-i : goal.invariant-loop-i
invariant-loop-i l = record {
  forward : l.start ≤ l.i;
  rest : l.i + length (through_close (slice_range l.input l.start l.i) (drop l.i l.input)) ≡ length (workload_part l.input);
}
