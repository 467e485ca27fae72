use Rattle.std.proofs.Common.{◌≡◌, ◌+◌, drop}
use Rattle.std.specs.List.{prefix_len}
use Rattle.sa_check_shapes.specs.Runs.{test_of}
use Rattle.sa_check_shapes.proofs.parts.run_len.Given as goal

abbrev pub invariant-loop-i : goal.invariant-loop-i
invariant-loop-i l = prefix_len (test_of l.run) l.records ≡ prefix_len (test_of l.run) (drop l.i l.records) + l.i
