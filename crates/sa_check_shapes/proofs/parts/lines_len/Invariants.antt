use Rattle.std.proofs.Common.{◌≡◌, ◌+◌, drop, length, Some}
use Rattle.sa_laws.specs.Shape.{before_lines}
use Rattle.sa_check_shapes.proofs.parts.lines_len.Given as goal

abbrev pub invariant-loop-i : goal.invariant-loop-i
invariant-loop-i l = length (before_lines (Some l.fn.first) l.others) ≡ length (before_lines (Some l.last) (drop l.i l.others)) + l.i
