use Rattle.std.proofs.Common.{◌≡◌, ◌↔◌, drop}
use Rattle.sa_laws.specs.Shape.{lines_in}
use Rattle.sa_check_shapes.proofs.due.are_lines.Given as goal

abbrev pub invariant-loop-what : goal.invariant-loop-what
invariant-loop-what l = (lines_in (drop l.what-index l.records) ≡ l.left) ↔ (lines_in l.records ≡ l.due)
