use Rattle.std.proofs.Common.{◌≡◌, take}
use Rattle.std.specs.List.{flat_map}
use Rattle.sa_trace.specs.TraceText.{line_of}
use Rattle.sa_trace.proofs.printing.print_lines.Given as goal

abbrev pub invariant-loop-i : goal.invariant-loop-i
invariant-loop-i l = l.out.items ≡ flat_map line_of (take l.i l.items)
