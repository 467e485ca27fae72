use Rattle.std.proofs.Common.{◌≡◌, take}
use Rattle.std.specs.List.{flat_map}
use Rattle.toga_read.specs.Names.{space_lines}
use Rattle.toga_read.proofs.names.lines_of.Given as goal

abbrev pub invariant-loop-space : goal.invariant-loop-space
invariant-loop-space l = l.lines.items ≡ flat_map space_lines (take l.space-index l.spaces)
