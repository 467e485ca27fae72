use Rattle.std.proofs.Common.{◌≡◌, take, map}
use Rattle.toga_read.specs.Names.{space_names}
use Rattle.toga_read.proofs.names.names_of.Given as goal

abbrev pub invariant-loop-space : goal.invariant-loop-space
invariant-loop-space l = l.names.items ≡ map space_names (take l.space-index l.spaces)
