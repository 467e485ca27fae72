use Rattle.std.specs.List.{AllWithin}
use Rattle.sa_spaces.specs.Space.{IsSpace}
use Rattle.sa_spaces.proofs.workload.show_ranges.Given as goal

-- the spaces before this one keep to their ranges
abbrev pub invariant-loop-space : goal.invariant-loop-space
invariant-loop-space l = AllWithin IsSpace l.spaces 0 l.space-index
