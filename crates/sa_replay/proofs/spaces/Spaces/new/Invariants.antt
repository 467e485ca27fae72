use Rattle.std.proofs.Common.{◌≡◌, map, take}
use Rattle.sa_laws.specs.State.{opening_space}
use Rattle.sa_replay.proofs.spaces.Spaces.new.Given as goal

-- as many spaces are made as definitions were read
abbrev pub invariant-loop-def : goal.invariant-loop-def
invariant-loop-def l = l.spaces.items ≡ map opening_space (take l.def-index l.defs)
