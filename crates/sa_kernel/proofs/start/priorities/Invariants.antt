use Rattle.std.proofs.Common.{◌≡◌, map, take}
use Rattle.sa_spaces.specs.Space.{SpaceView}
use Rattle.sa_kernel.proofs.start.priorities.Given as goal

abbrev pub invariant-loop-space : goal.invariant-loop-space
invariant-loop-space l = l.priorities.items ≡ map (λ (s : SpaceView). s.priority) (take l.space-index l.spaces)
