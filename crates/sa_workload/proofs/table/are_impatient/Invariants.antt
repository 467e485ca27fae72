use Rattle.std.proofs.Common.{◌≡◌, ◌==◌, true, take}
use Rattle.std.specs.List.{list_all}
use Rattle.sa_spaces.specs.Space.{SpaceView}
use Rattle.sa_workload.proofs.table.are_impatient.Given as goal

abbrev pub invariant-loop-space : goal.invariant-loop-space
invariant-loop-space l = list_all (λ (s : SpaceView). s.patience == 1) (take l.space-index l.spaces) ≡ true
