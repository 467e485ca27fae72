use Rattle.std.proofs.Common.{◌≡◌, ◌++◌, length, take}
use Rattle.std.specs.List.{flat_map}
use Rattle.sa_package_keys.specs.Codes.{number, list}
use Rattle.sa_keys.proofs.outcome.put_cells.Given as goal

abbrev pub invariant-loop-space : goal.invariant-loop-space
invariant-loop-space l =
    l.key.items ≡ (l.fn.key.items ++ number (length l.cells)) ++ flat_map (λ c. list number c.items) (take l.space-index l.cells)
