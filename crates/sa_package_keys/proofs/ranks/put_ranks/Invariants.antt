use Rattle.std.proofs.Common.{◌≡◌, ◌++◌, map, take}
use Rattle.std.specs.List.{range_with_len}
use Rattle.sa_lists.specs.ReadyView.{rank_of}
use Rattle.sa_package_keys.specs.Codes.{number}
use Rattle.sa_package_keys.proofs.Loops.{so_far}
use Rattle.sa_package_keys.proofs.ranks.put_ranks.Given as goal

abbrev pub invariant-loop-t : goal.invariant-loop-t
invariant-loop-t l =
    l.key.items ≡ l.fn.key.items ++ so_far number (take l.kept (map (rank_of l.lists.ranks) (range_with_len 0 l.lists.threads))) l.t
