use Rattle.std.proofs.Common.{map}
use Rattle.std.specs.List.{range_with_len}
use Rattle.sa_lists.specs.ReadyView.{rank_of}
use Rattle.sa_package_keys.proofs.Trimmed.{PassFrom}
use Rattle.sa_package_keys.specs.Packages.{is_zero}
use Rattle.sa_package_keys.proofs.ranks.kept_ranks.Given as goal

abbrev pub invariant-loop-t : goal.invariant-loop-t
invariant-loop-t l = PassFrom is_zero 0 l.t (map (rank_of l.lists.ranks) (range_with_len 0 l.lists.threads))
