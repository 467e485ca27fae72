use Rattle.std.proofs.Common.{◌≡◌, ◌≤◌, ◌++◌, ◌*◌, take, drop}
use Rattle.sa_lists.specs.Chains.{width_of, joined, chains_of}
use Rattle.sa_lists.proofs.ranked.copy_chains.Given as goal

abbrev pub invariant-loop-rank : goal.invariant-loop-rank
invariant-loop-rank l = record {
  below : l.rank ≤ width_of l.kind;
  all : l.out.items ++ joined (take l.rank (drop (l.list * width_of l.kind) l.chains.lists))
      ≡ l.fn.out.items ++ joined (chains_of l.chains.lists (width_of l.kind) l.list);
}

abbrev pub decreases-loop-rank : goal.decreases-loop-rank
decreases-loop-rank l = l.rank
