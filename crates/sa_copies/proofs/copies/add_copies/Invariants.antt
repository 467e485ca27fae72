use Rattle.std.proofs.Common.{◌≡◌, ◌++◌, drop}
use Rattle.std.specs.List.{filter_map}
use Rattle.sa_copies.specs.Copies.{copied}
use Rattle.sa_copies.proofs.copies.add_copies.Given as goal

-- what is there, with the copies of the operations to come, is the whole
abbrev pub invariant-loop-op : goal.invariant-loop-op
invariant-loop-op l = l.code ++ filter_map copied (drop l.op-index l.ops) ≡ l.fn.code ++ filter_map copied l.ops
