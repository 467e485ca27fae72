use Rattle.std.proofs.Common.{◌≡◌, find, drop}
use Rattle.sa_debug.specs.Order.{goes, in_order}
use Rattle.sa_debug.proofs.halts.Halts.next.Given as goal

-- the first that goes is among those that are left
abbrev pub invariant-loop-k : goal.invariant-loop-k
invariant-loop-k l = find (goes l.fn.self) (in_order l.fn.first l.fn.processors) ≡ find (goes l.fn.self) (drop l.k (in_order l.fn.first l.fn.processors))
