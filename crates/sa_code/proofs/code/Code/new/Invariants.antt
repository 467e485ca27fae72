use Rattle.std.proofs.Common.{◌≡◌, take}
use Rattle.sa_code.proofs.code.Code.new.Given as goal

abbrev pub invariant-loop-op : goal.invariant-loop-op
invariant-loop-op l = l.code ≡ take l.op-index l.ops
