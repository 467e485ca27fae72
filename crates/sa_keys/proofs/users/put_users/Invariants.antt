use Rattle.std.proofs.Common.{◌≡◌, ◌++◌, take}
use Rattle.std.specs.List.{flat_map}
use Rattle.sa_core.specs.View.{machine}
use Rattle.sa_keys.proofs.users.put_users.Given as goal

abbrev pub invariant-loop-s : goal.invariant-loop-s
invariant-loop-s g l = l.key.items ≡ l.fn.key.items ++ flat_map g.U.Keyed.value_key (take l.s (machine l.core).users)
