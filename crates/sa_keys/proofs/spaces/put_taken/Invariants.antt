use Rattle.std.proofs.Common.{◌≡◌, ◌++◌}
use Rattle.std.specs.List.{flat_map, range_with_len}
use Rattle.sa_core.specs.View.{machine}
use Rattle.sa_outlook.specs.Outlook.{outlook}
use Rattle.sa_keys.specs.Key.{taken_key}
use Rattle.sa_keys.proofs.spaces.put_taken.Given as goal

abbrev pub invariant-loop-s : goal.invariant-loop-s
invariant-loop-s g l = l.key.items ≡ l.fn.key.items ++ flat_map (taken_key (outlook g.U.Keyed.plain (machine l.core))) (range_with_len 0 l.s)
