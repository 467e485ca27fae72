use Rattle.std.proofs.Common.{◌≡◌, ◌++◌}
use Rattle.std.specs.List.{flat_map, range_with_len}
use Rattle.sa_core.specs.View.{machine}
use Rattle.sa_outlook.specs.Outlook.{outlook}
use Rattle.sa_keys.specs.Key.{processor_key}
use Rattle.sa_keys.proofs.processors.put_processors.Given as goal

abbrev pub invariant-loop-p : goal.invariant-loop-p
invariant-loop-p g l =
    l.key.items ≡ l.fn.key.items ++ flat_map (processor_key g.U.Keyed.context_key (outlook g.U.Keyed.plain (machine l.core))) (range_with_len 0 l.p)
