use Rattle.std.proofs.Common.{◌≡◌, ◌++◌, take}
use Rattle.std.specs.List.{flat_map}
use Rattle.sa_workload.specs.Text.{line_text, evict_line}
use Rattle.sa_workload.proofs.printing.push_evictions.Given as goal

abbrev pub invariant-loop-evict : goal.invariant-loop-evict
invariant-loop-evict l = l.out.items ≡ l.initial.out.items ++ flat_map (λ e. line_text (evict_line e)) (take l.evict-index l.evictions)
