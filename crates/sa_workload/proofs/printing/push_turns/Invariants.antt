use Rattle.std.proofs.Common.{◌≡◌, ◌++◌, take}
use Rattle.std.specs.List.{flat_map}
use Rattle.sa_workload.specs.Text.{line_text, turn_line}
use Rattle.sa_workload.proofs.printing.push_turns.Given as goal

abbrev pub invariant-loop-proc : goal.invariant-loop-proc
invariant-loop-proc l = l.out.items ≡ l.initial.out.items ++ flat_map (λ p. line_text (turn_line p)) (take l.proc-index l.turns)
