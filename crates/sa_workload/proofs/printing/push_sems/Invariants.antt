use Rattle.std.proofs.Common.{◌≡◌, ◌++◌, take}
use Rattle.std.specs.List.{flat_map}
use Rattle.sa_workload.specs.Text.{line_text, sem_line}
use Rattle.sa_workload.proofs.printing.push_sems.Given as goal

abbrev pub invariant-loop-start : goal.invariant-loop-start
invariant-loop-start l = l.out.items ≡ l.initial.out.items ++ flat_map (λ start. line_text (sem_line start)) (take l.start-index l.sems)
