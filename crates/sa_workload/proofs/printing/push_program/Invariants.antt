use Rattle.std.proofs.Common.{◌≡◌, ◌++◌, take}
use Rattle.std.specs.List.{flat_map}
use Rattle.sa_workload.specs.Text.{line_text, instr_line}
use Rattle.sa_workload.proofs.printing.push_program.Given as goal

abbrev pub invariant-loop-pc : goal.invariant-loop-pc
invariant-loop-pc l = l.out.items ≡ l.initial.out.items ++ flat_map (λ i. line_text (instr_line i)) (take l.pc l.program)
