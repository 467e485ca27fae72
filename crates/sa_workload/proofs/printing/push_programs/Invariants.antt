use Rattle.std.proofs.Common.{◌≡◌, ◌++◌, take}
use Rattle.std.specs.List.{flat_map}
use Rattle.sa_workload.specs.Text.{line_text, program_lines}
use Rattle.sa_workload.proofs.printing.push_programs.Given as goal

abbrev pub invariant-loop-program : goal.invariant-loop-program
invariant-loop-program l =
    l.out.items ≡ l.initial.out.items ++ flat_map (λ p. flat_map line_text (program_lines p)) (take l.program-index l.programs)
