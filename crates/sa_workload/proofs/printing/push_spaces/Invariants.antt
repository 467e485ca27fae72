use Rattle.std.proofs.Common.{◌≡◌, ◌++◌, take}
use Rattle.std.specs.List.{flat_map}
use Rattle.sa_workload.specs.Text.{line_text, space_lines}
use Rattle.sa_workload.proofs.printing.push_spaces.Given as goal

abbrev pub invariant-loop-space : goal.invariant-loop-space
invariant-loop-space l =
    l.out.items ≡ l.initial.out.items ++ flat_map (λ s. flat_map line_text (space_lines l.version s)) (take l.space-index l.spaces)
