use Rattle.std.proofs.Common.{◌≡◌, ◌++◌, take}
use Rattle.std.specs.List.{flat_map}
use Rattle.sa_workload.specs.Text.{line_text, absent_line}
use Rattle.sa_workload.proofs.printing.push_absent.Given as goal

abbrev pub invariant-loop-page : goal.invariant-loop-page
invariant-loop-page l = l.out.items ≡ l.initial.out.items ++ flat_map (λ page. line_text (absent_line page)) (take l.page-index l.pages)
