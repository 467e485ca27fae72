use Rattle.std.proofs.Common.{◌++◌, ◌∙◌, ap}
use Rattle.std.specs.List.{flat_map}
use Rattle.std.proofs.lemmas.Result.{on_ok_weaker}
use Rattle.sa_workload.specs.Text.{line_text, sem_line, absent_line, program_lines}
use Rattle.sa_workload.proofs.calls.PrintedText.{pushed_space}
use Rattle.sa_workload.proofs.printing.push_space.Goals as goal

pub returns : goal.returns
returns c =
    on_ok_weaker c.push_programs.result
    (λ last. pushed_space c.args.version c.args.space.now c.args.out.now.items _ _ _ _ c.in_ok-push_space_line.ensures
    (c.in_ok-push_sems.ensures ∙ ap (λ xs. c.push_space_line.new.out.items ++ flat_map (λ start. line_text (sem_line start)) xs) c.sems.ensures.value)
    (c.in_ok-push_absent.ensures ∙ ap (λ xs. c.push_sems.new.out.items ++ flat_map (λ page. line_text (absent_line page)) xs) c.absent.ensures.value)
    (last ∙ ap (λ xs. c.push_absent.new.out.items ++ flat_map (λ p. flat_map line_text (program_lines p)) xs) c.programs.ensures.value))
    c.push_programs.ensures
