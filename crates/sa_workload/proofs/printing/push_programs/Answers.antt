use Rattle.std.specs.List.{flat_map}
use Rattle.std.proofs.Common.{◌++◌, ◌∙◌, ap}
use Rattle.sa_lemmas.proofs.Appends.{list-more, list-all}
use Rattle.sa_workload.specs.Text.{line_text, program_lines}
use Rattle.sa_workload.proofs.printing.push_programs.Goals as goal

pub loop-program-preserved : goal.loop-program-preserved
loop-program-preserved c =
    list-more (λ p. flat_map line_text (program_lines p)) c.args.programs.now c.loop-program.program-index c.program-item.result _ _ _
    c.loop-program-test.true c.loop-program.invariant
    (c.in_ok-push_program.ensures ∙ ap (λ p. c.loop-program.out.items ++ flat_map line_text (program_lines p)) c.program-item.is)

pub returns : goal.returns
returns c =
    list-all (λ p. flat_map line_text (program_lines p)) c.args.programs.now c.loop-program.program-index _ _ c.loop-program-test.false
    c.loop-program.invariant
