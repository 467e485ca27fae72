use Rattle.std.proofs.Common.{◌++◌, ◌∙◌, ap}
use Rattle.sa_lemmas.proofs.Appends.{list-more, list-all}
use Rattle.sa_workload.specs.Text.{line_text, sem_line}
use Rattle.sa_workload.proofs.printing.push_sems.Goals as goal

pub loop-start-preserved : goal.loop-start-preserved
loop-start-preserved c =
    list-more (λ start. line_text (sem_line start)) c.args.sems.now c.loop-start.start-index 0 _ _ _
    c.loop-start-test.true c.loop-start.invariant
    (c.in_ok-push_line.ensures ∙ ap (λ start. c.loop-start.out.items ++ line_text (sem_line start)) c.from.ensures)

pub returns : goal.returns
returns c = list-all (λ start. line_text (sem_line start)) c.args.sems.now c.loop-start.start-index _ _ c.loop-start-test.false c.loop-start.invariant
