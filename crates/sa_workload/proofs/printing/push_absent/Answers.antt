use Rattle.std.proofs.Common.{◌++◌, ◌∙◌, ap}
use Rattle.sa_lemmas.proofs.Appends.{list-more, list-all}
use Rattle.sa_workload.specs.Text.{line_text, absent_line}
use Rattle.sa_workload.proofs.printing.push_absent.Goals as goal

pub loop-page-preserved : goal.loop-page-preserved
loop-page-preserved c =
    list-more (λ page. line_text (absent_line page)) c.args.pages.now c.loop-page.page-index 0 _ _ _
    c.loop-page-test.true c.loop-page.invariant
    (c.in_ok-push_line.ensures ∙ ap (λ page. c.loop-page.out.items ++ line_text (absent_line page)) c.from.ensures)

pub returns : goal.returns
returns c = list-all (λ page. line_text (absent_line page)) c.args.pages.now c.loop-page.page-index _ _ c.loop-page-test.false c.loop-page.invariant
