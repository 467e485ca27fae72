use Rattle.std.proofs.Common.{◌++◌, ◌∙◌, ap}
use Rattle.sa_lemmas.proofs.Appends.{list-more, list-all}
use Rattle.sa_workload.specs.Text.{line_text, evict_line}
use Rattle.sa_workload.proofs.calls.PrintedText.{evict_text}
use Rattle.sa_workload.proofs.printing.push_evictions.Goals as goal

pub loop-evict-preserved : goal.loop-evict-preserved
loop-evict-preserved c =
    list-more (λ e. line_text (evict_line e)) c.args.evictions.now c.loop-evict.evict-index (record { event = 0; space = record { 0 = 0 }; page = 0 }) _ _ _
    c.loop-evict-test.true c.loop-evict.invariant
    (c.in_ok-push_line.ensures ∙ ap (λ ys. c.loop-evict.out.items ++ ys) (evict_text _ _ _ c.from.ensures c.from-in-loop-evict.ensures))

pub returns : goal.returns
returns c = list-all (λ e. line_text (evict_line e)) c.args.evictions.now c.loop-evict.evict-index _ _ c.loop-evict-test.false c.loop-evict.invariant
