use Rattle.std.proofs.Common.{◌++◌, ◌∷◌, [], ◌∙◌, ap, codes, decimal}
use Rattle.sa_lemmas.proofs.Appends.{list-more, list-all}
use Rattle.sa_workload.specs.Text.{line_text, turn_line}
use Rattle.sa_workload.proofs.printing.push_turns.Goals as goal

pub loop-proc-preserved : goal.loop-proc-preserved
loop-proc-preserved c =
    list-more (λ p. line_text (turn_line p)) c.args.turns.now c.loop-proc.proc-index (record { 0 = 0 }) _ _ _
    c.loop-proc-test.true c.loop-proc.invariant
    (c.in_ok-push_line.ensures ∙ ap (λ number. c.loop-proc.out.items ++ line_text (codes "turn" ∷ decimal number ∷ [])) c.from.ensures)

pub returns : goal.returns
returns c = list-all (λ p. line_text (turn_line p)) c.args.turns.now c.loop-proc.proc-index _ _ c.loop-proc-test.false c.loop-proc.invariant
