use Rattle.std.proofs.Common.{◌∙◌}
use Rattle.sa_lemmas.proofs.Results.{on_err}
use Rattle.sa_cli.proofs.TracePieces.{run-ends, lines-cut}
use Rattle.sa_cli.proofs.output.put_run.Goals as goal

pub returns-in_err-put_lines-clause-err : goal.returns-in_err-put_lines-clause-err
returns-in_err-put_lines-clause-err g c =
    on_err c.from_residual.result
    (lines-cut (g.K.Sink.taken c.args.sink.now)
    (g.K.Sink.taken c.put_lines.new.sink) c.args.pieces.now c.args.items.now c.args.end c.args.events c.in_err-put_lines.ensures.err)

pub returns-clause-ok : goal.returns-clause-ok
returns-clause-ok g c =
    (run-ends (g.K.Sink.taken c.args.sink.now) (g.K.Sink.taken c.put_lines.new.sink) (g.K.Sink.taken c.put.new.sink) c.args.pieces.now c.put_lines.new.pieces
    c.args.items.now c.args.end c.args.events c.as_slice.result.now c.put.new.self c.put.result (c.as_slice.ensures.value ∙ c.print_last_line.ensures)
    c.in_ok-put_lines.ensures.ok c.put.ensures.ok c.put.ensures.err).0

pub returns-clause-err : goal.returns-clause-err
returns-clause-err g c =
    (run-ends (g.K.Sink.taken c.args.sink.now) (g.K.Sink.taken c.put_lines.new.sink) (g.K.Sink.taken c.put.new.sink) c.args.pieces.now c.put_lines.new.pieces
    c.args.items.now c.args.end c.args.events c.as_slice.result.now c.put.new.self c.put.result (c.as_slice.ensures.value ∙ c.print_last_line.ensures)
    c.in_ok-put_lines.ensures.ok c.put.ensures.ok c.put.ensures.err).1
