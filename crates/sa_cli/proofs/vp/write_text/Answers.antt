use Rattle.std.proofs.Common.{rules, ◌≡◌, [], ◌++◌}
use Rattle.sa_io.specs.Faults.{AppendsPrefix}
use Rattle.sa_io.specs.Pieces.{GoesOut}
use Rattle.sa_lemmas.proofs.Results.{on_err}
use Rattle.sa_trace.specs.TraceText.{trace_text}
use Rattle.sa_trace.specs.Losses.{losses_text}
use Rattle.sa_io.proofs.PieceLemmas.{all-ends}
use Rattle.sa_cli.proofs.Sessions.{first-cut}
use Rattle.sa_cli.proofs.VpPieces.{both-out, second-cut}
use Rattle.sa_cli.proofs.vp.write_text.Goals as goal

pub returns-in_err-put_run-clause-err : goal.returns-in_err-put_run-clause-err
returns-in_err-put_run-clause-err g c =
    let ended = c.args.ended.now in
    let trace = trace_text ended.trace.items ended.end ended.events in
    let cut : AppendsPrefix (g.K.Sink.taken c.args.sink.now) (g.K.Sink.taken c.put_run.new.sink) trace = search rules in
    on_err c.from_residual.result (first-cut (g.K.Sink.taken c.args.sink.now) (g.K.Sink.taken c.put_run.new.sink) trace (losses_text ended.lost.items) cut)

pub returns-in_err-put-clause-err : goal.returns-in_err-put-clause-err
returns-in_err-put-clause-err g c =
    let ended = c.args.ended.now in
    let trace = trace_text ended.trace.items ended.end ended.events in
    let line : c.as_slice.result.now ≡ losses_text ended.lost.items = search rules in
    let one : GoesOut (g.K.Sink.taken c.args.sink.now) (g.K.Sink.taken c.put_run.new.sink) [] trace c.put_run.new.pieces = search rules in
    on_err c.from_residual-in_err-put.result
    (second-cut (g.K.Sink.taken c.args.sink.now) (g.K.Sink.taken c.put_run.new.sink) (g.K.Sink.taken c.put.new.sink) trace c.put_run.new.pieces
    (losses_text ended.lost.items)
    c.as_slice.result.now line one c.in_err-put.ensures.err)

pub returns-clause-ok : goal.returns-clause-ok
returns-clause-ok g c =
    let ended = c.args.ended.now in
    let trace = trace_text ended.trace.items ended.end ended.events in
    let line : c.as_slice.result.now ≡ losses_text ended.lost.items = search rules in
    let one : GoesOut (g.K.Sink.taken c.args.sink.now) (g.K.Sink.taken c.put_run.new.sink) [] trace c.put_run.new.pieces = search rules in
    let both = both-out (g.K.Sink.taken c.args.sink.now) (g.K.Sink.taken c.put_run.new.sink) (g.K.Sink.taken c.put.new.sink) trace c.put_run.new.pieces
    (losses_text ended.lost.items)
    c.put.new.self c.as_slice.result.now line one c.in_ok-put.ensures.ok in
    (all-ends (g.K.Sink.taken c.args.sink.now) (g.K.Sink.taken c.put.new.sink) (g.K.Sink.taken c.end.new.sink)
    (trace ++ losses_text ended.lost.items) c.put.new.self c.end.result
    both c.end.ensures.ok c.end.ensures.err).0

pub returns-clause-err : goal.returns-clause-err
returns-clause-err g c =
    let ended = c.args.ended.now in
    let trace = trace_text ended.trace.items ended.end ended.events in
    let line : c.as_slice.result.now ≡ losses_text ended.lost.items = search rules in
    let one : GoesOut (g.K.Sink.taken c.args.sink.now) (g.K.Sink.taken c.put_run.new.sink) [] trace c.put_run.new.pieces = search rules in
    let both = both-out (g.K.Sink.taken c.args.sink.now) (g.K.Sink.taken c.put_run.new.sink) (g.K.Sink.taken c.put.new.sink) trace c.put_run.new.pieces
    (losses_text ended.lost.items)
    c.put.new.self c.as_slice.result.now line one c.in_ok-put.ensures.ok in
    (all-ends (g.K.Sink.taken c.args.sink.now) (g.K.Sink.taken c.put.new.sink) (g.K.Sink.taken c.end.new.sink)
    (trace ++ losses_text ended.lost.items) c.put.new.self c.end.result
    both c.end.ensures.ok c.end.ensures.err).1
