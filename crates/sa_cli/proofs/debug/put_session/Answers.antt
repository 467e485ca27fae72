use Rattle.std.proofs.Common.{ℕ, List, ◌++◌, subst}
use Rattle.sa_io.specs.Faults.{AppendsPrefix}
use Rattle.sa_io.specs.Pieces.{GoesOut}
use Rattle.sa_io.proofs.PieceLemmas.{out-both}
use Rattle.sa_lemmas.proofs.Results.{on_err}
use Rattle.sa_trace.specs.TraceText.{trace_text}
use Rattle.sa_cli.proofs.Sessions.{first-cut, second-cut}
use Rattle.sa_io.proofs.PieceLemmas.{all-ends}
use Rattle.sa_cli.proofs.debug.put_session.Goals as goal

pub returns-in_err-put-clause-err : goal.returns-in_err-put-clause-err
returns-in_err-put-clause-err g c =
    let text = trace_text c.args.items.now c.args.end c.args.events in
    on_err c.from_residual.result
    (first-cut (g.K.Sink.taken c.args.sink.now) (g.K.Sink.taken c.put.new.sink) c.args.replies.now text
    (subst (λ (v : List ℕ). AppendsPrefix (g.K.Sink.taken c.args.sink.now) (g.K.Sink.taken c.put.new.sink) (v ++ c.args.replies.now)) c.new-pieces.ensures
    c.in_err-put.ensures.err))

pub returns-in_err-put_run-clause-err : goal.returns-in_err-put_run-clause-err
returns-in_err-put_run-clause-err g c =
    let text = trace_text c.args.items.now c.args.end c.args.events in
    on_err c.from_residual-in_err-put_run.result
    (second-cut (g.K.Sink.taken c.args.sink.now) (g.K.Sink.taken c.put.new.sink) (g.K.Sink.taken c.put_run.new.sink) c.args.replies.now c.put.new.self text
    (subst (λ (v : List ℕ). GoesOut (g.K.Sink.taken c.args.sink.now) (g.K.Sink.taken c.put.new.sink) v c.args.replies.now c.put.new.self) c.new-pieces.ensures
    c.in_ok-put.ensures.ok)
    c.in_err-put_run.ensures.err)

pub returns-clause-err : goal.returns-clause-err
returns-clause-err g c =
    let text = trace_text c.args.items.now c.args.end c.args.events in
    (all-ends (g.K.Sink.taken c.args.sink.now) (g.K.Sink.taken c.put_run.new.sink) (g.K.Sink.taken c.end.new.sink)
    (c.args.replies.now ++ text) c.put_run.new.pieces c.end.result
    (subst (λ (v : List ℕ). GoesOut (g.K.Sink.taken c.args.sink.now) (g.K.Sink.taken c.put_run.new.sink) v (c.args.replies.now ++ text) c.put_run.new.pieces)
    c.new-pieces.ensures
    (out-both (g.K.Sink.taken c.args.sink.now) (g.K.Sink.taken c.put.new.sink)
    (g.K.Sink.taken c.put_run.new.sink) c.new-pieces.result c.args.replies.now c.put.new.self text
    c.put_run.new.pieces c.in_ok-put.ensures.ok c.in_ok-put_run.ensures.ok)) c.end.ensures.ok c.end.ensures.err).1

pub returns-clause-ok : goal.returns-clause-ok
returns-clause-ok g c =
    let text = trace_text c.args.items.now c.args.end c.args.events in
    (all-ends (g.K.Sink.taken c.args.sink.now) (g.K.Sink.taken c.put_run.new.sink) (g.K.Sink.taken c.end.new.sink)
    (c.args.replies.now ++ text) c.put_run.new.pieces c.end.result
    (subst (λ (v : List ℕ). GoesOut (g.K.Sink.taken c.args.sink.now) (g.K.Sink.taken c.put_run.new.sink) v (c.args.replies.now ++ text) c.put_run.new.pieces)
    c.new-pieces.ensures
    (out-both (g.K.Sink.taken c.args.sink.now) (g.K.Sink.taken c.put.new.sink)
    (g.K.Sink.taken c.put_run.new.sink) c.new-pieces.result c.args.replies.now c.put.new.self text
    c.put_run.new.pieces c.in_ok-put.ensures.ok c.in_ok-put_run.ensures.ok)) c.end.ensures.ok c.end.ensures.err).0
