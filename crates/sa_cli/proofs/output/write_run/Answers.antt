use Rattle.std.proofs.Common.{rules}
use Rattle.sa_trace.specs.TraceText.{trace_text}
use Rattle.sa_io.proofs.PieceLemmas.{all-ends}
use Rattle.sa_cli.proofs.output.write_run.Goals as goal

pub returns-clause-ok : goal.returns-clause-ok
returns-clause-ok g c =
    (all-ends (g.K.Sink.taken c.args.sink.now) (g.K.Sink.taken c.put_run.new.sink) (g.K.Sink.taken c.end.new.sink)
    (trace_text c.args.items.now c.args.end c.args.events) c.put_run.new.pieces c.end.result
    (search rules) c.end.ensures.ok c.end.ensures.err).0

pub returns-clause-err : goal.returns-clause-err
returns-clause-err g c =
    (all-ends (g.K.Sink.taken c.args.sink.now) (g.K.Sink.taken c.put_run.new.sink) (g.K.Sink.taken c.end.new.sink)
    (trace_text c.args.items.now c.args.end c.args.events) c.put_run.new.pieces c.end.result
    (search rules) c.end.ensures.ok c.end.ensures.err).1
