use Rattle.std.proofs.Common.{rules}
use Rattle.sa_io.proofs.PieceLemmas.{all-ends}
use Rattle.sa_io.proofs.pieces.write_text.Goals as goal

pub returns-clause-ok : goal.returns-clause-ok
returns-clause-ok g c =
    (all-ends (g.K.Sink.taken c.args.sink.now) (g.K.Sink.taken c.put.new.sink) (g.K.Sink.taken c.end.new.sink) c.args.text.now c.put.new.self c.end.result
    (search rules) c.end.ensures.ok c.end.ensures.err).0

pub returns-clause-err : goal.returns-clause-err
returns-clause-err g c =
    (all-ends (g.K.Sink.taken c.args.sink.now) (g.K.Sink.taken c.put.new.sink) (g.K.Sink.taken c.end.new.sink) c.args.text.now c.put.new.self c.end.result
    (search rules) c.end.ensures.ok c.end.ensures.err).1
