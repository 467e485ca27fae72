use Rattle.sa_cli.specs.Outcome.{status_of_end}
use Rattle.sa_cli.specs.Virtual.{run_text}
use Rattle.sa_cli.proofs.Told.{told-by}
use Rattle.sa_cli.proofs.vp.write_ended.Goals as goal

pub returns-clause-status : goal.returns-clause-status
returns-clause-status g c =
    let ended = c.args.ended in
    told-by (g.K.Sink.taken c.args.sink.now) (g.K.Sink.taken c.write_text.new.sink) (g.K.Sink.faults c.args.sink.now) (g.K.Sink.faults c.write_text.new.sink)
    (run_text ended.trace.items ended.end ended.events ended.lost.items) c.write_text.result c.from.result (status_of_end ended.end) c.status_of-status.result _
    c.from.ensures c.plain.ensures.status c.status_of-status.ensures.whole c.status_of-status.ensures.cut
    c.write_text.ensures.ok c.write_text.ensures.err c.write_text.ensures.fault
