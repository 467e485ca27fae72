use Rattle.std.proofs.Common.{List, subst}
use Rattle.sa_base.specs.declared.record.Item.{Item}
use Rattle.sa_trace.specs.TraceText.{last_line_of}
use Rattle.sa_cli.specs.Answers.{Writes}
use Rattle.sa_cli.specs.Outcome.{status_of_end}
use Rattle.sa_cli.proofs.Told.{told-by}
use Rattle.sa_cli.proofs.writing.write_last_line.Goals as goal

pub returns-clause-status : goal.returns-clause-status
returns-clause-status g c =
    let ended = c.args.ended in
    let before = g.K.Sink.taken c.args.sink.now in
    let after = g.K.Sink.taken c.write_end-wrote.new.sink in
    let faults_before = g.K.Sink.faults c.args.sink.now in
    let faults_after = g.K.Sink.faults c.write_end-wrote.new.sink in
    subst (λ (items : List Item). Writes before after faults_before faults_after (last_line_of items ended.end ended.events) (status_of_end ended.end) c.plain.result.status)
    c.items.ensures
    (told-by before after faults_before faults_after
    (last_line_of c.items.result.now ended.end ended.events) c.write_end-wrote.result c.from.result (status_of_end ended.end) c.status_of-status.result _
    c.from.ensures c.plain.ensures.status c.status_of-status.ensures.whole c.status_of-status.ensures.cut
    c.write_end-wrote.ensures.ok c.write_end-wrote.ensures.err c.write_end-wrote.ensures.fault)
