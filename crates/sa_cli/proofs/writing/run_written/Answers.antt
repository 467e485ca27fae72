use Rattle.std.proofs.Common.{List, refl, subst}
use Rattle.sa_base.specs.declared.record.Item.{Item}
use Rattle.sa_trace.specs.TraceText.{trace_text}
use Rattle.sa_cli.specs.Answers.{Writes}
use Rattle.sa_cli.specs.Outcome.{status_of_end}
use Rattle.sa_cli.proofs.Told.{told-by}
use Rattle.sa_cli.proofs.writing.run_written.Goals as goal

pub returns-clause-status : goal.returns-clause-status
returns-clause-status g c =
    let end = c.args.end in
    let events = c.args.events in
    let before = g.K.Sink.taken c.args.sink.now in
    let after = g.K.Sink.taken c.write_run.new.sink in
    let faults_before = g.K.Sink.faults c.args.sink.now in
    let faults_after = g.K.Sink.faults c.write_run.new.sink in
    subst (λ (items : List Item). Writes before after faults_before faults_after (trace_text items end events) (status_of_end end) c.status_of.result)
    c.items.ensures
    (told-by before after faults_before faults_after
    (trace_text c.items.result.now end events) c.write_run.result c.from.result (status_of_end end) c.status_of.result _
    c.from.ensures refl c.status_of.ensures.whole c.status_of.ensures.cut
    c.write_run.ensures.ok c.write_run.ensures.err c.write_run.ensures.fault)
