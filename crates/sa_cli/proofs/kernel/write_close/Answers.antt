use Rattle.std.proofs.Common.{◌≡◌, ℕ, List, ap, ◌∙◌, subst}
use Rattle.sa_trace.specs.TraceText.{last_line_of}
use Rattle.sa_cli.specs.Answers.{Writes}
use Rattle.sa_cli.specs.Kernel.{status_of_close, end_of_close}
use Rattle.sa_cli.proofs.Told.{told-by}
use Rattle.sa_cli.proofs.kernel.write_close.Goals as goal

pub returns-clause-status : goal.returns-clause-status
returns-clause-status g c =
    let over = c.args.over in
    let before = g.K.Sink.taken c.args.sink.now in
    let after = g.K.Sink.taken c.write_end-wrote.new.sink in
    let faults_before = g.K.Sink.faults c.args.sink.now in
    let faults_after = g.K.Sink.faults c.write_end-wrote.new.sink in
    let line : last_line_of c.items.result.now c.end_of.result over.events ≡ last_line_of over.trace.items (end_of_close over.close) over.events =
    ap (λ v. last_line_of v c.end_of.result over.events) c.items.ensures ∙ ap (λ e. last_line_of over.trace.items e over.events) c.end_of.ensures in
    subst (λ (v : List ℕ). Writes before after faults_before faults_after v (status_of_close over.close) c.plain.result.status) line
    (told-by before after faults_before faults_after
    (last_line_of c.items.result.now c.end_of.result over.events) c.write_end-wrote.result c.from.result (status_of_close over.close)
    c.status_of-status.result _
    c.from.ensures c.plain.ensures.status c.status_of-status.ensures.whole c.status_of-status.ensures.cut
    c.write_end-wrote.ensures.ok c.write_end-wrote.ensures.err c.write_end-wrote.ensures.fault)
