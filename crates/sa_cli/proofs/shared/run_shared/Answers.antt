use Rattle.sa_cli.specs.Streams.{streams, world_by}
use Rattle.sa_cli.proofs.SharedResults.{shared-answers}
use Rattle.sa_cli.proofs.shared.run_shared.Goals as goal

pub returns-in-Ok-run-clause-answers : goal.returns-in-Ok-run-clause-answers
returns-in-Ok-run-clause-answers g c =
    let told = world_by g.S.Source.left g.K.Sink.taken g.S.Source.faults g.K.Sink.faults in
    shared-answers c.args.limits.budget
    (told (streams c.args.source.now c.args.sink.now))
    (told (streams c.read_workload.new.source c.write_closed.new.sink))
    c.in-Ok.workload c.in-Ok-run.closed c.write_closed.result.ran c.write_closed.result.status c.write_closed.ensures.ran c.in-Ok.ensures.ok
    c.ranges-2.ensures c.in-Ok-run.ensures c.write_closed.ensures.status
