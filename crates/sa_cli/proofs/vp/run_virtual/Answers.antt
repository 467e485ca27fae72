use Rattle.sa_cli.specs.Streams.{streams, world_by}
use Rattle.sa_cli.proofs.VirtualResults.{virtual-answers, virtual-stops}
use Rattle.sa_cli.proofs.vp.run_virtual.Goals as goal

pub returns-in-Ok-run-clause-answers : goal.returns-in-Ok-run-clause-answers
returns-in-Ok-run-clause-answers g c =
    let told = world_by g.S.Source.left g.K.Sink.taken g.S.Source.faults g.K.Sink.faults in
    virtual-answers c.args.schedule c.args.budget
    (told (streams c.args.source.now c.args.sink.now))
    (told (streams c.read_workload.new.source c.write_ended.new.sink))
    c.write_ended.result.ran c.in-Ok-run.ended.trace c.write_ended.ensures.ran c.in-Ok.workload c.in-Ok.ensures.ok _ c.in-Ok-kind_of.ensures.order
    c.in-Ok-run.ended.end c.in-Ok-run.ended.events c.in-Ok-run.ended.lost.items c.write_ended.result.status c.in-Ok-run.ensures.ok c.write_ended.ensures.status

pub returns-in-Err-run-clause-answers : goal.returns-in-Err-run-clause-answers
returns-in-Err-run-clause-answers g c =
    let told = world_by g.S.Source.left g.K.Sink.taken g.S.Source.faults g.K.Sink.faults in
    virtual-stops c.args.schedule c.args.budget
    (told (streams c.args.source.now c.args.sink.now))
    (told (streams c.read_workload.new.source c.args.sink.now))
    c.plain.result.ran c.in-Err-run.trace c.plain.ensures.ran c.in-Ok.workload c.in-Ok.ensures.ok _ c.in-Ok-kind_of.ensures.order
    c.plain.result.status c.plain.ensures.status c.in-Err-run.ensures.err
