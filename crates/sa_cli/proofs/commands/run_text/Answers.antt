use Rattle.std.proofs.Common.{◌≡◌, ◌⊎◌, [], subst}
use Rattle.sa_sched.specs.Order.{Order}
use Rattle.sa_workload.specs.Text.{IsText}
use Rattle.sa_run.specs.Run.{RunsTo, RunsUnended}
use Rattle.sa_cli.specs.Packages.{runs_of}
use Rattle.sa_cli.specs.Schedules.{order_by}
use Rattle.sa_cli.specs.Input.{GaveText}
use Rattle.sa_cli.specs.Streams.{streams, world_by}
use Rattle.sa_cli.specs.Commands.{run_plan}
use Rattle.sa_cli.proofs.Packages.{kept-by}
use Rattle.sa_cli.proofs.Results.{ended-answers, stopped-answers, run-answers}
use Rattle.sa_cli.proofs.commands.run_text.Goals as goal

pub returns-in-Ok-run_with-clause-answers : goal.returns-in-Ok-run_with-clause-answers
returns-in-Ok-run_with-clause-answers g c =
    let plan = run_plan c.args.schedule c.args.budget c.args.user_level in
    let told = world_by g.S.Source.left g.K.Sink.taken g.S.Source.faults g.K.Sink.faults in
    let before = told (streams c.args.source.now c.args.sink.now) in
    let after = told (streams c.read_workload.new.source c.write_trace.new.sink) in
    let ended = c.in-Ok-run_with.ended in
    let runs : RunsTo (runs_of c.args.user_level).calls c.in-Ok.workload
    (order_by c.args.schedule c.in-Ok.workload) c.args.budget ended.trace.items ended.end ended.events =
    subst (λ (o : Order). RunsTo (runs_of c.args.user_level).calls c.in-Ok.workload o c.args.budget ended.trace.items ended.end ended.events)
    c.in-Ok-kind_of.ensures.order c.in-Ok-run_with.ensures.ok in
    run-answers plan before after _ _
    (ended-answers (GaveText IsText (g.S.Source.left c.args.source.now) (g.S.Source.left c.read_workload.new.source)) plan (kept-by c.args.user_level)
    before after _ ended.trace c.in-Ok.workload ended.end ended.events _ c.write_trace.ensures.ran c.in-Ok.ensures.ok c.ranges-2.ensures runs
    c.write_trace.ensures.status)

pub returns-in-Err-run_with-clause-answers : goal.returns-in-Err-run_with-clause-answers
returns-in-Err-run_with-clause-answers g c =
    let plan = run_plan c.args.schedule c.args.budget c.args.user_level in
    let told = world_by g.S.Source.left g.K.Sink.taken g.S.Source.faults g.K.Sink.faults in
    let before = told (streams c.args.source.now c.args.sink.now) in
    let after = told (streams c.read_workload.new.source c.args.sink.now) in
    let trace = c.in-Err-run_with.trace in
    let runs : (trace.items ≡ []) ⊎ RunsUnended (runs_of c.args.user_level).calls c.in-Ok.workload
    (order_by c.args.schedule c.in-Ok.workload) c.args.budget trace.items =
    subst (λ (o : Order). (trace.items ≡ []) ⊎ RunsUnended (runs_of c.args.user_level).calls c.in-Ok.workload o c.args.budget trace.items)
    c.in-Ok-kind_of.ensures.order c.in-Err-run_with.ensures.err in
    run-answers plan before after _ _
    (stopped-answers (GaveText IsText (g.S.Source.left c.args.source.now) (g.S.Source.left c.read_workload.new.source)) plan (kept-by c.args.user_level)
    before after _ trace c.in-Ok.workload _ c.plain.ensures.ran c.plain.ensures.status c.in-Ok.ensures.ok c.ranges-2.ensures runs)
