use Rattle.std.proofs.Common.{◌+◌, rules}
use Rattle.sa_input.specs.declared.limits.TheConstants.{WORKLOAD_LIMIT}
use Rattle.sa_cli.specs.Streams.{streams, world_by}
use Rattle.sa_cli.proofs.KernelResults.{over-loses, came-loses, stopped-answers, over-answers}
use Rattle.sa_cli.proofs.kernel.run_by_replies.Goals as goal

pub returns-in-Ok-talk-clause-lost : goal.returns-in-Ok-talk-clause-lost
returns-in-Ok-talk-clause-lost g c =
    over-loses (WORKLOAD_LIMIT + 1) (g.S.Source.left c.args.source.now) (g.S.Source.left c.read_workload_in_front.new.source)
    (g.S.Source.left c.talk.new.source) c.read_workload_in_front.ensures.lost c.in-Ok.front.0 _ c.args.budget c.in-Ok.front.1
    (g.K.Sink.taken c.args.sink.now) (g.K.Sink.taken c.talk.new.sink) c.in-Ok-talk.over c.in-Ok-talk.ensures.ok

pub returns-in-Ok-talk-clause-answers : goal.returns-in-Ok-talk-clause-answers
returns-in-Ok-talk-clause-answers g c =
    let told = world_by g.S.Source.left g.K.Sink.taken g.S.Source.faults g.K.Sink.faults in
    over-answers c.args.schedule c.args.budget
    (told (streams c.args.source.now c.args.sink.now))
    (told (streams c.talk.new.source c.write_close.new.sink))
    (g.S.Source.left c.read_workload_in_front.new.source) c.in-Ok.front.0 c.in-Ok.front.1 c.ranges-2.ensures c.in-Ok.ensures.ok
    c.each_session_is_legal.ensures c.each_session_ends_as_defined.ensures (g.K.Sink.taken c.talk.new.sink) c.each_whole_session_is_right.ensures
    _ c.in-Ok-talk.over c.write_close.result.ran (g.K.Sink.faults c.talk.new.sink) c.write_close.result.status c.in-Ok-kind_of.ensures.order
    c.write_close.ensures.ran c.talk.ensures.writes c.in-Ok-talk.ensures.ok c.write_close.ensures.status

pub returns-in-Err-talk-clause-lost : goal.returns-in-Err-talk-clause-lost
returns-in-Err-talk-clause-lost g c =
    came-loses (WORKLOAD_LIMIT + 1) (g.S.Source.left c.args.source.now) (g.S.Source.left c.read_workload_in_front.new.source)
    (g.S.Source.left c.talk.new.source) c.read_workload_in_front.ensures.lost c.in-Ok.front.0 _ c.args.budget c.in-Ok.front.1
    (g.K.Sink.taken c.args.sink.now) (g.K.Sink.taken c.talk.new.sink) c.in-Err-talk.why c.in-Err-talk.ensures.err

pub returns-in-Err-talk-clause-answers : goal.returns-in-Err-talk-clause-answers
returns-in-Err-talk-clause-answers g c =
    let told = world_by g.S.Source.left g.K.Sink.taken g.S.Source.faults g.K.Sink.faults in
    stopped-answers c.args.schedule c.args.budget
    (told (streams c.args.source.now c.args.sink.now))
    (told (streams c.talk.new.source c.talk.new.sink))
    (g.S.Source.left c.read_workload_in_front.new.source) c.in-Ok.front.0 c.in-Ok.front.1 c.ranges-2.ensures c.in-Ok.ensures.ok
    c.each_session_is_legal.ensures c.each_session_ends_as_defined.ensures
    _ c.nothing-in-Err-talk.result.ran c.in-Err-talk.why c.nothing-in-Err-talk.result.status (g.S.Source.faults c.read_workload_in_front.new.source)
    c.in-Ok-kind_of.ensures.order c.nothing-in-Err-talk.ensures.ran (search rules) c.read_workload_in_front.ensures.counted
    c.in-Err-talk.ensures.err c.in-Err-talk.ensures.why
