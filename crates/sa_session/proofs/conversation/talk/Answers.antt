use Rattle.std.proofs.Common.{sym, ap, ◌∙◌}
use Rattle.sa_lemmas.proofs.Results.{err_along}
use Rattle.sa_sched.specs.Kind.{order_of}
use Rattle.sa_core_model.specs.Run.{opening}
use Rattle.sa_driven_model.specs.Step.{driven_calls}
use Rattle.sa_driven_runs.specs.Sessions.{DrivenMachine}
use Rattle.sa_session.specs.declared.exchange.NoTalk.TheVariants.{OutOfMemory}
use Rattle.sa_session.specs.Over.{CameSoFar}
use Rattle.sa_session.proofs.Going.{lost-start}
use Rattle.sa_session.proofs.conversation.talk.Goals as goal

pub returns-in_err-session-clause-err : goal.returns-in_err-session-clause-err
returns-in_err-session-clause-err g c =
    err_along (CameSoFar c.args.workload (order_of c.args.kind) c.args.budget c.args.lines (g.S.Source.left c.args.source.now)
    (g.S.Source.left c.args.source.now) (g.K.Sink.taken c.args.sink.now) (g.K.Sink.taken c.args.sink.now)) OutOfMemory c.from_residual.result
    (lost-start c.args.workload (order_of c.args.kind) c.args.budget c.args.lines (g.S.Source.left c.args.source.now) (g.K.Sink.taken c.args.sink.now))
    c.from_residual.ensures.1

pub converse-requires-clause-opening : goal.converse-requires-clause-opening
converse-requires-clause-opening g c =
    let is = c.in_ok-session.ensures.machine in is ∙ ap (opening driven_calls) (sym (ap (λ (z : DrivenMachine). z.workload) is))
