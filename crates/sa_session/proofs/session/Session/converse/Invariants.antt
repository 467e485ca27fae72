use Rattle.std.proofs.Common.{◌≡◌, ◌-◌, ◌≤◌}
use Rattle.sa_sched.specs.Kind.{order_of}
use Rattle.sa_sched.specs.Turns.{start, turned_often}
use Rattle.sa_core.specs.View.{machine}
use Rattle.sa_session.specs.Views.{Follows}
use Rattle.sa_session.proofs.Going.{IsAt}
use Rattle.sa_session.proofs.session.Session.converse.Given as goal

abbrev pub invariant-loop-schedule : goal.invariant-loop-schedule
invariant-loop-schedule g l = record {
  at : IsAt (machine l.fn.self.core).workload (order_of l.fn.kind) l.fn.self.core.budget l.fn.exchange.kept (g.S.Source.left l.initial.source)
      (g.S.Source.left l.source) (g.K.Sink.taken l.initial.sink) (g.K.Sink.taken l.sink) (machine l.self.core) l.self.told l.exchange l.replies;
  follows : Follows l.self;
  schedule : l.schedule ≡ turned_often (start (order_of l.fn.kind) (machine l.fn.self.core).workload.processors) (machine l.self.core).event;
  processors : l.schedule.processors ≡ (machine l.fn.self.core).workload.processors;
  budget : l.self.core.budget ≡ l.fn.self.core.budget;
  within : (machine l.self.core).event ≤ l.fn.self.core.budget;
  few : l.replies ≤ (machine l.self.core).event;
  reads : g.S.Source.faults l.initial.source ≤ g.S.Source.faults l.source;
  writes : g.K.Sink.faults l.initial.sink ≤ g.K.Sink.faults l.sink;
}

abbrev pub decreases-loop-schedule : goal.decreases-loop-schedule
decreases-loop-schedule g l = l.fn.self.core.budget - (machine l.self.core).event
