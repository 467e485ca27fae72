use Rattle.std.proofs.Common.{rules, arith, ◌≡◌, ℕ, ◌+◌, Some, None, take, refl, sym, ap, ◌∙◌, subst}
use Rattle.sa_lemmas.proofs.Results.{err_along}
use Rattle.sa_sched.specs.Kind.{order_of}
use Rattle.sa_sched.specs.Turns.{Turns, start, turned_often}
use Rattle.sa_core.specs.View.{CoreView, machine}
use Rattle.sa_core.proofs.CoreLemmas.{goes-on}
use Rattle.sa_core_model.specs.End.{end_of}
use Rattle.sa_driven_model.specs.declared.context.DrivenContext.{DrivenContext}
use Rattle.sa_driven_model.specs.declared.space.DrivenSpace.{DrivenSpace}
use Rattle.sa_driven_model.specs.Step.{driven_calls}
use Rattle.sa_replies.specs.Telling.{opened, told_through}
use Rattle.sa_session.specs.declared.exchange.NoTalk.TheVariants.{Write, OutOfMemory}
use Rattle.sa_session.specs.declared.conversation.Went.{Went}
use Rattle.sa_driven_runs.specs.Sessions.{DrivenMachine}
use Rattle.sa_session.specs.Machines.{proc_after}
use Rattle.sa_session.specs.Exchange.{ExchangeView}
use Rattle.sa_session.specs.Events.{Makes, Refuses, Goes}
use Rattle.sa_session.specs.Over.{CameSoFar}
use Rattle.sa_session.proofs.Going.{IsAt, at-opening, at-plays, at-all, at-end, at-event, at-refusal, lost-here, lost-writing, lost-event, lost-refusing, turn-is, schedule-on, follows-event}
use Rattle.sa_session.proofs.session.Session.converse.Goals as goal

pub loop-schedule-init : goal.loop-schedule-init
loop-schedule-init g c =
    let w = (machine c.args.self.now.core).workload in
    let order = order_of c.args.kind in
    let budget = c.args.self.now.core.budget in
    let kept = c.args.exchange.now.kept in
    let before = g.S.Source.left c.args.source.now in
    let old = g.K.Sink.taken c.args.sink.now in
    let first : (machine c.args.self.now.core).event ≡ 0 = ap (λ (z : DrivenMachine). z.event) c.requires.opening in
    record {
      at = subst (λ (n : ℕ). IsAt w order budget kept before before old old (machine c.args.self.now.core) n c.args.exchange.now 0) (sym c.requires.told)
          (at-opening w order budget kept before old (machine c.args.self.now.core) c.args.exchange.now c.requires.opening refl c.requires.said);
      follows = record {
        few = omega (arith, c.requires.told);
        knows = c.requires.teller
            ∙ ap (λ (n : ℕ). told_through (opened w) (take n (machine c.args.self.now.core).items)) (sym c.requires.told);
      };
      schedule = search rules;
      processors = search rules;
      budget = refl;
      within = omega (arith, first);
      few = omega arith;
      reads = omega arith;
      writes = omega arith;
    }

pub tell-requires-clause-plays : goal.tell-requires-clause-plays
tell-requires-clause-plays g c =
    let w = (machine c.args.self.now.core).workload in
    let order = order_of c.args.kind in
    let budget = c.args.self.now.core.budget in
    let kept = c.args.exchange.now.kept in
    let before = g.S.Source.left c.args.source.now in
    let old = g.K.Sink.taken c.args.sink.now in
    let at = g.S.Source.left c.loop-schedule.source in
    let now = g.K.Sink.taken c.loop-schedule.sink in
    at-plays w order budget kept before old (machine c.loop-schedule.self.core) c.loop-schedule.exchange at now c.loop-schedule.self.told c.loop-schedule.replies
    c.requires.workload c.loop-schedule.invariant.at

pub returns-in_err-tell-clause-err : goal.returns-in_err-tell-clause-err
returns-in_err-tell-clause-err g c =
    let w = (machine c.args.self.now.core).workload in
    let order = order_of c.args.kind in
    let budget = c.args.self.now.core.budget in
    let kept = c.args.exchange.now.kept in
    let before = g.S.Source.left c.args.source.now in
    let old = g.K.Sink.taken c.args.sink.now in
    let at = g.S.Source.left c.loop-schedule.source in
    let now = g.K.Sink.taken c.loop-schedule.sink in
    err_along (CameSoFar w order budget kept before at old now) OutOfMemory c.from_residual.result
    (lost-here w order budget kept before old (machine c.loop-schedule.self.core) c.loop-schedule.exchange at now c.loop-schedule.self.told
    c.loop-schedule.replies c.loop-schedule.invariant.at)
    c.from_residual.ensures.1

pub returns-in_err-write-clause-err : goal.returns-in_err-write-clause-err
returns-in_err-write-clause-err g c =
    let w = (machine c.args.self.now.core).workload in
    let order = order_of c.args.kind in
    let budget = c.args.self.now.core.budget in
    let kept = c.args.exchange.now.kept in
    let before = g.S.Source.left c.args.source.now in
    let old = g.K.Sink.taken c.args.sink.now in
    let at = g.S.Source.left c.loop-schedule.source in
    let now = g.K.Sink.taken c.loop-schedule.sink in
    let said : ExchangeView = record { said = c.tell.new.said.items; kept = c.exchange.inside.lines } in
    let here =
    at-all w order budget kept before old at now c.loop-schedule.replies c.loop-schedule.self c.tell.new.self c.loop-schedule.exchange _
    c.tell.new.said.items c.exchange.view_is c.tell.ensures.core c.in_ok-tell.ensures.told c.in_ok-tell.ensures.text c.loop-schedule.invariant.at in
    let cause = CameSoFar w order budget kept before at old (g.K.Sink.taken c.write.new.sink) in
    err_along cause c.in_err-write.field-0.0 c.from_residual-in_err-write.result
    (subst cause (sym c.in_err-write.ensures.why.0)
    (lost-writing w order budget kept before old (machine c.tell.new.self.core) said at now c.tell.new.self.told c.loop-schedule.replies here
    (g.K.Sink.taken c.write.new.sink) c.in_err-write.ensures.err))
    c.from_residual-in_err-write.ensures.1

pub returns-in-Some-clause-ok : goal.returns-in-Some-clause-ok
returns-in-Some-clause-ok g c =
    let w = (machine c.args.self.now.core).workload in
    let order = order_of c.args.kind in
    let budget = c.args.self.now.core.budget in
    let kept = c.args.exchange.now.kept in
    let before = g.S.Source.left c.args.source.now in
    let old = g.K.Sink.taken c.args.sink.now in
    let at = g.S.Source.left c.loop-schedule.source in
    let now = g.K.Sink.taken c.loop-schedule.sink in
    let said : ExchangeView = record { said = c.tell.new.said.items; kept = c.exchange.inside.lines } in
    let here =
    at-all w order budget kept before old at now c.loop-schedule.replies c.loop-schedule.self c.tell.new.self c.loop-schedule.exchange _
    c.tell.new.said.items c.exchange.view_is c.tell.ensures.core c.in_ok-tell.ensures.told c.in_ok-tell.ensures.text c.loop-schedule.invariant.at in
    let limit : c.tell.new.self.core.budget ≡ budget =
    ap (λ (v : CoreView DrivenSpace DrivenContext). v.budget) c.tell.ensures.core ∙ c.loop-schedule.invariant.budget in
    let ends : end_of driven_calls budget (machine c.tell.new.self.core) ≡ Some c.in-Some.end =
    sym (c.end.ensures ∙ ap (λ (n : ℕ). end_of driven_calls n (machine c.tell.new.self.core)) limit) ∙ c.in-Some.is in
    at-end w order budget kept before old (machine c.tell.new.self.core) said at now c.tell.new.self.told c.loop-schedule.replies here
    c.in_ok-tell.ensures.told.all c.in-Some.end (g.K.Sink.taken c.write.new.sink) ends c.in_ok-write.ensures.ok

pub returns-in_err-event-clause-err : goal.returns-in_err-event-clause-err
returns-in_err-event-clause-err g c =
    let w = (machine c.args.self.now.core).workload in
    let order = order_of c.args.kind in
    let budget = c.args.self.now.core.budget in
    let kept = c.args.exchange.now.kept in
    let before = g.S.Source.left c.args.source.now in
    let old = g.K.Sink.taken c.args.sink.now in
    let at = g.S.Source.left c.loop-schedule.source in
    let now = g.K.Sink.taken c.loop-schedule.sink in
    let said : ExchangeView = record { said = c.tell.new.said.items; kept = c.exchange.inside.lines } in
    let here =
    at-all w order budget kept before old at now c.loop-schedule.replies c.loop-schedule.self c.tell.new.self c.loop-schedule.exchange _
    c.tell.new.said.items c.exchange.view_is c.tell.ensures.core c.in_ok-tell.ensures.told c.in_ok-tell.ensures.text c.loop-schedule.invariant.at in
    let same : (machine c.tell.new.self.core).event ≡ (machine c.loop-schedule.self.core).event =
    ap (λ (v : CoreView DrivenSpace DrivenContext). (machine v).event) c.tell.ensures.core in
    let turn : c.next.result ≡ proc_after w order (machine c.tell.new.self.core).event =
    turn-is w order (machine c.loop-schedule.self.core).event c.loop-schedule.schedule c.next.result c.turns_are_in_order.ensures
    c.requires.workload.some_processor c.loop-schedule.invariant.schedule c.next.ensures.processor
    ∙ ap (proc_after w order) (sym same) in
    err_along (CameSoFar w order budget kept before (g.S.Source.left c.event.new.source) old (g.K.Sink.taken c.event.new.sink))
    c.in_err-event.field-0.0 c.from_residual-in_err-event.result
    (lost-event w order budget kept before old (machine c.tell.new.self.core) said at now c.tell.new.self.told c.loop-schedule.replies here
    c.in_ok-tell.ensures.told.all c.next.result turn c.in_err-event.field-0.0 (g.S.Source.left c.event.new.source) (g.K.Sink.taken c.event.new.sink)
    c.in_err-event.ensures.err)
    c.from_residual-in_err-event.ensures.1

pub loop-schedule-preserved-in-Alone : goal.loop-schedule-preserved-in-Alone
loop-schedule-preserved-in-Alone g c =
    let w = (machine c.args.self.now.core).workload in
    let order = order_of c.args.kind in
    let budget = c.args.self.now.core.budget in
    let kept = c.args.exchange.now.kept in
    let before = g.S.Source.left c.args.source.now in
    let old = g.K.Sink.taken c.args.sink.now in
    let at = g.S.Source.left c.loop-schedule.source in
    let now = g.K.Sink.taken c.loop-schedule.sink in
    let said : ExchangeView = record { said = c.tell.new.said.items; kept = c.exchange.inside.lines } in
    let here =
    at-all w order budget kept before old at now c.loop-schedule.replies c.loop-schedule.self c.tell.new.self c.loop-schedule.exchange _
    c.tell.new.said.items c.exchange.view_is c.tell.ensures.core c.in_ok-tell.ensures.told c.in_ok-tell.ensures.text c.loop-schedule.invariant.at in
    let limit : c.tell.new.self.core.budget ≡ budget =
    ap (λ (v : CoreView DrivenSpace DrivenContext). v.budget) c.tell.ensures.core ∙ c.loop-schedule.invariant.budget in
    let none : end_of driven_calls budget (machine c.tell.new.self.core) ≡ None =
    subst (λ (n : ℕ). end_of driven_calls n (machine c.tell.new.self.core) ≡ None) limit (search rules) in
    let same : (machine c.tell.new.self.core).event ≡ (machine c.loop-schedule.self.core).event =
    ap (λ (v : CoreView DrivenSpace DrivenContext). (machine v).event) c.tell.ensures.core in
    let turn : c.next.result ≡ proc_after w order (machine c.tell.new.self.core).event =
    turn-is w order (machine c.loop-schedule.self.core).event c.loop-schedule.schedule c.next.result c.turns_are_in_order.ensures
    c.requires.workload.some_processor c.loop-schedule.invariant.schedule c.next.ensures.processor
    ∙ ap (proc_after w order) (sym same) in
    let go : Makes (machine c.tell.new.self.core) c.next.result said at (g.S.Source.left c.event.new.source) now (g.K.Sink.taken c.event.new.sink)
    (None) c.event.new.exchange (machine c.event.new.self.core) =
    subst (λ (e : Went). Goes (machine c.tell.new.self.core) c.next.result said at (g.S.Source.left c.event.new.source) now (g.K.Sink.taken c.event.new.sink)
    e c.event.new.exchange (machine c.event.new.self.core)) c.in-Alone.is c.in_ok-event.ensures.ok in
    let low = goes-on driven_calls budget (machine c.tell.new.self.core) none (omega (arith, c.loop-schedule.invariant.within, same)) in
    let number = go.number in
    let event : (machine c.event.new.self.core).event ≡ (machine c.loop-schedule.self.core).event + 1 = omega (arith, number, same) in
    record {
      at = subst
          (λ (n : ℕ). IsAt w order budget kept before (g.S.Source.left c.event.new.source) old (g.K.Sink.taken c.event.new.sink) (machine c.event.new.self.core) n
          c.event.new.exchange c.loop-schedule.replies) (sym c.event.ensures.count)
          (at-event w order budget kept before old (machine c.tell.new.self.core) said at now c.tell.new.self.told c.loop-schedule.replies here
          c.in_ok-tell.ensures.told.all c.next.result turn none (None) c.event.new.exchange (g.S.Source.left c.event.new.source)
          (g.K.Sink.taken c.event.new.sink) (machine c.event.new.self.core) c.loop-schedule.replies go (omega arith));
      follows = follows-event w order budget kept before old at now (g.S.Source.left c.event.new.source) (g.K.Sink.taken c.event.new.sink)
          c.loop-schedule.replies c.tell.new.self c.event.new.self said c.event.new.exchange c.next.result (None) c.requires.workload here none go
          c.in_ok-tell.ensures.told c.event.ensures.teller c.event.ensures.count;
      schedule = subst (λ (n : ℕ). c.next.new.self ≡ turned_often (start order w.processors) n) (sym event)
          (schedule-on order w.processors (machine c.loop-schedule.self.core).event c.loop-schedule.schedule c.next.new.self
          c.loop-schedule.invariant.schedule c.next.ensures.turned);
      processors = ap (λ (t : Turns). t.processors) c.next.ensures.turned ∙ c.loop-schedule.invariant.processors;
      budget = c.event.ensures.budget ∙ limit;
      within = omega (arith, low, number);
      few = omega (arith, c.loop-schedule.invariant.few, event);
      reads = omega (arith, c.loop-schedule.invariant.reads, c.event.ensures.reads);
      writes = omega (arith, c.loop-schedule.invariant.writes, c.event.ensures.writes);
    }

pub loop-schedule-smaller : goal.loop-schedule-smaller
loop-schedule-smaller g c =
    let w = (machine c.args.self.now.core).workload in
    let order = order_of c.args.kind in
    let budget = c.args.self.now.core.budget in
    let kept = c.args.exchange.now.kept in
    let before = g.S.Source.left c.args.source.now in
    let old = g.K.Sink.taken c.args.sink.now in
    let at = g.S.Source.left c.loop-schedule.source in
    let now = g.K.Sink.taken c.loop-schedule.sink in
    let said : ExchangeView = record { said = c.tell.new.said.items; kept = c.exchange.inside.lines } in
    let here =
    at-all w order budget kept before old at now c.loop-schedule.replies c.loop-schedule.self c.tell.new.self c.loop-schedule.exchange _
    c.tell.new.said.items c.exchange.view_is c.tell.ensures.core c.in_ok-tell.ensures.told c.in_ok-tell.ensures.text c.loop-schedule.invariant.at in
    let limit : c.tell.new.self.core.budget ≡ budget =
    ap (λ (v : CoreView DrivenSpace DrivenContext). v.budget) c.tell.ensures.core ∙ c.loop-schedule.invariant.budget in
    let none : end_of driven_calls budget (machine c.tell.new.self.core) ≡ None =
    subst (λ (n : ℕ). end_of driven_calls n (machine c.tell.new.self.core) ≡ None) limit (search rules) in
    let same : (machine c.tell.new.self.core).event ≡ (machine c.loop-schedule.self.core).event =
    ap (λ (v : CoreView DrivenSpace DrivenContext). (machine v).event) c.tell.ensures.core in
    let goes =
    subst (λ (e : Went). Goes (machine c.tell.new.self.core) c.next.result said at (g.S.Source.left c.event.new.source) now (g.K.Sink.taken c.event.new.sink)
    e c.event.new.exchange (machine c.event.new.self.core)) c.in-Answered.is c.in_ok-event.ensures.ok in
    let number = goes.1.number in
    let low = goes-on driven_calls budget (machine c.tell.new.self.core) none (omega (arith, c.loop-schedule.invariant.within, same)) in
    omega (arith, number, low, same)

pub loop-schedule-preserved : goal.loop-schedule-preserved
loop-schedule-preserved g c =
    let w = (machine c.args.self.now.core).workload in
    let order = order_of c.args.kind in
    let budget = c.args.self.now.core.budget in
    let kept = c.args.exchange.now.kept in
    let before = g.S.Source.left c.args.source.now in
    let old = g.K.Sink.taken c.args.sink.now in
    let at = g.S.Source.left c.loop-schedule.source in
    let now = g.K.Sink.taken c.loop-schedule.sink in
    let said : ExchangeView = record { said = c.tell.new.said.items; kept = c.exchange.inside.lines } in
    let here =
    at-all w order budget kept before old at now c.loop-schedule.replies c.loop-schedule.self c.tell.new.self c.loop-schedule.exchange _
    c.tell.new.said.items c.exchange.view_is c.tell.ensures.core c.in_ok-tell.ensures.told c.in_ok-tell.ensures.text c.loop-schedule.invariant.at in
    let limit : c.tell.new.self.core.budget ≡ budget =
    ap (λ (v : CoreView DrivenSpace DrivenContext). v.budget) c.tell.ensures.core ∙ c.loop-schedule.invariant.budget in
    let none : end_of driven_calls budget (machine c.tell.new.self.core) ≡ None =
    subst (λ (n : ℕ). end_of driven_calls n (machine c.tell.new.self.core) ≡ None) limit (search rules) in
    let same : (machine c.tell.new.self.core).event ≡ (machine c.loop-schedule.self.core).event =
    ap (λ (v : CoreView DrivenSpace DrivenContext). (machine v).event) c.tell.ensures.core in
    let turn : c.next.result ≡ proc_after w order (machine c.tell.new.self.core).event =
    turn-is w order (machine c.loop-schedule.self.core).event c.loop-schedule.schedule c.next.result c.turns_are_in_order.ensures
    c.requires.workload.some_processor c.loop-schedule.invariant.schedule c.next.ensures.processor
    ∙ ap (proc_after w order) (sym same) in
    let goes =
    subst (λ (e : Went). Goes (machine c.tell.new.self.core) c.next.result said at (g.S.Source.left c.event.new.source) now (g.K.Sink.taken c.event.new.sink)
    e c.event.new.exchange (machine c.event.new.self.core)) c.in-Answered.is c.in_ok-event.ensures.ok in
    let go : Makes (machine c.tell.new.self.core) c.next.result said at (g.S.Source.left c.event.new.source) now (g.K.Sink.taken c.event.new.sink)
    (Some goes.0) c.event.new.exchange (machine c.event.new.self.core) = goes.1 in
    let low = goes-on driven_calls budget (machine c.tell.new.self.core) none (omega (arith, c.loop-schedule.invariant.within, same)) in
    let number = go.number in
    let event : (machine c.event.new.self.core).event ≡ (machine c.loop-schedule.self.core).event + 1 = omega (arith, number, same) in
    record {
      at = subst
          (λ (n : ℕ). IsAt w order budget kept before (g.S.Source.left c.event.new.source) old (g.K.Sink.taken c.event.new.sink) (machine c.event.new.self.core) n
          c.event.new.exchange (c.loop-schedule.replies + 1)) (sym c.event.ensures.count)
          (at-event w order budget kept before old (machine c.tell.new.self.core) said at now c.tell.new.self.told c.loop-schedule.replies here
          c.in_ok-tell.ensures.told.all c.next.result turn none (Some goes.0) c.event.new.exchange (g.S.Source.left c.event.new.source)
          (g.K.Sink.taken c.event.new.sink) (machine c.event.new.self.core) (c.loop-schedule.replies + 1) go (omega arith));
      follows = follows-event w order budget kept before old at now (g.S.Source.left c.event.new.source) (g.K.Sink.taken c.event.new.sink)
          c.loop-schedule.replies c.tell.new.self c.event.new.self said c.event.new.exchange c.next.result (Some goes.0) c.requires.workload here none go
          c.in_ok-tell.ensures.told c.event.ensures.teller c.event.ensures.count;
      schedule = subst (λ (n : ℕ). c.next.new.self ≡ turned_often (start order w.processors) n) (sym event)
          (schedule-on order w.processors (machine c.loop-schedule.self.core).event c.loop-schedule.schedule c.next.new.self
          c.loop-schedule.invariant.schedule c.next.ensures.turned);
      processors = ap (λ (t : Turns). t.processors) c.next.ensures.turned ∙ c.loop-schedule.invariant.processors;
      budget = c.event.ensures.budget ∙ limit;
      within = omega (arith, low, number);
      few = omega (arith, c.loop-schedule.invariant.few, event);
      reads = omega (arith, c.loop-schedule.invariant.reads, c.event.ensures.reads);
      writes = omega (arith, c.loop-schedule.invariant.writes, c.event.ensures.writes);
    }

pub returns-in_err-write-in-Refused-clause-err : goal.returns-in_err-write-in-Refused-clause-err
returns-in_err-write-in-Refused-clause-err g c =
    let w = (machine c.args.self.now.core).workload in
    let order = order_of c.args.kind in
    let budget = c.args.self.now.core.budget in
    let kept = c.args.exchange.now.kept in
    let before = g.S.Source.left c.args.source.now in
    let old = g.K.Sink.taken c.args.sink.now in
    let at = g.S.Source.left c.loop-schedule.source in
    let now = g.K.Sink.taken c.loop-schedule.sink in
    let said : ExchangeView = record { said = c.tell.new.said.items; kept = c.exchange.inside.lines } in
    let here =
    at-all w order budget kept before old at now c.loop-schedule.replies c.loop-schedule.self c.tell.new.self c.loop-schedule.exchange _
    c.tell.new.said.items c.exchange.view_is c.tell.ensures.core c.in_ok-tell.ensures.told c.in_ok-tell.ensures.text c.loop-schedule.invariant.at in
    let same : (machine c.tell.new.self.core).event ≡ (machine c.loop-schedule.self.core).event =
    ap (λ (v : CoreView DrivenSpace DrivenContext). (machine v).event) c.tell.ensures.core in
    let turn : c.next.result ≡ proc_after w order (machine c.tell.new.self.core).event =
    turn-is w order (machine c.loop-schedule.self.core).event c.loop-schedule.schedule c.next.result c.turns_are_in_order.ensures
    c.requires.workload.some_processor c.loop-schedule.invariant.schedule c.next.ensures.processor
    ∙ ap (proc_after w order) (sym same) in
    let refusal : Refuses (machine c.tell.new.self.core) c.next.result said at (g.S.Source.left c.event.new.source) now (g.K.Sink.taken c.event.new.sink)
    c.in-Refused.wrong c.event.new.exchange (machine c.event.new.self.core) =
    subst (λ (e : Went). Goes (machine c.tell.new.self.core) c.next.result said at (g.S.Source.left c.event.new.source) now (g.K.Sink.taken c.event.new.sink)
    e c.event.new.exchange (machine c.event.new.self.core)) c.in-Refused.is c.in_ok-event.ensures.ok in
    let cause = CameSoFar w order budget kept before (g.S.Source.left c.event.new.source) old (g.K.Sink.taken c.write-in-Refused.new.sink) in
    err_along cause c.in_err-write-in-Refused.field-0.0 c.from_residual-in_err-write-in-Refused.result
    (subst cause (sym c.in_err-write-in-Refused.ensures.why.0)
    (lost-refusing w order budget kept before old (machine c.tell.new.self.core) said at now c.tell.new.self.told c.loop-schedule.replies here
    c.in_ok-tell.ensures.told.all c.next.result turn c.in-Refused.wrong c.event.new.exchange (g.S.Source.left c.event.new.source)
    (g.K.Sink.taken c.event.new.sink) (g.K.Sink.taken c.write-in-Refused.new.sink) (machine c.event.new.self.core) refusal c.in_err-write-in-Refused.ensures.err))
    c.from_residual-in_err-write-in-Refused.ensures.1

pub returns-in-Refused-clause-ok : goal.returns-in-Refused-clause-ok
returns-in-Refused-clause-ok g c =
    let w = (machine c.args.self.now.core).workload in
    let order = order_of c.args.kind in
    let budget = c.args.self.now.core.budget in
    let kept = c.args.exchange.now.kept in
    let before = g.S.Source.left c.args.source.now in
    let old = g.K.Sink.taken c.args.sink.now in
    let at = g.S.Source.left c.loop-schedule.source in
    let now = g.K.Sink.taken c.loop-schedule.sink in
    let said : ExchangeView = record { said = c.tell.new.said.items; kept = c.exchange.inside.lines } in
    let here =
    at-all w order budget kept before old at now c.loop-schedule.replies c.loop-schedule.self c.tell.new.self c.loop-schedule.exchange _
    c.tell.new.said.items c.exchange.view_is c.tell.ensures.core c.in_ok-tell.ensures.told c.in_ok-tell.ensures.text c.loop-schedule.invariant.at in
    let same : (machine c.tell.new.self.core).event ≡ (machine c.loop-schedule.self.core).event =
    ap (λ (v : CoreView DrivenSpace DrivenContext). (machine v).event) c.tell.ensures.core in
    let turn : c.next.result ≡ proc_after w order (machine c.tell.new.self.core).event =
    turn-is w order (machine c.loop-schedule.self.core).event c.loop-schedule.schedule c.next.result c.turns_are_in_order.ensures
    c.requires.workload.some_processor c.loop-schedule.invariant.schedule c.next.ensures.processor
    ∙ ap (proc_after w order) (sym same) in
    let refusal : Refuses (machine c.tell.new.self.core) c.next.result said at (g.S.Source.left c.event.new.source) now (g.K.Sink.taken c.event.new.sink)
    c.in-Refused.wrong c.event.new.exchange (machine c.event.new.self.core) =
    subst (λ (e : Went). Goes (machine c.tell.new.self.core) c.next.result said at (g.S.Source.left c.event.new.source) now (g.K.Sink.taken c.event.new.sink)
    e c.event.new.exchange (machine c.event.new.self.core)) c.in-Refused.is c.in_ok-event.ensures.ok in
    let limit : c.tell.new.self.core.budget ≡ budget =
    ap (λ (v : CoreView DrivenSpace DrivenContext). v.budget) c.tell.ensures.core ∙ c.loop-schedule.invariant.budget in
    let none : end_of driven_calls budget (machine c.tell.new.self.core) ≡ None =
    subst (λ (n : ℕ). end_of driven_calls n (machine c.tell.new.self.core) ≡ None) limit (search rules) in
    at-refusal w order budget kept before old (machine c.tell.new.self.core) said at now c.tell.new.self.told c.loop-schedule.replies here
    c.in_ok-tell.ensures.told.all c.next.result turn none c.in-Refused.wrong (c.loop-schedule.replies + 1) c.event.new.exchange
    (g.S.Source.left c.event.new.source) (g.K.Sink.taken c.event.new.sink) (g.K.Sink.taken c.write-in-Refused.new.sink) (machine c.event.new.self.core) refusal refl
    c.in_ok-write-in-Refused.ensures.ok
