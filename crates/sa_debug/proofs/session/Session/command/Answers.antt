use Rattle.std.proofs.Common.{IfOk, OnErr, sym, subst}
use Rattle.sa_debug.specs.Session.{Does, DoesSoFar}
use Rattle.sa_debug.specs.OverMachines.{over_machines, session}
use Rattle.sa_debug.proofs.session.Session.command.Goals as goal

pub returns-in-Break-clause-ok : goal.returns-in-Break-clause-ok
returns-in-Break-clause-ok g c =
    subst (λ d. IfOk c.add_point.result (λ reply. Does (over_machines g.U.UserLevel.calls c.args.self.now.core.budget) d (session c.args.self.now) (session c.add_point.new.self) reply))
    (sym c.in-Break.is) c.add_point.ensures.ok

pub returns-in-Break-clause-err : goal.returns-in-Break-clause-err
returns-in-Break-clause-err g c =
    subst (λ d. OnErr c.add_point.result (DoesSoFar (over_machines g.U.UserLevel.calls c.args.self.now.core.budget) d (session c.args.self.now) (session c.add_point.new.self)))
    (sym c.in-Break.is) c.add_point.ensures.err

pub returns-in-Step-clause-ok : goal.returns-in-Step-clause-ok
returns-in-Step-clause-ok g c =
    subst (λ d. IfOk c.step.result (λ reply. Does (over_machines g.U.UserLevel.calls c.args.self.now.core.budget) d (session c.args.self.now) (session c.step.new.self) reply))
    (sym c.in-Step.is) c.step.ensures.ok

pub returns-in-Step-clause-err : goal.returns-in-Step-clause-err
returns-in-Step-clause-err g c =
    subst (λ d. OnErr c.step.result (DoesSoFar (over_machines g.U.UserLevel.calls c.args.self.now.core.budget) d (session c.args.self.now) (session c.step.new.self)))
    (sym c.in-Step.is) c.step.ensures.err

pub returns-in-Run-clause-ok : goal.returns-in-Run-clause-ok
returns-in-Run-clause-ok g c =
    subst (λ d. IfOk c.run.result (λ reply. Does (over_machines g.U.UserLevel.calls c.args.self.now.core.budget) d (session c.args.self.now) (session c.run.new.self) reply))
    (sym c.in-Run.is) c.run.ensures.ok

pub returns-in-Run-clause-err : goal.returns-in-Run-clause-err
returns-in-Run-clause-err g c =
    subst (λ d. OnErr c.run.result (DoesSoFar (over_machines g.U.UserLevel.calls c.args.self.now.core.budget) d (session c.args.self.now) (session c.run.new.self)))
    (sym c.in-Run.is) c.run.ensures.err

pub returns-in-Show-clause-ok : goal.returns-in-Show-clause-ok
returns-in-Show-clause-ok g c =
    subst (λ d. IfOk c.show.result (λ reply. Does (over_machines g.U.UserLevel.calls c.args.self.now.core.budget) d (session c.args.self.now) (session c.show.new.self) reply))
    (sym c.in-Show.is) c.show.ensures.ok

pub returns-in-Show-clause-err : goal.returns-in-Show-clause-err
returns-in-Show-clause-err g c =
    subst (λ d. OnErr c.show.result (DoesSoFar (over_machines g.U.UserLevel.calls c.args.self.now.core.budget) d (session c.args.self.now) (session c.show.new.self)))
    (sym c.in-Show.is) c.show.ensures.err
