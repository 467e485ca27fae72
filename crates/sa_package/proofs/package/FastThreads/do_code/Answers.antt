use Rattle.std.proofs.Common.{rules, sym, subst}
use Rattle.sa_abstract.specs.declared.answer.Step.TheVariants as steps
use Rattle.sa_lists.specs.ReadyView.{IsReady}
use Rattle.sa_code.specs.declared.state.Frame.{Frame}
use Rattle.sa_code.specs.Micro.{micro}
use Rattle.sa_fast.specs.Work.{IsUnlisted, IsWork}
use Rattle.sa_package_model.specs.declared.package.Package.{Package}
use Rattle.sa_package_model.specs.Conditions.{CanBeDue, IsThread}
use Rattle.sa_package_model.specs.Rules.{Steps, coded}
use Rattle.sa_package.proofs.Coded.{coded-spun, coded-faulted, coded-left, coded-yielded}
use Rattle.sa_package.proofs.Carried.{carried-below, due_below}
use Rattle.sa_package.proofs.package.FastThreads.do_code.Goals as goal

pub move_thread-requires-clause-carried : goal.move_thread-requires-clause-carried
move_thread-requires-clause-carried c =
    let x = c.args.self.now.shared in
    let ready = subst (λ (u : Package). IsReady u.shared.state.lists) c.self.view_is c.are_apart.ensures in
    let thread = carried-below x.state c.args.frame c.args.seen.now.pages ready c.requires.threads c.requires.can.does
    (due_below c.args.frame.thread (λ n. IsUnlisted x.works n.0) c.requires.can.carries) in
    subst (λ (f : Frame). IsThread f.thread) (sym c.micro.ensures.frame)
    (subst (λ (u : Package). IsThread (micro u.shared.state c.args.frame c.args.seen.now.pages).frame.thread) (sym c.self.view_is) thread)

pub returns-in-Did : goal.returns-in-Did
returns-in-Did c =
    subst (λ (u : Package). Steps (coded u c.args.seen.now c.args.ctx.now c.args.frame) c.args.seen.now c.args.trace.now
    (record c.self.inside.package { shared = c.move_thread.new.shared }) c.go_on.new.ctx steps.Did c.micro.new.trace)
    c.self.view_is (search rules)

pub returns-in-Spun : goal.returns-in-Spun
returns-in-Spun c =
    coded-spun c.self.inside.package c.args.self.now c.self.view_is c.args.seen.now c.args.ctx.now c.args.frame c.micro.new.state c.micro.result c.args.trace.now c.micro.new.trace
    c.micro.ensures.state c.micro.ensures.done c.micro.ensures.items c.micro.ensures.spare c.in-Spun.is

pub returns-in-Faulted : goal.returns-in-Faulted
returns-in-Faulted c =
    coded-faulted c.self.inside.package c.args.self.now c.self.view_is c.args.seen.now c.args.ctx.now c.args.frame c.micro.new.state c.micro.result c.args.trace.now c.micro.new.trace
    c.micro.ensures.state c.micro.ensures.done c.micro.ensures.items c.micro.ensures.spare
    c.place.new.shared c.place.ensures c.in-Faulted.is

pub returns-in-Left : goal.returns-in-Left
returns-in-Left c =
    coded-left c.self.inside.package c.args.self.now c.self.view_is c.args.seen.now c.args.ctx.now c.args.frame c.micro.new.state c.micro.result c.args.trace.now c.micro.new.trace
    c.micro.ensures.state c.micro.ensures.done c.micro.ensures.items c.micro.ensures.spare
    c.settle.new.ctx c.settle.ensures c.in-Left.is

pub returns-in-Yielded : goal.returns-in-Yielded
returns-in-Yielded c =
    coded-yielded c.self.inside.package c.args.self.now c.self.view_is c.args.seen.now c.args.ctx.now c.args.frame c.micro.new.state c.micro.result c.args.trace.now c.micro.new.trace
    c.micro.ensures.state c.micro.ensures.done c.micro.ensures.items c.micro.ensures.spare
    c.put_last.new.self c.put_last.new.ctx c.settle-in-Yielded.new.ctx c.put_last.ensures c.settle-in-Yielded.ensures c.in-Yielded.is

pub put_last-requires-clause-work : goal.put_last-requires-clause-work
put_last-requires-clause-work c =
    subst (λ (u : Package). IsWork u.shared.works c.args.ctx.now.work) (sym c.self.view_is) c.requires.work

pub put_last-requires-clause-thread : goal.put_last-requires-clause-thread
put_last-requires-clause-thread c =
    subst (λ (u : Package). CanBeDue u.shared c.args.frame.thread) (sym c.self.view_is) c.requires.can.carries

pub place-requires : goal.place-requires
place-requires c = due_below c.args.frame.thread (λ n. IsUnlisted c.args.self.now.shared.works n.0) c.requires.can.carries

pub move_thread-requires-clause-pushed : goal.move_thread-requires-clause-pushed
move_thread-requires-clause-pushed c = c.requires.can.pushes
