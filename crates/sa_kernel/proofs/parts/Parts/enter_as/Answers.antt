use Rattle.std.proofs.Common.{refl}
use Rattle.sa_kernel.specs.View.{scene_of}
use Rattle.sa_kernel.proofs.FreshActivations.{vacant, vacant-unused, enters-quietly}
use Rattle.sa_kernel.proofs.parts.Parts.enter_as.Goals as goal

pub returns-in-Complete-clause-exact : goal.returns-in-Complete-clause-exact
returns-in-Complete-clause-exact g c =
    enters-quietly c.args.event c.args.p c.args.entry _ (vacant c.args.self.now.acts) (scene_of c.args.self.now c.args.trace.now)
    (scene_of c.complete.new.self c.complete.new.trace) c.in-Complete.is refl (vacant-unused c.args.self.now.acts) c.complete.ensures.exact

pub returns-in-More-clause-exact : goal.returns-in-More-clause-exact
returns-in-More-clause-exact g c =
    enters-quietly c.args.event c.args.p c.args.entry _ (vacant c.args.self.now.acts) (scene_of c.args.self.now c.args.trace.now)
    (scene_of c.more.new.self c.more.new.trace) c.in-More.is refl (vacant-unused c.args.self.now.acts) c.more.ensures.exact

pub returns-in-Idle-clause-exact : goal.returns-in-Idle-clause-exact
returns-in-Idle-clause-exact g c =
    enters-quietly c.args.event c.args.p c.args.entry _ (vacant c.args.self.now.acts) (scene_of c.args.self.now c.args.trace.now)
    (scene_of c.idle.new.self c.idle.new.trace) c.in-Idle.is refl (vacant-unused c.args.self.now.acts) c.idle.ensures.exact

pub returns-in-GiveBack-clause-exact : goal.returns-in-GiveBack-clause-exact
returns-in-GiveBack-clause-exact g c =
    enters-quietly c.args.event c.args.p c.args.entry _ (vacant c.args.self.now.acts) (scene_of c.args.self.now c.args.trace.now)
    (scene_of c.give_back.new.self c.give_back.new.trace) c.in-GiveBack.is refl (vacant-unused c.args.self.now.acts) c.give_back.ensures.exact

pub returns-in-InterruptOwn-clause-exact : goal.returns-in-InterruptOwn-clause-exact
returns-in-InterruptOwn-clause-exact g c =
    enters-quietly c.args.event c.args.p c.args.entry _ (vacant c.args.self.now.acts) (scene_of c.args.self.now c.args.trace.now)
    (scene_of c.raise.new.self c.raise.new.trace) c.in-InterruptOwn.is refl (vacant-unused c.args.self.now.acts) c.raise.ensures.exact
