use Rattle.std.proofs.Common.{sym, subst}
use Rattle.sa_abstract.specs.declared.answer.Step.{Step}
use Rattle.sa_core_model.specs.Turn.{asked}
use Rattle.sa_machine.specs.View.{machine_of}
use Rattle.sa_machine.specs.Needs.{Asks, ByFresh}
use Rattle.sa_machine.proofs.EnterLemmas.{more-fits, more-stands, idle-fits, idle-stands, back-fits, back-stands, own-fits, own-stands}
use Rattle.sa_machine.proofs.StopLemmas.{asks-place}
use Rattle.sa_machine.proofs.machine.MachineParts.ask.Goals as goal

pub hint-requires-clause-stands : goal.hint-requires-clause-stands
hint-requires-clause-stands g c = λ κs k fresh unused.
    let keep = (g.met.U.UserLevel g.world.𝓛 g.world.𝓜 g.world.𝓡 ((λ s x. x), (λ x. x), (λ x. x), λ x. x)).keeps in
    let f = g.U.UserLevel.calls in
    let stands = g.U.UserLevel.stands in
    let m = machine_of c.args.self.now in
    let p = c.args.p in
    let asks = subst (λ z. Asks stands p z m) c.in-More.is c.requires.asks in
    more-stands f stands keep m p fresh c.in-More.n asks unused

pub hint-requires-in-Idle-clause-stands : goal.hint-requires-in-Idle-clause-stands
hint-requires-in-Idle-clause-stands g c = λ κs k fresh unused.
    let keep = (g.met.U.UserLevel g.world.𝓛 g.world.𝓜 g.world.𝓡 ((λ s x. x), (λ x. x), (λ x. x), λ x. x)).keeps in
    let f = g.U.UserLevel.calls in
    let stands = g.U.UserLevel.stands in
    let m = machine_of c.args.self.now in
    let p = c.args.p in
    let asks = subst (λ z. Asks stands p z m) c.in-Idle.is c.requires.asks in
    idle-stands f stands keep m p fresh asks unused

pub hint-requires-in-GiveBack-clause-stands : goal.hint-requires-in-GiveBack-clause-stands
hint-requires-in-GiveBack-clause-stands g c = λ κs k fresh unused.
    let keep = (g.met.U.UserLevel g.world.𝓛 g.world.𝓜 g.world.𝓡 ((λ s x. x), (λ x. x), (λ x. x), λ x. x)).keeps in
    let f = g.U.UserLevel.calls in
    let stands = g.U.UserLevel.stands in
    let m = machine_of c.args.self.now in
    let p = c.args.p in
    let asks = subst (λ z. Asks stands p z m) c.in-GiveBack.is c.requires.asks in
    back-stands f stands keep m p fresh asks unused

pub hint-requires-in-InterruptOwn-clause-stands : goal.hint-requires-in-InterruptOwn-clause-stands
hint-requires-in-InterruptOwn-clause-stands g c = λ κs k fresh unused.
    let keep = (g.met.U.UserLevel g.world.𝓛 g.world.𝓜 g.world.𝓡 ((λ s x. x), (λ x. x), (λ x. x), λ x. x)).keeps in
    let f = g.U.UserLevel.calls in
    let stands = g.U.UserLevel.stands in
    let m = machine_of c.args.self.now in
    let p = c.args.p in
    let asks = subst (λ z. Asks stands p z m) c.in-InterruptOwn.is c.requires.asks in
    own-stands f stands keep m p c.in-InterruptOwn.q fresh asks unused

pub hint-requires-in-InterruptOwn-clause-fit : goal.hint-requires-in-InterruptOwn-clause-fit
hint-requires-in-InterruptOwn-clause-fit g c = λ κs k.
    let keep = (g.met.U.UserLevel g.world.𝓛 g.world.𝓜 g.world.𝓡 ((λ s x. x), (λ x. x), (λ x. x), λ x. x)).keeps in
    let f = g.U.UserLevel.calls in
    let stands = g.U.UserLevel.stands in
    let m = machine_of c.args.self.now in
    let p = c.args.p in
    own-fits f stands keep m p c.in-InterruptOwn.q (subst (λ z. Asks stands p z m) c.in-InterruptOwn.is c.requires.asks)

pub hint-requires-clause-fit : goal.hint-requires-clause-fit
hint-requires-clause-fit g c = λ κs k.
    let keep = (g.met.U.UserLevel g.world.𝓛 g.world.𝓜 g.world.𝓡 ((λ s x. x), (λ x. x), (λ x. x), λ x. x)).keeps in
    let stands = g.U.UserLevel.stands in
    let m = machine_of c.args.self.now in
    let p = c.args.p in
    more-fits g.U.UserLevel.calls stands keep m p c.in-More.n (subst (λ z. Asks stands p z m) c.in-More.is c.requires.asks)

pub hint-requires-in-Idle-clause-fit : goal.hint-requires-in-Idle-clause-fit
hint-requires-in-Idle-clause-fit g c = λ κs k.
    let keep = (g.met.U.UserLevel g.world.𝓛 g.world.𝓜 g.world.𝓡 ((λ s x. x), (λ x. x), (λ x. x), λ x. x)).keeps in
    let stands = g.U.UserLevel.stands in
    let m = machine_of c.args.self.now in
    let p = c.args.p in
    idle-fits g.U.UserLevel.calls stands keep m p (subst (λ z. Asks stands p z m) c.in-Idle.is c.requires.asks)

pub hint-requires-in-GiveBack-clause-fit : goal.hint-requires-in-GiveBack-clause-fit
hint-requires-in-GiveBack-clause-fit g c = λ κs k.
    let keep = (g.met.U.UserLevel g.world.𝓛 g.world.𝓜 g.world.𝓡 ((λ s x. x), (λ x. x), (λ x. x), λ x. x)).keeps in
    let stands = g.U.UserLevel.stands in
    let m = machine_of c.args.self.now in
    let p = c.args.p in
    back-fits g.U.UserLevel.calls stands keep m p (subst (λ z. Asks stands p z m) c.in-GiveBack.is c.requires.asks)

pub hint-requires-clause-within : goal.hint-requires-clause-within
hint-requires-clause-within g c = λ κs k.
    let keep = (g.met.U.UserLevel g.world.𝓛 g.world.𝓜 g.world.𝓡 ((λ s x. x), (λ x. x), (λ x. x), λ x. x)).keeps in
    asks-place g.U.UserLevel.calls g.U.UserLevel.stands keep (machine_of c.args.self.now) c.args.p c.args.step c.requires.asks

pub hint-requires-in-Idle-clause-within : goal.hint-requires-in-Idle-clause-within
hint-requires-in-Idle-clause-within g c = λ κs k.
    let keep = (g.met.U.UserLevel g.world.𝓛 g.world.𝓜 g.world.𝓡 ((λ s x. x), (λ x. x), (λ x. x), λ x. x)).keeps in
    asks-place g.U.UserLevel.calls g.U.UserLevel.stands keep (machine_of c.args.self.now) c.args.p c.args.step c.requires.asks

pub hint-requires-in-GiveBack-clause-within : goal.hint-requires-in-GiveBack-clause-within
hint-requires-in-GiveBack-clause-within g c = λ κs k.
    let keep = (g.met.U.UserLevel g.world.𝓛 g.world.𝓜 g.world.𝓡 ((λ s x. x), (λ x. x), (λ x. x), λ x. x)).keeps in
    asks-place g.U.UserLevel.calls g.U.UserLevel.stands keep (machine_of c.args.self.now) c.args.p c.args.step c.requires.asks

pub hint-requires-in-InterruptOwn-clause-within : goal.hint-requires-in-InterruptOwn-clause-within
hint-requires-in-InterruptOwn-clause-within g c = λ κs k.
    let keep = (g.met.U.UserLevel g.world.𝓛 g.world.𝓜 g.world.𝓡 ((λ s x. x), (λ x. x), (λ x. x), λ x. x)).keeps in
    asks-place g.U.UserLevel.calls g.U.UserLevel.stands keep (machine_of c.args.self.now) c.args.p c.args.step c.requires.asks

pub block-requires-clause-asks : goal.block-requires-clause-asks
block-requires-clause-asks g c = λ κs k.
    subst (λ z. Asks g.U.UserLevel.stands c.args.p z (machine_of c.args.self.now)) c.in-Block.is c.requires.asks

pub returns-in-Block-clause-machine : goal.returns-in-Block-clause-machine
returns-in-Block-clause-machine g c =
    let m = machine_of c.args.self.now in
    subst (λ (z : Step). ByFresh m (machine_of c.block.new.self) (λ fresh. asked g.U.UserLevel.calls c.args.p fresh z m)) (sym c.in-Block.is)
    c.block.ensures.machine

pub returns-in-More-clause-machine : goal.returns-in-More-clause-machine
returns-in-More-clause-machine g c =
    let m = machine_of c.args.self.now in
    subst (λ (z : Step). ByFresh m (machine_of c.hint.new.self) (λ fresh. asked g.U.UserLevel.calls c.args.p fresh z m)) (sym c.in-More.is)
    c.hint.ensures.machine

pub returns-in-Idle-clause-machine : goal.returns-in-Idle-clause-machine
returns-in-Idle-clause-machine g c =
    let m = machine_of c.args.self.now in
    subst (λ (z : Step). ByFresh m (machine_of c.hint-in-Idle.new.self) (λ fresh. asked g.U.UserLevel.calls c.args.p fresh z m)) (sym c.in-Idle.is)
    c.hint-in-Idle.ensures.machine

pub returns-in-GiveBack-clause-machine : goal.returns-in-GiveBack-clause-machine
returns-in-GiveBack-clause-machine g c =
    let m = machine_of c.args.self.now in
    subst (λ (z : Step). ByFresh m (machine_of c.hint-in-GiveBack.new.self) (λ fresh. asked g.U.UserLevel.calls c.args.p fresh z m)) (sym c.in-GiveBack.is)
    c.hint-in-GiveBack.ensures.machine

pub returns-in-InterruptOwn-clause-machine : goal.returns-in-InterruptOwn-clause-machine
returns-in-InterruptOwn-clause-machine g c =
    let m = machine_of c.args.self.now in
    subst (λ (z : Step). ByFresh m (machine_of c.hint-in-InterruptOwn.new.self) (λ fresh. asked g.U.UserLevel.calls c.args.p fresh z m))
    (sym c.in-InterruptOwn.is) c.hint-in-InterruptOwn.ensures.machine
