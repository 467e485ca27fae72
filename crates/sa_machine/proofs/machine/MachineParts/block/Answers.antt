use Rattle.std.proofs.Common.{sym, ◌∙◌}
use Rattle.sa_machine.specs.View.{machine_of}
use Rattle.sa_abstract.specs.declared.answer.Step.TheVariants.{Block}
use Rattle.sa_machine.proofs.EventLemmas.{vacant}
use Rattle.sa_machine.proofs.EnterLemmas.{asks-within, blocked-welcomes}
use Rattle.sa_machine.proofs.StopLemmas.{stays-within, stays-later, stays-event, stays-fetched, stays-entries, stays-room, stays-spent, blocked-so, block-fits, asks-held, asks-place}
use Rattle.sa_machine.proofs.machine.MachineParts.block.Goals as goal

pub stop-requires-clause-within : goal.stop-requires-clause-within
stop-requires-clause-within g c = λ κs k.
    let keep = (g.met.U.UserLevel g.world.𝓛 g.world.𝓜 g.world.𝓡 ((λ s x. x), (λ x. x), (λ x. x), λ x. x)).keeps in
    asks-place g.U.UserLevel.calls g.U.UserLevel.stands keep (machine_of c.args.self.now) c.args.p (Block c.args.length c.args.page) c.requires.asks

pub stop-requires-clause-stands : goal.stop-requires-clause-stands
stop-requires-clause-stands g c = λ κs k. (c.args.self.now.events, c.requires.asks.between.standing)

pub unreachable-requires : goal.unreachable-requires
unreachable-requires g c =
    let keep = (g.met.U.UserLevel g.world.𝓛 g.world.𝓜 g.world.𝓡 ((λ s x. x), (λ x. x), (λ x. x), λ x. x)).keeps in
    asks-held g.U.UserLevel.calls g.U.UserLevel.stands keep (machine_of c.args.self.now) c.args.p (Block c.args.length c.args.page) c.requires.asks
    (sym c.stop.ensures.held ∙ c.in_default.is)

pub enter-requires-clause-within : goal.enter-requires-clause-within
enter-requires-clause-within g c = λ κs k.
    let keep = (g.met.U.UserLevel g.world.𝓛 g.world.𝓜 g.world.𝓡 ((λ s x. x), (λ x. x), (λ x. x), λ x. x)).keeps in
    let done = c.stop.ensures in
    stays-within c.args.p c.args.self.now c.stop.new.self done.machine done.kernel done.trace
    (asks-within g.U.UserLevel.calls g.U.UserLevel.stands keep (machine_of c.args.self.now) c.args.p (Block c.args.length c.args.page) c.requires.asks)

pub enter-requires-clause-later : goal.enter-requires-clause-later
enter-requires-clause-later g c = λ κs k.
    let done = c.stop.ensures in
    stays-later c.args.p c.args.self.now c.stop.new.self done.machine done.kernel done.trace c.requires.later

pub enter-requires-clause-event : goal.enter-requires-clause-event
enter-requires-clause-event g c = λ κs k.
    let done = c.stop.ensures in
    stays-event c.args.p c.args.self.now c.stop.new.self done.machine done.kernel done.trace c.requires.event

pub enter-requires-clause-fit : goal.enter-requires-clause-fit
enter-requires-clause-fit g c = λ κs k.
    let keep = (g.met.U.UserLevel g.world.𝓛 g.world.𝓜 g.world.𝓡 ((λ s x. x), (λ x. x), (λ x. x), λ x. x)).keeps in
    let free = vacant c.args.self.now.kernel.parts.acts in
    let done = c.stop.ensures in
    block-fits g.U.UserLevel.calls g.U.UserLevel.stands keep (machine_of c.args.self.now) (machine_of c.stop.new.self) c.args.p free.0 done.machine
    free.1 c.args.length c.args.page c.in-Some.held c.requires.asks (sym done.held ∙ c.in-Some.is)

pub enter-requires-clause-fetched : goal.enter-requires-clause-fetched
enter-requires-clause-fetched g c = λ κs k.
    let done = c.stop.ensures in
    stays-fetched c.args.p c.args.self.now c.stop.new.self done.machine done.kernel done.trace c.requires.asks.between.fetched

pub enter-requires-clause-welcomes : goal.enter-requires-clause-welcomes
enter-requires-clause-welcomes g c = λ κs k fresh unused up.
    let keep = (g.met.U.UserLevel g.world.𝓛 g.world.𝓜 g.world.𝓡 ((λ s x. x), (λ x. x), (λ x. x), λ x. x)).keeps in
    let f = g.U.UserLevel.calls in
    let stands = g.U.UserLevel.stands in
    let m = machine_of c.args.self.now in
    let p = c.args.p in
    blocked-welcomes f stands keep m (machine_of c.stop.new.self) p fresh c.args.length c.args.page c.in-Some.held c.requires.asks c.stop.ensures.machine
    (sym c.stop.ensures.held ∙ c.in-Some.is) unused up

pub enter-requires-clause-entries : goal.enter-requires-clause-entries
enter-requires-clause-entries g c = λ κs k.
    let done = c.stop.ensures in
    stays-entries c.args.p c.args.self.now c.stop.new.self done.machine done.kernel done.trace c.requires.entries

pub enter-requires-clause-room : goal.enter-requires-clause-room
enter-requires-clause-room g c = λ κs k.
    let done = c.stop.ensures in
    stays-room c.args.p c.args.self.now c.stop.new.self done.machine done.kernel done.trace c.requires.room

pub returns-clause-machine : goal.returns-clause-machine
returns-clause-machine g c =
    let done = c.stop.ensures in
    blocked-so g.U.UserLevel.calls c.args.p (machine_of c.args.self.now) (machine_of c.stop.new.self) (machine_of c.enter.new.self) done.machine
    c.args.length c.args.page c.in-Some.held (sym done.held ∙ c.in-Some.is) c.enter.ensures.machine

pub returns-clause-spends : goal.returns-clause-spends
returns-clause-spends g c =
    let done = c.stop.ensures in
    stays-spent c.args.p c.args.self.now c.stop.new.self done.machine done.kernel done.trace c.enter.new.self _ 1 c.enter.ensures.spends
