use Rattle.sa_machine.specs.View.{machine_of}
use Rattle.sa_machine.proofs.EventLemmas.{vacant}
use Rattle.sa_machine.proofs.EnterLemmas.{lives-of, stopped-welcomes}
use Rattle.sa_machine.proofs.StopLemmas.{stays-within, stays-later, stays-event, stays-fetched, stays-entries, stays-room, stays-spent, interrupted-so, interrupt-fits}
use Rattle.sa_machine.proofs.machine.MachineParts.interrupt.Goals as goal

pub stop-held-requires-clause-stands : goal.stop-held-requires-clause-stands
stop-held-requires-clause-stands g c = λ κs k. (c.requires.next.last, c.requires.next.standing)

pub enter-requires-clause-within : goal.enter-requires-clause-within
enter-requires-clause-within g c = λ κs k.
    let keep = (g.met.U.UserLevel g.world.𝓛 g.world.𝓜 g.world.𝓡 ((λ s x. x), (λ x. x), (λ x. x), λ x. x)).keeps in
    let next = c.requires.next in
    let done = c.stop-held.ensures in
    stays-within c.args.p c.args.self.now c.stop-held.new.self done.machine done.kernel done.trace
    (lives-of g.U.UserLevel.calls g.U.UserLevel.stands keep next.last (machine_of c.args.self.now) c.args.p next.standing c.requires.within)

pub enter-requires-clause-later : goal.enter-requires-clause-later
enter-requires-clause-later g c = λ κs k.
    let done = c.stop-held.ensures in
    stays-later c.args.p c.args.self.now c.stop-held.new.self done.machine done.kernel done.trace c.requires.later

pub enter-requires-clause-event : goal.enter-requires-clause-event
enter-requires-clause-event g c = λ κs k.
    let done = c.stop-held.ensures in
    stays-event c.args.p c.args.self.now c.stop-held.new.self done.machine done.kernel done.trace c.requires.next.within

pub enter-requires-clause-fit : goal.enter-requires-clause-fit
enter-requires-clause-fit g c = λ κs k.
    let keep = (g.met.U.UserLevel g.world.𝓛 g.world.𝓜 g.world.𝓡 ((λ s x. x), (λ x. x), (λ x. x), λ x. x)).keeps in
    let free = vacant c.args.self.now.kernel.parts.acts in
    let done = c.stop-held.ensures in
    interrupt-fits g.U.UserLevel.calls g.U.UserLevel.stands keep (machine_of c.args.self.now) (machine_of c.stop-held.new.self) c.args.p free.0 done.machine
    free.1 c.stop-held.result c.requires.next c.requires.within c.requires.raised done.held

pub enter-requires-clause-fetched : goal.enter-requires-clause-fetched
enter-requires-clause-fetched g c = λ κs k.
    let done = c.stop-held.ensures in
    stays-fetched c.args.p c.args.self.now c.stop-held.new.self done.machine done.kernel done.trace c.requires.next.fetched

pub enter-requires-clause-welcomes : goal.enter-requires-clause-welcomes
enter-requires-clause-welcomes g c = λ κs k fresh unused up.
    let keep = (g.met.U.UserLevel g.world.𝓛 g.world.𝓜 g.world.𝓡 ((λ s x. x), (λ x. x), (λ x. x), λ x. x)).keeps in
    let f = g.U.UserLevel.calls in
    let stands = g.U.UserLevel.stands in
    let m = machine_of c.args.self.now in
    let p = c.args.p in
    stopped-welcomes f stands keep m
    (machine_of c.stop-held.new.self) p fresh c.stop-held.result c.requires.next c.requires.within c.requires.raised c.stop-held.ensures.machine
    c.stop-held.ensures.held unused up

pub enter-requires-clause-entries : goal.enter-requires-clause-entries
enter-requires-clause-entries g c = λ κs k.
    let done = c.stop-held.ensures in
    stays-entries c.args.p c.args.self.now c.stop-held.new.self done.machine done.kernel done.trace c.requires.entries

pub enter-requires-clause-room : goal.enter-requires-clause-room
enter-requires-clause-room g c = λ κs k.
    let done = c.stop-held.ensures in
    stays-room c.args.p c.args.self.now c.stop-held.new.self done.machine done.kernel done.trace c.requires.room

pub returns-clause-machine : goal.returns-clause-machine
returns-clause-machine g c =
    let done = c.stop-held.ensures in
    interrupted-so g.U.UserLevel.calls c.args.p (machine_of c.args.self.now) (machine_of c.stop-held.new.self) (machine_of c.enter.new.self) done.machine
    c.stop-held.result done.held c.enter.ensures.machine

pub returns-clause-spends : goal.returns-clause-spends
returns-clause-spends g c =
    let done = c.stop-held.ensures in
    stays-spent c.args.p c.args.self.now c.stop-held.new.self done.machine done.kernel done.trace c.enter.new.self _ 1 c.enter.ensures.spends
