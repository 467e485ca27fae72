use Rattle.std.proofs.Common.{◌-◌, ◌≤◌, ap, ◌∙◌, arith}
use Rattle.sa_core_model.specs.Machine.{Machine}
use Rattle.sa_machine.specs.View.{machine_of}
use Rattle.sa_core.specs.View.{CoreView}
use Rattle.sa_core.proofs.CoreLemmas.{ready, are-left, next-go, kept-commit}
use Rattle.sa_core.proofs.run.Core.commit.Goals as goal

pub commit-requires-clause-can : goal.commit-requires-clause-can
commit-requires-clause-can g c =
    λ κs i. let keep = (g.met.U.UserLevel g.world.𝓛 g.world.𝓜 g.world.𝓡 ((λ s x. x), (λ x. x), (λ x. x), λ x. x)).keeps in
    let f = g.U.UserLevel.calls in
    let k = c.self.inside in
    let is = ready f g.U.UserLevel.stands k.machine c.make_room.new.self c.args.self.now k.budget k.spare c.self.view_is c.make_room.ensures.machine
    c.make_room.ensures.budget
    c.requires.not_ended c.self.invariant in
    let are = are-left k.budget (machine_of k.machine) c.args.n c.requires.some is.left in
    next-go f g.U.UserLevel.stands keep k.machine c.args.self.now k.budget k.spare c.args.n c.committable-made.result c.args.p is c.self.invariant
    c.requires.next
    (rw c.committable-made.ensures are.few)

pub invariant_of-self : goal.invariant_of-self
invariant_of-self g c =
    let keep = (g.met.U.UserLevel g.world.𝓛 g.world.𝓜 g.world.𝓡 ((λ s x. x), (λ x. x), (λ x. x), λ x. x)).keeps in
    let f = g.U.UserLevel.calls in
    let k = c.self.inside in
    let is = ready f g.U.UserLevel.stands k.machine c.make_room.new.self c.args.self.now k.budget k.spare c.self.view_is c.make_room.ensures.machine
    c.make_room.ensures.budget
    c.requires.not_ended c.self.invariant in
    let are = are-left k.budget (machine_of k.machine) c.args.n c.requires.some is.left in
    let made = c.committable-made.result in
    let some : 1 ≤ made = rw c.committable-made.ensures are.some in
    let few : made ≤ c.args.n = rw c.committable-made.ensures are.few in
    let within : made ≤ k.budget - k.machine.events = rw c.committable-made.ensures are.within in
    let spare = ap (λ (v : CoreView g.row.U.Denot g.row.U-Ctx.Denot). v.spare) c.self.view_is in
    let room = c.in_ok-make_room.ensures.ok in
    let can = next-go f g.U.UserLevel.stands keep k.machine c.args.self.now k.budget k.spare c.args.n made c.args.p is c.self.invariant c.requires.next few in
    rw c.from-2.ensures (kept-commit f g.U.UserLevel.stands keep k.machine c.commit.new.self c.args.p made k.budget k.spare c.self.invariant
    c.commit.ensures.machine c.commit.ensures.spends
    some (omega (arith, few, spare, room, c.from.ensures)) (omega (arith, within, is.left)) can).kept

pub returns-clause-workload : goal.returns-clause-workload
returns-clause-workload g c =
    let keep = (g.met.U.UserLevel g.world.𝓛 g.world.𝓜 g.world.𝓡 ((λ s x. x), (λ x. x), (λ x. x), λ x. x)).keeps in
    let f = g.U.UserLevel.calls in
    let k = c.self.inside in
    let is = ready f g.U.UserLevel.stands k.machine c.make_room.new.self c.args.self.now k.budget k.spare c.self.view_is c.make_room.ensures.machine
    c.make_room.ensures.budget
    c.requires.not_ended c.self.invariant in
    let are = are-left k.budget (machine_of k.machine) c.args.n c.requires.some is.left in
    let made = c.committable-made.result in
    let some : 1 ≤ made = rw c.committable-made.ensures are.some in
    let few : made ≤ c.args.n = rw c.committable-made.ensures are.few in
    let within : made ≤ k.budget - k.machine.events = rw c.committable-made.ensures are.within in
    let spare = ap (λ (v : CoreView g.row.U.Denot g.row.U-Ctx.Denot). v.spare) c.self.view_is in
    let room = c.in_ok-make_room.ensures.ok in
    let can = next-go f g.U.UserLevel.stands keep k.machine c.args.self.now k.budget k.spare c.args.n made c.args.p is c.self.invariant c.requires.next few in
    (kept-commit f g.U.UserLevel.stands keep k.machine c.commit.new.self c.args.p made k.budget k.spare c.self.invariant c.commit.ensures.machine
    c.commit.ensures.spends
    some (omega (arith, few, spare, room, c.from.ensures)) (omega (arith, within, is.left)) can).workload
    ∙ ap (λ (z : Machine g.row.U.Denot g.row.U-Ctx.Denot). z.workload) is.same
