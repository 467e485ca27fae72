use Rattle.std.specs.Prelude.{slice_set}
use Rattle.std.proofs.Common.{Some, ap, ◌∙◌, arith}
use Rattle.sa_machine.specs.View.{machine_of}
use Rattle.sa_core_model.specs.Machine.{called}
use Rattle.sa_machine.proofs.CallLemmas.{read-ctx, called-as, the-user, has-place, seen-here, has-life, has-owner, has-space, has-ctx}
use Rattle.sa_machine.proofs.machine.MachineParts.respond.Goals as goal

pub answered-requires-clause-sees : goal.answered-requires-clause-sees
answered-requires-clause-sees g c = λ κs k u at.
    let keep = (g.met.U.UserLevel g.world.𝓛 g.world.𝓜 g.world.𝓡 ((λ s x. x), (λ x. x), (λ x. x), λ x. x)).keeps in
    let f = g.U.UserLevel.calls in
    let stands = g.U.UserLevel.stands in
    let m = machine_of c.args.self.now in
    let p = c.args.p in
    let s = c.args.s in
    let place = has-place f stands keep m.event m p s c.requires.stands c.requires.owner in
    let ctx = read-ctx m.contexts p.0 c.from.result c.index_mut.result.now c.in-Some.ctx place c.from.ensures c.index_mut.ensures.value c.in-Some.is in
    seen-here f stands keep m.event m p s c.requires.stands c.requires.owner u c.in-Some.ctx at ctx c.seen-seen.result (c.seen-seen.ensures s c.requires.owner)

pub returns-clause-machine : goal.returns-clause-machine
returns-clause-machine g c =
    let keep = (g.met.U.UserLevel g.world.𝓛 g.world.𝓜 g.world.𝓡 ((λ s x. x), (λ x. x), (λ x. x), λ x. x)).keeps in
    let f = g.U.UserLevel.calls in
    let stands = g.U.UserLevel.stands in
    let m = machine_of c.args.self.now in
    let p = c.args.p in
    let s = c.args.s in
    let place = has-place f stands keep m.event m p s c.requires.stands c.requires.owner in
    let ctx = read-ctx m.contexts p.0 c.from.result c.index_mut.result.now c.in-Some.ctx place c.from.ensures c.index_mut.ensures.value c.in-Some.is in
    let user = the-user f stands keep m.event m p s c.requires.stands c.requires.owner in
    called-as (λ u d. f.answered u c.seen-seen.result d) p s m user.0 c.in-Some.ctx c.answered.new.ctx c.answered.new.self _ user.1 ctx
    (c.answered.ensures.user user.0 user.1)
    (ap (λ n. slice_set m.contexts n (Some c.answered.new.ctx)) c.from.ensures)
    (c.answered.ensures.ctx user.0 user.1)
    ∙ ap (λ v. called (λ u d. f.answered u v d) p s m) (c.seen-seen.ensures s c.requires.owner)

pub unreachable-requires : goal.unreachable-requires
unreachable-requires g c =
    let keep = (g.met.U.UserLevel g.world.𝓛 g.world.𝓜 g.world.𝓡 ((λ s x. x), (λ x. x), (λ x. x), λ x. x)).keeps in
    has-ctx g.U.UserLevel.calls g.U.UserLevel.stands keep c.args.self.now.events (machine_of c.args.self.now) c.args.p c.args.s c.requires.stands
    c.requires.owner
    c.from.result c.index_mut.result.now c.from.ensures c.index_mut.ensures.value c.in_default.is

pub index_mut-requires : goal.index_mut-requires
index_mut-requires g c =
    let keep = (g.met.U.UserLevel g.world.𝓛 g.world.𝓜 g.world.𝓡 ((λ s x. x), (λ x. x), (λ x. x), λ x. x)).keeps in
    let place = has-place g.U.UserLevel.calls g.U.UserLevel.stands keep c.args.self.now.events (machine_of c.args.self.now) c.args.p c.args.s
    c.requires.stands c.requires.owner in
    omega (arith, place, c.from.ensures, c.args.self.now.contexts.ok.0)

pub seen-seen-requires-clause-within : goal.seen-seen-requires-clause-within
seen-seen-requires-clause-within g c =
    let keep = (g.met.U.UserLevel g.world.𝓛 g.world.𝓜 g.world.𝓡 ((λ s x. x), (λ x. x), (λ x. x), λ x. x)).keeps in
    has-life g.U.UserLevel.calls g.U.UserLevel.stands keep c.args.self.now.events (machine_of c.args.self.now) c.args.p c.args.s c.requires.stands
    c.requires.owner

pub seen-seen-requires-clause-owned : goal.seen-seen-requires-clause-owned
seen-seen-requires-clause-owned g c =
    let keep = (g.met.U.UserLevel g.world.𝓛 g.world.𝓜 g.world.𝓡 ((λ s x. x), (λ x. x), (λ x. x), λ x. x)).keeps in
    has-owner g.U.UserLevel.calls g.U.UserLevel.stands keep c.args.self.now.events (machine_of c.args.self.now) c.args.p c.args.s c.requires.stands
    c.requires.owner

pub answered-requires-clause-within : goal.answered-requires-clause-within
answered-requires-clause-within g c = λ κs k.
    let keep = (g.met.U.UserLevel g.world.𝓛 g.world.𝓜 g.world.𝓡 ((λ s x. x), (λ x. x), (λ x. x), λ x. x)).keeps in
    has-space g.U.UserLevel.calls g.U.UserLevel.stands keep c.args.self.now.events (machine_of c.args.self.now) c.args.p c.args.s c.requires.stands
    c.requires.owner
