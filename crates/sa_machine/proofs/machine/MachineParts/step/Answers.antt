use Rattle.std.specs.Prelude.{slice_set}
use Rattle.std.proofs.Common.{ap, Some, arith}
use Rattle.sa_machine.specs.View.{machine_of}
use Rattle.sa_machine.proofs.CallLemmas.{read-ctx, stepped-as, the-user, has-place, step-here, few-here, has-life, has-owner, has-space, has-ctx}
use Rattle.sa_machine.proofs.machine.MachineParts.step.Goals as goal

pub step-requires-clause-turn : goal.step-requires-clause-turn
step-requires-clause-turn g c = λ κs k u at.
    let keep = (g.met.U.UserLevel g.world.𝓛 g.world.𝓜 g.world.𝓡 ((λ s x. x), (λ x. x), (λ x. x), λ x. x)).keeps in
    let f = g.U.UserLevel.calls in
    let stands = g.U.UserLevel.stands in
    let m = machine_of c.args.self.now in
    let p = c.args.p in
    let s = c.args.s in
    let next = c.requires.next in
    let place = has-place f stands keep next.last m p s next.standing c.requires.owner in
    let ctx = read-ctx m.contexts p.0 c.from.result c.index_mut.result.now c.in-Some.ctx place c.from.ensures c.index_mut.ensures.value c.in-Some.is in
    step-here f stands keep next.last m p s next.standing c.requires.owner u c.in-Some.ctx at ctx c.seen-seen.result
    (c.seen-seen.ensures s c.requires.owner) next.before next.within

pub returns-clause-machine : goal.returns-clause-machine
returns-clause-machine g c =
    let keep = (g.met.U.UserLevel g.world.𝓛 g.world.𝓜 g.world.𝓡 ((λ s x. x), (λ x. x), (λ x. x), λ x. x)).keeps in
    let f = g.U.UserLevel.calls in
    let stands = g.U.UserLevel.stands in
    let m = machine_of c.args.self.now in
    let p = c.args.p in
    let s = c.args.s in
    let next = c.requires.next in
    let place = has-place f stands keep next.last m p s next.standing c.requires.owner in
    let ctx = read-ctx m.contexts p.0 c.from.result c.index_mut.result.now c.in-Some.ctx place c.from.ensures c.index_mut.ensures.value c.in-Some.is in
    let user = the-user f stands keep next.last m p s next.standing c.requires.owner in
    let done = c.step.ensures in
    stepped-as f p s m user.0 c.in-Some.ctx c.step.new.ctx c.step.new.self _ c.step.new.trace.items c.step.result c.seen-seen.result user.1 ctx
    (c.seen-seen.ensures s c.requires.owner) (done.user user.0 user.1)
    (ap (λ n. slice_set m.contexts n (Some c.step.new.ctx)) c.from.ensures)
    (done.ctx user.0 user.1) (done.items user.0 user.1) (done.answer user.0 user.1)

pub returns-clause-room : goal.returns-clause-room
returns-clause-room g c =
    let keep = (g.met.U.UserLevel g.world.𝓛 g.world.𝓜 g.world.𝓡 ((λ s x. x), (λ x. x), (λ x. x), λ x. x)).keeps in
    let f = g.U.UserLevel.calls in
    let stands = g.U.UserLevel.stands in
    let m = machine_of c.args.self.now in
    let p = c.args.p in
    let s = c.args.s in
    let next = c.requires.next in
    let place = has-place f stands keep next.last m p s next.standing c.requires.owner in
    let ctx = read-ctx m.contexts p.0 c.from.result c.index_mut.result.now c.in-Some.ctx place c.from.ensures c.index_mut.ensures.value c.in-Some.is in
    let user = the-user f stands keep next.last m p s next.standing c.requires.owner in
    let few = few-here f stands keep next.last m p s next.standing c.requires.owner user.0 c.in-Some.ctx user.1 ctx next.before next.within c.seen-seen.result
    (c.seen-seen.ensures s c.requires.owner) in
    let spare = c.step.ensures.spare user.0 user.1 in
    omega (arith, few, spare)

pub unreachable-requires : goal.unreachable-requires
unreachable-requires g c =
    let keep = (g.met.U.UserLevel g.world.𝓛 g.world.𝓜 g.world.𝓡 ((λ s x. x), (λ x. x), (λ x. x), λ x. x)).keeps in
    has-ctx g.U.UserLevel.calls g.U.UserLevel.stands keep c.requires.next.last (machine_of c.args.self.now) c.args.p c.args.s c.requires.next.standing
    c.requires.owner
    c.from.result c.index_mut.result.now c.from.ensures c.index_mut.ensures.value c.in_default.is

pub index_mut-requires : goal.index_mut-requires
index_mut-requires g c =
    let keep = (g.met.U.UserLevel g.world.𝓛 g.world.𝓜 g.world.𝓡 ((λ s x. x), (λ x. x), (λ x. x), λ x. x)).keeps in
    let place = has-place g.U.UserLevel.calls g.U.UserLevel.stands keep c.requires.next.last (machine_of c.args.self.now) c.args.p c.args.s
    c.requires.next.standing c.requires.owner in
    omega (arith, place, c.from.ensures, c.args.self.now.contexts.ok.0)

pub seen-seen-requires-clause-within : goal.seen-seen-requires-clause-within
seen-seen-requires-clause-within g c =
    let keep = (g.met.U.UserLevel g.world.𝓛 g.world.𝓜 g.world.𝓡 ((λ s x. x), (λ x. x), (λ x. x), λ x. x)).keeps in
    has-life g.U.UserLevel.calls g.U.UserLevel.stands keep c.requires.next.last (machine_of c.args.self.now) c.args.p c.args.s c.requires.next.standing
    c.requires.owner

pub seen-seen-requires-clause-owned : goal.seen-seen-requires-clause-owned
seen-seen-requires-clause-owned g c =
    let keep = (g.met.U.UserLevel g.world.𝓛 g.world.𝓜 g.world.𝓡 ((λ s x. x), (λ x. x), (λ x. x), λ x. x)).keeps in
    has-owner g.U.UserLevel.calls g.U.UserLevel.stands keep c.requires.next.last (machine_of c.args.self.now) c.args.p c.args.s c.requires.next.standing
    c.requires.owner

pub step-requires-clause-within : goal.step-requires-clause-within
step-requires-clause-within g c = λ κs k.
    let keep = (g.met.U.UserLevel g.world.𝓛 g.world.𝓜 g.world.𝓡 ((λ s x. x), (λ x. x), (λ x. x), λ x. x)).keeps in
    has-space g.U.UserLevel.calls g.U.UserLevel.stands keep c.requires.next.last (machine_of c.args.self.now) c.args.p c.args.s c.requires.next.standing
    c.requires.owner
