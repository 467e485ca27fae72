use Rattle.std.specs.Prelude.{slice_set}
use Rattle.std.proofs.Common.{ap, ◌≡◌, Some, sym, ◌∙◌, arith}
use Rattle.sa_machine.specs.View.{machine_of}
use Rattle.sa_kernel_model.specs.State.{owner_of}
use Rattle.sa_machine.proofs.CallLemmas.{read-ctx, gone-as, the-user, has-place, going-here, has-life, has-owner, has-space, has-ctx}
use Rattle.sa_machine.proofs.machine.MachineParts.go.Goals as goal

pub went-requires-clause-going : goal.went-requires-clause-going
went-requires-clause-going g c = λ κs k u at.
    let keep = (g.met.U.UserLevel g.world.𝓛 g.world.𝓜 g.world.𝓡 ((λ s x. x), (λ x. x), (λ x. x), λ x. x)).keeps in
    let f = g.U.UserLevel.calls in
    let stands = g.U.UserLevel.stands in
    let m = machine_of c.args.self.now in
    let p = c.args.p in
    let s = c.in-Some.s in
    let owner : owner_of m.kernel p ≡ Some s = sym c.owner.ensures ∙ c.in-Some.is in
    let next = c.requires.next in
    let place = has-place f stands keep next.last m p s next.standing owner in
    let ctx = read-ctx m.contexts p.0 c.from.result c.index_mut.result.now c.in-Some-index_mut.ctx place c.from.ensures c.index_mut.ensures.value
    c.in-Some-index_mut.is in
    going-here f stands keep next.last m p s next.standing owner u c.in-Some-index_mut.ctx at ctx c.seen-seen.result c.args.n
    (c.seen-seen.ensures s owner) next.before c.requires.some c.requires.within c.requires.can

pub returns-clause-machine : goal.returns-clause-machine
returns-clause-machine g c =
    let keep = (g.met.U.UserLevel g.world.𝓛 g.world.𝓜 g.world.𝓡 ((λ s x. x), (λ x. x), (λ x. x), λ x. x)).keeps in
    let f = g.U.UserLevel.calls in
    let stands = g.U.UserLevel.stands in
    let m = machine_of c.args.self.now in
    let p = c.args.p in
    let s = c.in-Some.s in
    let owner : owner_of m.kernel p ≡ Some s = sym c.owner.ensures ∙ c.in-Some.is in
    let next = c.requires.next in
    let place = has-place f stands keep next.last m p s next.standing owner in
    let ctx = read-ctx m.contexts p.0 c.from.result c.index_mut.result.now c.in-Some-index_mut.ctx place c.from.ensures c.index_mut.ensures.value
    c.in-Some-index_mut.is in
    let user = the-user f stands keep next.last m p s next.standing owner in
    let done = c.went.ensures in
    gone-as f p s c.args.n m user.0 c.in-Some-index_mut.ctx c.went.new.ctx c.went.new.self _ c.went.new.trace.items c.seen-seen.result owner user.1 ctx
    (c.seen-seen.ensures s owner) (done.user user.0 user.1)
    (ap (λ n. slice_set m.contexts n (Some c.went.new.ctx)) c.from.ensures)
    (done.ctx user.0 user.1) (done.items user.0 user.1)

pub unreachable-requires-in_default-index_mut : goal.unreachable-requires-in_default-index_mut
unreachable-requires-in_default-index_mut g c =
    let keep = (g.met.U.UserLevel g.world.𝓛 g.world.𝓜 g.world.𝓡 ((λ s x. x), (λ x. x), (λ x. x), λ x. x)).keeps in
    has-ctx g.U.UserLevel.calls g.U.UserLevel.stands keep c.requires.next.last (machine_of c.args.self.now) c.args.p c.in-Some.s c.requires.next.standing
    (sym c.owner.ensures ∙ c.in-Some.is)
    c.from.result c.index_mut.result.now c.from.ensures c.index_mut.ensures.value c.in_default-index_mut.is

pub index_mut-requires : goal.index_mut-requires
index_mut-requires g c =
    let keep = (g.met.U.UserLevel g.world.𝓛 g.world.𝓜 g.world.𝓡 ((λ s x. x), (λ x. x), (λ x. x), λ x. x)).keeps in
    let place = has-place g.U.UserLevel.calls g.U.UserLevel.stands keep c.requires.next.last (machine_of c.args.self.now) c.args.p c.in-Some.s
    c.requires.next.standing (sym c.owner.ensures ∙ c.in-Some.is) in
    omega (arith, place, c.from.ensures, c.args.self.now.contexts.ok.0)

pub seen-seen-requires-clause-within : goal.seen-seen-requires-clause-within
seen-seen-requires-clause-within g c =
    let keep = (g.met.U.UserLevel g.world.𝓛 g.world.𝓜 g.world.𝓡 ((λ s x. x), (λ x. x), (λ x. x), λ x. x)).keeps in
    has-life g.U.UserLevel.calls g.U.UserLevel.stands keep c.requires.next.last (machine_of c.args.self.now) c.args.p c.in-Some.s c.requires.next.standing
    (sym c.owner.ensures ∙ c.in-Some.is)

pub seen-seen-requires-clause-owned : goal.seen-seen-requires-clause-owned
seen-seen-requires-clause-owned g c =
    let keep = (g.met.U.UserLevel g.world.𝓛 g.world.𝓜 g.world.𝓡 ((λ s x. x), (λ x. x), (λ x. x), λ x. x)).keeps in
    has-owner g.U.UserLevel.calls g.U.UserLevel.stands keep c.requires.next.last (machine_of c.args.self.now) c.args.p c.in-Some.s c.requires.next.standing
    (sym c.owner.ensures ∙ c.in-Some.is)

pub went-requires-clause-within : goal.went-requires-clause-within
went-requires-clause-within g c = λ κs k.
    let keep = (g.met.U.UserLevel g.world.𝓛 g.world.𝓜 g.world.𝓡 ((λ s x. x), (λ x. x), (λ x. x), λ x. x)).keeps in
    has-space g.U.UserLevel.calls g.U.UserLevel.stands keep c.requires.next.last (machine_of c.args.self.now) c.args.p c.in-Some.s c.requires.next.standing
    (sym c.owner.ensures ∙ c.in-Some.is)

pub owner-requires : goal.owner-requires
owner-requires g c =
    let keep = (g.met.U.UserLevel g.world.𝓛 g.world.𝓜 g.world.𝓡 ((λ s x. x), (λ x. x), (λ x. x), λ x. x)).keeps in
    has-life g.U.UserLevel.calls g.U.UserLevel.stands keep c.requires.next.last (machine_of c.args.self.now) c.args.p c.requires.can.space
    c.requires.next.standing c.requires.can.owner

pub unreachable-requires : goal.unreachable-requires
unreachable-requires g c =
    c.in_default.not-Some c.requires.can.space (c.owner.ensures ∙ c.requires.can.owner)
