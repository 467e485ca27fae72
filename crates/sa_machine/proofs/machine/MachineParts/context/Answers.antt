use Rattle.std.proofs.Common.{◌≡◌, Some, sym, ◌∙◌}
use Rattle.sa_machine.specs.View.{machine_of}
use Rattle.sa_kernel_model.specs.State.{owner_of}
use Rattle.sa_machine.proofs.CallLemmas.{read-ctx, the-user, has-place, of-here, local-here}
use Rattle.sa_machine.proofs.machine.MachineParts.context.Goals as goal

pub local-requires-clause-of : goal.local-requires-clause-of
local-requires-clause-of g c = λ κs k u at.
    let keep = (g.met.U.UserLevel g.world.𝓛 g.world.𝓜 g.world.𝓡 ((λ s x. x), (λ x. x), (λ x. x), λ x. x)).keeps in
    let f = g.U.UserLevel.calls in
    let stands = g.U.UserLevel.stands in
    let m = machine_of c.args.self.now in
    let p = c.args.p in
    let s = c.in-Some.s in
    let owner : owner_of m.kernel p ≡ Some s = sym c.owner.ensures ∙ c.in-Some.is in
    let place = has-place f stands keep m.event m p s c.requires.stands owner in
    let ctx = read-ctx m.contexts p.0 c.from.result c.index.result.now c.in-Some-index.ctx place c.from.ensures c.index.ensures c.in-Some-index.is in
    of-here f stands keep m.event m p s c.requires.stands owner u c.in-Some-index.ctx at ctx

pub returns-in-Some-index : goal.returns-in-Some-index
returns-in-Some-index g c =
    let keep = (g.met.U.UserLevel g.world.𝓛 g.world.𝓜 g.world.𝓡 ((λ s x. x), (λ x. x), (λ x. x), λ x. x)).keeps in
    let f = g.U.UserLevel.calls in
    let stands = g.U.UserLevel.stands in
    let m = machine_of c.args.self.now in
    let p = c.args.p in
    let s = c.in-Some.s in
    let owner : owner_of m.kernel p ≡ Some s = sym c.owner.ensures ∙ c.in-Some.is in
    let place = has-place f stands keep m.event m p s c.requires.stands owner in
    let ctx = read-ctx m.contexts p.0 c.from.result c.index.result.now c.in-Some-index.ctx place c.from.ensures c.index.ensures c.in-Some-index.is in
    let user = the-user f stands keep m.event m p s c.requires.stands owner in
    c.local.ensures user.0 user.1 ∙ sym (local-here f stands keep m.event m p s c.requires.stands owner user.0 c.in-Some-index.ctx user.1 ctx)
