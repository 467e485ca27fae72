use Rattle.std.proofs.Common.{◌≡◌, ℕ, ◌+◌, false, Option, Some, sym, ap, ◌∙◌, arith}
use Rattle.sa_base.specs.declared.number.SpaceNo.{SpaceNo}
use Rattle.sa_kernel.specs.View.{state_of, scene_of}
use Rattle.sa_kernel_model.specs.State.{owner_of}
use Rattle.sa_kernel_model.specs.Entries.{announced, more}
use Rattle.sa_kernel.proofs.Calls.{demand-read}
use Rattle.sa_kernel.proofs.parts.Parts.more.Goals as goal

pub overflow_add-demand : goal.overflow_add-demand
overflow_add-demand g c =
    let k = state_of c.args.self.now in
    let owner : owner_of k c.args.p ≡ Some c.in-Some.s = sym c.owner.ensures ∙ c.in-Some.is in
    let demand = demand-read k.demands c.from.result c.in-Some.s.0 c.index-demand.result.now c.index-demand.ensures c.from.ensures
    (c.requires.sound.owners c.args.p.0 c.in-Some.s owner) in
    let few = c.requires.few c.in-Some.s owner in
    omega arith

pub returns-in-Some-clause-exact : goal.returns-in-Some-clause-exact
returns-in-Some-clause-exact g c =
    let old = scene_of c.args.self.now c.args.trace.now in
    let owner : owner_of old.state c.args.p ≡ Some c.in-Some.s = sym c.owner.ensures ∙ c.in-Some.is in
    let demand = demand-read old.state.demands c.from.result c.in-Some.s.0 c.index-demand.result.now c.index-demand.ensures c.from.ensures
    (c.requires.sound.owners c.args.p.0 c.in-Some.s owner) in
    c.announce.ensures.exact
    ∙ ap (λ (n : ℕ). announced c.args.event c.args.p c.in-Some.s (n + c.args.n) false old) demand
    ∙ ap (λ (o : Option SpaceNo). more c.args.event c.args.p c.args.n o old) (sym owner)
