use Rattle.std.proofs.Common.{◌≡◌, ◌≤◌, ◌<◌, Option, Some, [], length, sym, subst, arith}
use Rattle.std.proofs.lemmas.List.Sums.{get_or-le-sum_by}
use Rattle.std.specs.Prelude.{IfSome}
use Rattle.sa_base.specs.declared.number.SpaceNo.{SpaceNo}
use Rattle.sa_kernel_model.specs.Enters.{Enters, upcalls_for, untold_count}
use Rattle.sa_kernel_model.specs.Entries.{go_to_aim}
use Rattle.sa_kernel_model.specs.Sound.{HasSizes}
use Rattle.sa_kernel_model.specs.State.{KernelState, untold_of}
use Rattle.sa_kernel.specs.View.{state_of, scene_of}
use Rattle.sa_kernel.proofs.FreshActivations.{vacant, vacant-unused, enters-no_aim}
use Rattle.sa_kernel.proofs.Calls.{adds-within, spends-none, spends-within}
use Rattle.sa_kernel.proofs.parts.Parts.go_to_aim.Goals as goal

few-untold : {C : Type 0} (k : KernelState C) (aim : Option SpaceNo) (s : SpaceNo) → HasSizes k → aim ≡ Some s
    → IfSome aim (λ (t : SpaceNo). t.0 < length k.demands) → length (untold_of k s.0) ≤ untold_count k
few-untold k aim s sizes is inside =
    let within : s.0 < length k.demands = subst (λ (o : Option SpaceNo). IfSome o (λ (t : SpaceNo). t.0 < length k.demands)) is inside in
    get_or-le-sum_by length k.untold s.0 [] (omega (arith, sizes.untold))

pub returns-in-None-clause-exact : goal.returns-in-None-clause-exact
returns-in-None-clause-exact g c =
    enters-no_aim c.args.event c.args.p (vacant c.args.self.now.acts) c.args.aim (scene_of c.args.self.now c.args.trace.now)
    (vacant-unused c.args.self.now.acts) c.in-None.is

pub returns-in-None-clause-room : goal.returns-in-None-clause-room
returns-in-None-clause-room g c = spends-within 0 1 1 (spends-none c.args.self.now c.args.self.now.assign)

pub go_to-requires-clause-space : goal.go_to-requires-clause-space
go_to-requires-clause-space g c = record {
  sizes = c.requires.proc.sizes;
  within = subst (λ (aim : Option SpaceNo). IfSome aim (λ (s : SpaceNo). s.0 < length c.args.self.now.demands.items)) c.in-Some.is c.requires.aim;
}

pub go_to-requires-clause-trace : goal.go_to-requires-clause-trace
go_to-requires-clause-trace g c =
    let few = few-untold (state_of c.args.self.now) c.args.aim c.in-Some.s c.requires.proc.sizes c.in-Some.is c.requires.aim in
    omega arith

pub returns-in-Some-clause-exact : goal.returns-in-Some-clause-exact
returns-in-Some-clause-exact g c =
    let k = state_of c.args.self.now in
    subst (λ (aim : Option SpaceNo). Enters (scene_of c.args.self.now c.args.trace.now) (scene_of c.go_to.new.self c.go_to.new.trace) c.go_to.result
    (upcalls_for k aim) (λ a. go_to_aim c.args.event c.args.p a aim)) (sym c.in-Some.is) c.go_to.ensures.exact

pub returns-in-Some-clause-items : goal.returns-in-Some-clause-items
returns-in-Some-clause-items g c =
    let few = few-untold (state_of c.args.self.now) c.args.aim c.in-Some.s c.requires.proc.sizes c.in-Some.is c.requires.aim in
    adds-within _ (omega arith) c.go_to.ensures.items
