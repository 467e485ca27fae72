use Rattle.std.proofs.Common.{ℕ, List, sym, subst, set, Some}
use Rattle.sa_laws.specs.State.{SpaceState, Runner}
use Rattle.sa_replay.specs.Inside.{IsReplay}
use Rattle.sa_replay.proofs.IndexLemmas.{runner}
use Rattle.sa_replay.proofs.ReplayLemmas.{put_can, owned_here, nobody_here, enter_kept}
use Rattle.sa_replay.proofs.replay.Replay.enter.Goals as goal

pub invariant_of-self : goal.invariant_of-self
invariant_of-self c =
    let i = c.self.inside in
    let can =
    put_can i.workload i.spaces i.owners.items i.runners.items i.roused.items c.self.invariant.0 c.args.self.now c.self.view_is c.args.p c.args.s c.args.t
    c.in-Some.t c.requires.can c.in-Some.is in
    let owned =
    owned_here i.workload i.spaces i.owners.items i.runners.items i.roused.items c.self.invariant.0 c.args.self.now c.self.view_is c.args.p c.args.s
    c.requires.owned in
    let nobody =
    nobody_here i.workload i.spaces i.owners.items i.runners.items i.roused.items c.self.invariant.0 c.args.self.now c.self.view_is c.args.p c.args.s
    c.requires.nobody in
    let kept = enter_kept i.workload i.spaces i.owners.items i.runners.items c.self.invariant.0 c.args.p c.args.s c.in-Some.t can.1 owned nobody can.0 in (
      subst (λ (x : Runner). IsReplay i.workload c.put.new.self i.owners.items (set i.runners.items c.from.result (Some x))) (sym c.new.ensures)
          (subst (λ (n : ℕ). IsReplay i.workload c.put.new.self i.owners.items (set i.runners.items n (Some (runner c.args.s c.in-Some.t))))
          (sym c.from.ensures)
          (subst (λ (xs : List SpaceState). IsReplay i.workload xs i.owners.items (set i.runners.items c.args.p.0 (Some (runner c.args.s c.in-Some.t))))
          (sym c.put.ensures) kept)),
      c.self.invariant.1,
    )
