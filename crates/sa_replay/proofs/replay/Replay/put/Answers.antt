use Rattle.std.proofs.Common.{List, sym, subst}
use Rattle.sa_laws.specs.State.{SpaceState}
use Rattle.sa_replay.specs.Inside.{IsReplay}
use Rattle.sa_replay.proofs.ReplayLemmas.{put_can, put_kept}
use Rattle.sa_replay.proofs.replay.Replay.put.Goals as goal

pub invariant_of-self : goal.invariant_of-self
invariant_of-self c =
    let i = c.self.inside in
    let can =
    put_can i.workload i.spaces i.owners.items i.runners.items i.roused.items c.self.invariant.0 c.args.self.now c.self.view_is
    (record { 0 = 0 }) c.args.s c.args.t c.in-Some.t c.requires.can c.in-Some.is in
    let kept = put_kept i.workload i.spaces i.owners.items i.runners.items c.self.invariant.0 c.args.s c.in-Some.t c.args.place can.1 can.0 c.requires.place in
    (subst (λ (xs : List SpaceState). IsReplay i.workload xs i.owners.items i.runners.items) (sym c.put.ensures) kept, c.self.invariant.1)
