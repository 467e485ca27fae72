use Rattle.std.proofs.Common.{ℕ, ◌<◌, List, length, sym, subst, set, None, rules}
use Rattle.sa_laws.specs.State.{SpaceState}
use Rattle.sa_replay.specs.Inside.{IsReplay}
use Rattle.sa_replay.proofs.ReplayLemmas.{leave_runs, listed_within, runs_moves, leave_kept}
use Rattle.sa_replay.proofs.replay.Replay.leave.Goals as goal

pub put-requires : goal.put-requires
put-requires c =
    let i = c.self.inside in
    let runs =
    leave_runs i.workload i.spaces i.owners.items i.runners.items i.roused.items c.self.invariant.0 c.args.self.now c.self.view_is c.args.p c.args.s c.args.t
    c.in-Some.t c.requires.runs c.in-Some.is in
    runs_moves i.spaces c.args.s c.in-Some.t c.args.p runs

pub index_mut-requires : goal.index_mut-requires
index_mut-requires c =
    let i = c.self.inside in
    let runs =
    leave_runs i.workload i.spaces i.owners.items i.runners.items i.roused.items c.self.invariant.0 c.args.self.now c.self.view_is c.args.p c.args.s c.args.t
    c.in-Some.t c.requires.runs c.in-Some.is in
    let within : c.args.p.0 < length i.runners.items =
    listed_within i.workload i.spaces i.owners.items i.runners.items i.roused.items c.self.invariant.0 c.args.self.now c.self.view_is c.args.p c.args.s
    c.in-Some.t runs in
    search rules

pub invariant_of-self : goal.invariant_of-self
invariant_of-self c =
    let i = c.self.inside in
    let runs =
    leave_runs i.workload i.spaces i.owners.items i.runners.items i.roused.items c.self.invariant.0 c.args.self.now c.self.view_is c.args.p c.args.s c.args.t
    c.in-Some.t c.requires.runs c.in-Some.is in
    let can = runs_moves i.spaces c.args.s c.in-Some.t c.args.p runs in
    let kept =
    leave_kept i.workload i.spaces i.owners.items i.runners.items c.self.invariant.0 c.args.s c.in-Some.t c.args.place can c.args.p runs c.requires.place in (
      subst (λ (n : ℕ). IsReplay i.workload c.put.new.self i.owners.items (set i.runners.items n None)) (sym c.from.ensures)
          (subst (λ (xs : List SpaceState). IsReplay i.workload xs i.owners.items (set i.runners.items c.args.p.0 None)) (sym c.put.ensures) kept),
      c.self.invariant.1,
    )
