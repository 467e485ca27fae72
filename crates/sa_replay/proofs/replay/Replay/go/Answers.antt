use Rattle.std.proofs.Common.{ℕ, ◌<◌, ◌≤◌, length, set, None, vec_capacity, sym, subst, ◌∙◌, arith, rules}
use Rattle.sa_base.specs.declared.limits.TheConstants.{MAX_THREADS}
use Rattle.sa_replay.specs.Spaces.{HasRun}
use Rattle.sa_replay.specs.Inside.{IsReplay}
use Rattle.sa_replay.proofs.ReplayLemmas.{go_runs, listed_within, still_runs, goes_off}
use Rattle.sa_replay.proofs.replay.Replay.go.Goals as goal

pub index_mut-requires : goal.index_mut-requires
index_mut-requires c =
    let i = c.self.inside in
    let runs =
    go_runs i.workload i.spaces i.owners.items i.runners.items i.roused.items c.self.invariant.0 c.args.self.now c.self.view_is c.args.p c.args.s c.args.t
    c.requires.can in
    let within : c.args.p.0 < length i.runners.items =
    listed_within i.workload i.spaces i.owners.items i.runners.items i.roused.items c.self.invariant.0 c.args.self.now c.self.view_is c.args.p c.args.s
    c.args.t runs in
    search rules

pub invariant_of-self-then-not-branch : goal.invariant_of-self-then-not-branch
invariant_of-self-then-not-branch c =
    let i = c.self.inside in
    let runs =
    go_runs i.workload i.spaces i.owners.items i.runners.items i.roused.items c.self.invariant.0 c.args.self.now c.self.view_is c.args.p c.args.s c.args.t
    c.requires.can in
    let ran : HasRun i.spaces c.space_def-def.result.now c.args.s c.args.t c.run.new.self c.run.new.roused.items = c.in_ok-run.ensures.ok in
    let room : MAX_THREADS ≤ vec_capacity c.run.new.roused = omega (arith, c.run.ensures.room, c.self.invariant.1) in
    let kept =
    goes_off i.workload i.spaces i.owners.items i.runners.items c.self.invariant.0 c.args.p c.args.s c.args.t c.space_def-def.result.now c.run.new.self
    c.run.new.roused.items runs ran (sym c.in_ok-run.ensures.runs ∙ c.if-not-branch.true) in
    (subst (λ (n : ℕ). IsReplay i.workload c.run.new.self i.owners.items (set i.runners.items n None)) (sym c.from.ensures) kept, room)

pub invariant_of-self-else-not-branch : goal.invariant_of-self-else-not-branch
invariant_of-self-else-not-branch c =
    let i = c.self.inside in
    let runs =
    go_runs i.workload i.spaces i.owners.items i.runners.items i.roused.items c.self.invariant.0 c.args.self.now c.self.view_is c.args.p c.args.s c.args.t
    c.requires.can in
    let ran : HasRun i.spaces c.space_def-def.result.now c.args.s c.args.t c.run.new.self c.run.new.roused.items = c.in_ok-run.ensures.ok in
    let room : MAX_THREADS ≤ vec_capacity c.run.new.roused = omega (arith, c.run.ensures.room, c.self.invariant.1) in (
      still_runs i.workload i.spaces i.owners.items i.runners.items c.self.invariant.0 c.args.p c.args.s c.args.t c.space_def-def.result.now c.run.new.self
          c.run.new.roused.items runs ran (sym c.in_ok-run.ensures.runs ∙ c.if-not-branch.false),
      room,
    )
