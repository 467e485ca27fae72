use Rattle.std.proofs.Common.{List, arith, ap, sym, subst, refl, ◌∙◌}
use Rattle.std.proofs.lemmas.Bool.{false≢true}
use Rattle.std.proofs.lemmas.Result.{IfOk-from_err}
use Rattle.sa_lemmas.proofs.Results.{on_err}
use Rattle.sa_laws.specs.Effect.{effect}
use Rattle.sa_laws.specs.Ends.{are_done, are_at_rest}
use Rattle.sa_laws.specs.State.{SpaceState, thread_in}
use Rattle.sa_replay.specs.Running.{instr_in, is_running, CanRun, IsFull}
use Rattle.sa_replay.specs.Spaces.{space_in, HasRun}
use Rattle.sa_replay.proofs.SpaceChanges.{runs_within, runs_there, counted-kept, can_run, has_run, kept_there, stays_placed, full_here}
use Rattle.sa_replay.proofs.spaces.Spaces.run.Goals as goal

pub index_mut-requires : goal.index_mut-requires
index_mut-requires c =
    let within =
    runs_within c.self.inside.spaces.items c.args.self.now c.self.view_is c.from.result c.args.s c.from.ensures c.args.def.now c.args.t c.requires.can in
    omega (arith, c.self.inside.spaces.ok.0)

pub run_local-requires : goal.run_local-requires
run_local-requires c =
    can_run c.self.inside.spaces.items c.args.self.now c.self.view_is c.from.result c.args.s c.from.ensures
    (runs_there c.args.self.now c.args.def.now c.args.s c.args.t c.requires.can) c.index_mut.result.now c.index_mut.ensures.value
    c.args.def.now c.args.t c.requires.can

pub invariant_of-self : goal.invariant_of-self
invariant_of-self c =
    let ran = c.run_local.ensures.ran c.if-run_local.true in
    counted-kept c.self.inside.spaces.items c.from.result c.index_mut.result.now
    (runs_within c.self.inside.spaces.items c.args.self.now c.self.view_is c.from.result c.args.s c.from.ensures c.args.def.now c.args.t c.requires.can)
    c.index_mut.ensures.value
    c.self.inside.live c.self.inside.restless c.self.invariant c.run_local.new.self ran.done ran.rest

pub invariant_of-self-2 : goal.invariant_of-self-2
invariant_of-self-2 c =
    let stays = c.run_local.ensures.other c.if-run_local.false in
    counted-kept c.self.inside.spaces.items c.from.result c.index_mut.result.now
    (runs_within c.self.inside.spaces.items c.args.self.now c.self.view_is c.from.result c.args.s c.from.ensures c.args.def.now c.args.t c.requires.can)
    c.index_mut.ensures.value
    c.self.inside.live c.self.inside.restless c.self.invariant c.run_local.new.self (ap are_done stays) (ap are_at_rest stays)

pub returns-then-run_local-clause-ok : goal.returns-then-run_local-clause-ok
returns-then-run_local-clause-ok c =
    let ran = c.run_local.ensures.ran c.if-run_local.true in
    has_run c.self.inside.spaces.items c.args.self.now c.self.view_is c.from.result c.args.s c.from.ensures
    (runs_there c.args.self.now c.args.def.now c.args.s c.args.t c.requires.can) c.index_mut.result.now c.index_mut.ensures.value
    c.args.def.now c.args.t c.run_local.new.self c.args.roused.now.items (ap (effect c.run_local.new.self) c.requires.room.empty ∙ sym ran.effect) ran.shape

pub returns-then-run_local-clause-runs : goal.returns-then-run_local-clause-runs
returns-then-run_local-clause-runs c =
    let ran = c.run_local.ensures.ran c.if-run_local.true in
    sym (ap is_running (stays_placed c.self.inside.spaces.items c.args.self.now c.self.view_is c.from.result c.args.s c.from.ensures
    (runs_there c.args.self.now c.args.def.now c.args.s c.args.t c.requires.can) c.index_mut.result.now c.index_mut.ensures.value
    c.args.t c.run_local.new.self ran.place) ∙ c.requires.can.runs)

pub returns-then-run_local-clause-full : goal.returns-then-run_local-clause-full
returns-then-run_local-clause-full c =
    let ran = c.run_local.ensures.ran c.if-run_local.true in (
      λ failed. absurd (false≢true failed),
      λ full. absurd (ran.room (full_here c.self.inside.spaces.items c.args.self.now c.self.view_is c.from.result c.args.s c.from.ensures
          (runs_there c.args.self.now c.args.def.now c.args.s c.args.t c.requires.can) c.index_mut.result.now c.index_mut.ensures.value
          c.args.def.now c.args.t full)),
    )

pub act-requires-clause-can : goal.act-requires-clause-can
act-requires-clause-can c =
    let same =
    kept_there c.self.inside.spaces.items c.args.self.now c.self.view_is c.from.result c.args.s c.from.ensures
    (runs_there c.args.self.now c.args.def.now c.args.s c.args.t c.requires.can) c.index_mut.result.now c.index_mut.ensures.value
    c.run_local.new.self (c.run_local.ensures.other c.if-run_local.false) in
    subst (λ (spaces : List SpaceState). CanRun c.args.def.now (space_in spaces c.args.s) c.args.t) (sym same) c.requires.can

pub returns-in_err-act : goal.returns-in_err-act
returns-in_err-act c =
    let r = c.from_residual.result in
    let failed = c.from_residual.ensures.0 in
    let was = c.in_err-act.ensures in
    let same =
    kept_there c.self.inside.spaces.items c.args.self.now c.self.view_is c.from.result c.args.s c.from.ensures
    (runs_there c.args.self.now c.args.def.now c.args.s c.args.t c.requires.can) c.index_mut.result.now c.index_mut.ensures.value
    c.run_local.new.self (c.run_local.ensures.other c.if-run_local.false) in
    record {
      ok = IfOk-from_err r _ failed;
      runs = IfOk-from_err r _ failed;
      full = (
        λ _. subst (λ (spaces : List SpaceState). IsFull (space_in spaces c.args.s).sync
            (instr_in c.args.def.now (thread_in (space_in spaces c.args.s) c.args.t))) same (was.full.0 refl),
        λ _. failed,
      );
      err = on_err r (was.err.0 ∙ same, was.err.1);
      room = c.act.ensures.room;
    }

pub returns-clause-ok : goal.returns-clause-ok
returns-clause-ok c =
    let same =
    kept_there c.self.inside.spaces.items c.args.self.now c.self.view_is c.from.result c.args.s c.from.ensures
    (runs_there c.args.self.now c.args.def.now c.args.s c.args.t c.requires.can) c.index_mut.result.now c.index_mut.ensures.value
    c.run_local.new.self (c.run_local.ensures.other c.if-run_local.false) in
    subst (λ (spaces : List SpaceState). HasRun spaces c.args.def.now c.args.s c.args.t c.act.new.self c.act.new.roused.items) same c.in_ok-act.ensures.ok

pub returns-clause-full : goal.returns-clause-full
returns-clause-full c =
    let same =
    kept_there c.self.inside.spaces.items c.args.self.now c.self.view_is c.from.result c.args.s c.from.ensures
    (runs_there c.args.self.now c.args.def.now c.args.s c.args.t c.requires.can) c.index_mut.result.now c.index_mut.ensures.value
    c.run_local.new.self (c.run_local.ensures.other c.if-run_local.false) in (
      λ failed. absurd (false≢true failed),
      λ full. c.in_ok-act.ensures.full.1
          (subst (λ (spaces : List SpaceState). IsFull (space_in spaces c.args.s).sync
          (instr_in c.args.def.now (thread_in (space_in spaces c.args.s) c.args.t))) (sym same) full),
    )
