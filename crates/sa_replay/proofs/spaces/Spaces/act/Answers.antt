use Rattle.std.proofs.Common.{arith, ap, refl}
use Rattle.std.proofs.lemmas.Bool.{false≢true}
use Rattle.std.proofs.lemmas.Result.{IfOk-from_err}
use Rattle.sa_lemmas.proofs.Results.{on_err}
use Rattle.sa_laws.specs.Ends.{are_done, are_at_rest}
use Rattle.sa_replay.proofs.SpaceChanges.{runs_within, runs_there, live_few, restless_few, live_some, restless_some, counted-set, counted-kept, can_run, has_run, kept_there, full_there, full_here}
use Rattle.sa_replay.proofs.spaces.Spaces.act.Goals as goal

pub index_mut-space-requires : goal.index_mut-space-requires
index_mut-space-requires c =
    let within =
    runs_within c.self.inside.spaces.items c.args.self.now c.self.view_is c.from.result c.args.s c.from.ensures c.args.def.now c.args.t c.requires.can in
    omega (arith, c.self.inside.spaces.ok.0)

pub run-requires-clause-can : goal.run-requires-clause-can
run-requires-clause-can c =
    can_run c.self.inside.spaces.items c.args.self.now c.self.view_is c.from.result c.args.s c.from.ensures
    (runs_there c.args.self.now c.args.def.now c.args.s c.args.t c.requires.can) c.index_mut-space.result.now c.index_mut-space.ensures.value
    c.args.def.now c.args.t c.requires.can

pub invariant_of-self : goal.invariant_of-self
invariant_of-self c =
    counted-kept c.self.inside.spaces.items c.from.result c.index_mut-space.result.now
    (runs_within c.self.inside.spaces.items c.args.self.now c.self.view_is c.from.result c.args.s c.from.ensures c.args.def.now c.args.t c.requires.can)
    c.index_mut-space.ensures.value
    c.self.inside.live c.self.inside.restless c.self.invariant c.run.new.self (ap are_done c.in_err-run.ensures.err.0)
    (ap are_at_rest c.in_err-run.ensures.err.0)

pub moved-self-inside-requires-clause-some : goal.moved-self-inside-requires-clause-some
moved-self-inside-requires-clause-some c =
    rw c.are_done.ensures
    (live_some c.self.inside.spaces.items c.from.result c.index_mut-space.result.now
    (runs_within c.self.inside.spaces.items c.args.self.now c.self.view_is c.from.result c.args.s c.from.ensures c.args.def.now c.args.t c.requires.can)
    c.index_mut-space.ensures.value
    c.self.inside.live c.self.inside.restless c.self.invariant)

pub moved-self-inside-requires-clause-few : goal.moved-self-inside-requires-clause-few
moved-self-inside-requires-clause-few c = live_few c.self.inside.spaces.items c.self.inside.live c.self.inside.restless c.self.invariant

pub moved-self-inside-requires-2-clause-some : goal.moved-self-inside-requires-2-clause-some
moved-self-inside-requires-2-clause-some c =
    rw c.are_at_rest.ensures
    (restless_some c.self.inside.spaces.items c.from.result c.index_mut-space.result.now
    (runs_within c.self.inside.spaces.items c.args.self.now c.self.view_is c.from.result c.args.s c.from.ensures c.args.def.now c.args.t c.requires.can)
    c.index_mut-space.ensures.value
    c.self.inside.live c.self.inside.restless c.self.invariant)

pub moved-self-inside-requires-2-clause-few : goal.moved-self-inside-requires-2-clause-few
moved-self-inside-requires-2-clause-few c = restless_few c.self.inside.spaces.items c.self.inside.live c.self.inside.restless c.self.invariant

pub invariant_of-self-2 : goal.invariant_of-self-2
invariant_of-self-2 c =
    counted-set c.self.inside.spaces.items c.from.result c.index_mut-space.result.now
    (runs_within c.self.inside.spaces.items c.args.self.now c.self.view_is c.from.result c.args.s c.from.ensures c.args.def.now c.args.t c.requires.can)
    c.index_mut-space.ensures.value
    c.self.inside.live c.self.inside.restless c.self.invariant c.run.new.self c.moved-self-inside.result c.moved-self-inside-2.result
    (rw (c.are_done.ensures, c.are_done-2.ensures) at c.moved-self-inside.ensures)
    (rw (c.are_at_rest.ensures, c.are_at_rest-2.ensures) at c.moved-self-inside-2.ensures)

pub returns-clause-ok : goal.returns-clause-ok
returns-clause-ok c =
    has_run c.self.inside.spaces.items c.args.self.now c.self.view_is c.from.result c.args.s c.from.ensures
    (runs_there c.args.self.now c.args.def.now c.args.s c.args.t c.requires.can) c.index_mut-space.result.now c.index_mut-space.ensures.value
    c.args.def.now c.args.t c.run.new.self c.run.new.roused.items c.in_ok-run.ensures.ok c.in_ok-run.ensures.shape

pub returns-in_err-run : goal.returns-in_err-run
returns-in_err-run c =
    let r = c.from_residual.result in
    let failed = c.from_residual.ensures.0 in
    let was = c.in_err-run.ensures in
    let same =
    kept_there c.self.inside.spaces.items c.args.self.now c.self.view_is c.from.result c.args.s c.from.ensures
    (runs_there c.args.self.now c.args.def.now c.args.s c.args.t c.requires.can) c.index_mut-space.result.now c.index_mut-space.ensures.value
    c.run.new.self was.err.0 in
    record {
      ok = IfOk-from_err r _ failed;
      full = (
        λ _. full_there c.self.inside.spaces.items c.args.self.now c.self.view_is c.from.result c.args.s c.from.ensures
            (runs_there c.args.self.now c.args.def.now c.args.s c.args.t c.requires.can) c.index_mut-space.result.now c.index_mut-space.ensures.value
            c.args.def.now c.args.t (was.full.0 refl),
        λ _. failed,
      );
      err = on_err r (same, was.err.1);
      room = c.run.ensures.room;
    }

pub returns-clause-full : goal.returns-clause-full
returns-clause-full c = (
  λ failed. absurd (false≢true failed),
  λ full. c.in_ok-run.ensures.full.1 (full_here c.self.inside.spaces.items c.args.self.now c.self.view_is c.from.result c.args.s c.from.ensures
      (runs_there c.args.self.now c.args.def.now c.args.s c.args.t c.requires.can) c.index_mut-space.result.now c.index_mut-space.ensures.value
      c.args.def.now c.args.t full),
)
