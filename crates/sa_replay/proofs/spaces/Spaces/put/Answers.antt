use Rattle.std.proofs.Common.{arith, ap, ◌∙◌}
use Rattle.sa_laws.specs.State.{SpaceState, put_thread}
use Rattle.sa_replay.specs.Running.{can_move}
use Rattle.sa_replay.specs.Spaces.{with_space_in}
use Rattle.sa_replay.proofs.ChangeLemmas.{moves_there}
use Rattle.sa_replay.proofs.SpaceChanges.{moves_within, live_few, restless_few, live_some, restless_some, counted-set, space_is, set_is}
use Rattle.sa_replay.proofs.spaces.Spaces.put.Goals as goal

pub index_mut-space-requires : goal.index_mut-space-requires
index_mut-space-requires c =
    let within =
    moves_within c.self.inside.spaces.items c.args.self.now c.self.view_is c.from.result c.args.s c.from.ensures c.args.t c.requires in
    omega (arith, c.self.inside.spaces.ok.0)

pub put-requires : goal.put-requires
put-requires c =
    ap (λ (x : SpaceState). can_move x c.args.t)
    (space_is c.self.inside.spaces.items c.args.self.now c.self.view_is c.from.result c.args.s c.from.ensures
    (moves_there c.args.self.now c.args.s c.args.t c.requires) c.index_mut-space.result.now c.index_mut-space.ensures.value)
    ∙ c.requires

pub moved-self-inside-requires-clause-some : goal.moved-self-inside-requires-clause-some
moved-self-inside-requires-clause-some c =
    rw c.are_done.ensures
    (live_some c.self.inside.spaces.items c.from.result c.index_mut-space.result.now
    (moves_within c.self.inside.spaces.items c.args.self.now c.self.view_is c.from.result c.args.s c.from.ensures c.args.t c.requires)
    c.index_mut-space.ensures.value
    c.self.inside.live c.self.inside.restless c.self.invariant)

pub moved-self-inside-requires-clause-few : goal.moved-self-inside-requires-clause-few
moved-self-inside-requires-clause-few c = live_few c.self.inside.spaces.items c.self.inside.live c.self.inside.restless c.self.invariant

pub moved-self-inside-requires-2-clause-some : goal.moved-self-inside-requires-2-clause-some
moved-self-inside-requires-2-clause-some c =
    rw c.are_at_rest.ensures
    (restless_some c.self.inside.spaces.items c.from.result c.index_mut-space.result.now
    (moves_within c.self.inside.spaces.items c.args.self.now c.self.view_is c.from.result c.args.s c.from.ensures c.args.t c.requires)
    c.index_mut-space.ensures.value
    c.self.inside.live c.self.inside.restless c.self.invariant)

pub moved-self-inside-requires-2-clause-few : goal.moved-self-inside-requires-2-clause-few
moved-self-inside-requires-2-clause-few c = restless_few c.self.inside.spaces.items c.self.inside.live c.self.inside.restless c.self.invariant

pub invariant_of-self : goal.invariant_of-self
invariant_of-self c =
    counted-set c.self.inside.spaces.items c.from.result c.index_mut-space.result.now
    (moves_within c.self.inside.spaces.items c.args.self.now c.self.view_is c.from.result c.args.s c.from.ensures c.args.t c.requires)
    c.index_mut-space.ensures.value
    c.self.inside.live c.self.inside.restless c.self.invariant c.put.new.self c.moved-self-inside.result c.moved-self-inside-2.result
    (rw (c.are_done.ensures, c.are_done-2.ensures) at c.moved-self-inside.ensures)
    (rw (c.are_at_rest.ensures, c.are_at_rest-2.ensures) at c.moved-self-inside-2.ensures)

pub returns : goal.returns
returns c =
    set_is c.self.inside.spaces.items c.args.self.now c.self.view_is c.from.result c.args.s c.from.ensures
    (moves_there c.args.self.now c.args.s c.args.t c.requires) c.put.new.self
    ∙ ap (with_space_in c.args.self.now c.args.s) (c.put.ensures
    ∙ ap (λ (x : SpaceState). put_thread c.args.place x c.args.t)
    (space_is c.self.inside.spaces.items c.args.self.now c.self.view_is c.from.result c.args.s c.from.ensures
    (moves_there c.args.self.now c.args.s c.args.t c.requires) c.index_mut-space.result.now c.index_mut-space.ensures.value))
