use Rattle.std.proofs.Common.{◌-◌, length, take, drop, arith, length-drop, take_all}
use Rattle.std.specs.List.{flat_map}
use Rattle.sa_laws.specs.Event.{events_of}
use Rattle.toga_kinds.specs.Kinds.{turn_if, turns_of}
use Rattle.toga_kinds.proofs.Events.{turns-more, turns-all}
use Rattle.toga_kinds.proofs.history.turns.Goals as goal

pub loop-first-preserved : goal.loop-first-preserved
loop-first-preserved c =
    let others = c.in-Some.others.now in
    let n = c.with_first-len.result in
    turns-more c.in-Some.first others c.loop-first.rest.now (take (length others - n) (drop n others)) n c.loop-first.turns.items c.push_turn.new.turns.items
    (flat_map turn_if (events_of c.args.items.now)) c.in-Some.ensures c.with_first-len.ensures.len
    (take_all (length others - n) (drop n others) (omega (arith, length-drop n others))) c.in_ok-push_turn.ensures c.loop-first.invariant

pub returns : goal.returns
unfolding turns_of
returns c =
    turns-all c.loop-first.rest.now c.loop-first.turns.items (flat_map turn_if (events_of c.args.items.now)) c.in_default.ensures c.loop-first.invariant
