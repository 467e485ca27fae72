use Rattle.std.proofs.Common.{◌∙◌, arith}
use Rattle.std.proofs.lemmas.Grind.{common_steps}
use Rattle.sa_acts.proofs.RoomLemmas.{numbers-grown, room-grown, first-grown, all-have-room}
use Rattle.sa_acts.proofs.acts.reserve_all.Goals as goal

pub loop-s-preserved : goal.loop-s-preserved
loop-s-preserved c =
    let grown = c.reserve_one.ensures.grown in (
      numbers-grown c.loop-s.queues c.reserve_one.new.queues c.loop-s.s grown ∙ c.loop-s.invariant.0,
      (λ n each. room-grown c.loop-s.queues c.reserve_one.new.queues c.loop-s.s n grown (c.loop-s.invariant.1 n each)),
      first-grown c.loop-s.queues c.reserve_one.new.queues c.loop-s.s c.args.room grown c.in_ok-reserve_one.ensures.ok c.loop-s.invariant.2,
    )

pub returns-in_err-reserve_one-clause-numbers : goal.returns-in_err-reserve_one-clause-numbers
returns-in_err-reserve_one-clause-numbers c =
    numbers-grown c.loop-s.queues c.reserve_one.new.queues c.loop-s.s c.reserve_one.ensures.grown ∙ c.loop-s.invariant.0

pub returns-in_err-reserve_one-clause-grows : goal.returns-in_err-reserve_one-clause-grows
returns-in_err-reserve_one-clause-grows c =
    λ n each. room-grown c.loop-s.queues c.reserve_one.new.queues c.loop-s.s n c.reserve_one.ensures.grown (c.loop-s.invariant.1 n each)

pub returns-clause-ok : goal.returns-clause-ok
returns-clause-ok c =
    all-have-room c.loop-s.queues c.loop-s.s c.args.room (grind (arith, common_steps)) c.loop-s.invariant.2
