use Rattle.sa_shapes.proofs.Walks.{drop-next, stretches-changed, stretches-unchanged}
use Rattle.sa_shapes.proofs.stretches.push_stretches.Goals as goal
use Rattle.sa_shapes.proofs.stretches.push_stretches.Goals.{in-Some+in_ok-push_closed, in_default}

pub loop-k-preserved : goal.loop-k-preserved
loop-k-preserved c =
    let split = drop-next c.args.items.now c.loop-k.k _ c.loop-k-test.true in
    elim c.match-change.branch [
      | in-Some+in_ok-push_closed w ↦
          rw (w.out-is, w.going-is)
          (stretches-changed c.args.window c.args.track c.loop-k.going c.loop-k.k _ _ _ _ _ _ _ _ split w.in-Some.ensures
          (cc) w.in_ok-push_closed.ensures c.loop-k.invariant)
      | in_default w ↦
          rw (w.out-is, w.going-is)
          (stretches-unchanged c.args.window c.args.track c.loop-k.going c.loop-k.k _ _ _ _ _ split w.in_default.ensures c.loop-k.invariant)
    ]
