use Rattle.std.proofs.Common.{ap, refl}
use Rattle.sa_io.proofs.Written.{HasWritten-more, HasWritten-kept, HasWritten-prefix}
use Rattle.sa_io.proofs.adapters.StdSinkSink.write.Goals.{in-Ok, in-Err+else-ne, else-loop-test, then-loop-test+else-is_empty+in-Ok-eq0, then-loop-test+else-is_empty+in-Err+then-ne}
use Rattle.sa_io.proofs.adapters.StdSinkSink.write.Goals as goal

pub loop-preserved : goal.loop-preserved
loop-preserved g c =
    let (written, counted) = c.loop.invariant in (
      elim c.match-write.branch [
        | in-Ok w ↦ HasWritten-more _ _ _ _ _ _ _ written w.in-Ok.ensures.bytes (ap (λ r. r.now) w.rest-is)
        | in-Err+else-ne w ↦ rw (w.rest-is) (HasWritten-kept _ _ _ _ _ written w.in-Err.ensures.bytes)
      ],
      counted,
    )

pub returns-clause-err : goal.returns-clause-err
returns-clause-err g c =
    let (written, counted) = c.loop.invariant in
    rw (← c.self.view_is) (elim c.loop-test.branch [
      | else-loop-test w ↦ rw w.self-inside-is (HasWritten-prefix _ _ _ _ written)
      | then-loop-test+else-is_empty+in-Ok-eq0 w ↦
          rw w.self-inside-is (HasWritten-prefix _ _ _ _ (HasWritten-more _ _ _ _ _ _ _ written w.in-Ok-eq0.ensures.bytes refl))
      | then-loop-test+else-is_empty+in-Err+then-ne w ↦
          rw w.self-inside-is (HasWritten-prefix _ _ _ _ (HasWritten-kept _ _ _ _ _ written w.in-Err.ensures.bytes))
    ])
