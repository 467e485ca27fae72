use Rattle.std.proofs.Common.{◌≡◌, ◌+◌, ℕ, length, drop, arith, sym, subst, ◌∙◌}
use Rattle.std.specs.List.{slice_range}
use Rattle.sa_workload.specs.Texts.{through_close, workload_part}
use Rattle.sa_workload.proofs.Splitting.{line-more, byte-more}
use Rattle.sa_workload.proofs.texts.workload_len.Goals as goal
use Rattle.sa_workload.proofs.texts.workload_len.Goals.{then-byte-eq10+else-is_close, else-byte-eq10}

pub loop-i-preserved : goal.loop-i-preserved
loop-i-preserved c =
    let n : ℕ = length (workload_part c.args.input.now) in
    let P : ℕ → Type 0 = λ start. c.loop-i.i + 1 + length
    (through_close (slice_range c.args.input.now start (c.loop-i.i + 1)) (drop (c.loop-i.i + 1) c.args.input.now)) ≡ n in
    elim c.if-byte-eq10.branch [
      | then-byte-eq10+else-is_close w ↦ record {
        forward = omega (arith, w.start-is);
        rest =
            subst P (sym w.start-is) (line-more c.args.input.now c.loop-i.start c.loop-i.i n c.loop-i-test.true w.if-byte-eq10.true
            (sym w.is_close.ensures ∙ w.if-is_close.false) c.loop-i.invariant.rest);
      }
      | else-byte-eq10 w ↦ record {
        forward = omega (arith, w.start-is);
        rest =
            subst P (sym w.start-is) (byte-more c.args.input.now c.loop-i.start c.loop-i.i n c.loop-i.invariant.forward c.loop-i-test.true
            w.if-byte-eq10.false c.loop-i.invariant.rest);
      }
    ]
