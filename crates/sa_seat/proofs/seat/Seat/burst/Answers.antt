use Rattle.std.proofs.Common.{rules, ◌≡◌, Option, None, subst}
use Rattle.sa_seat.specs.declared.answer.BurstEnd.{BurstEnd}
use Rattle.sa_seat.specs.Seat.{IsStep}
use Rattle.sa_seat.proofs.Bursts.{burst-more}
use Rattle.sa_seat.proofs.seat.Seat.burst.Goals as goal

pub loop-done-preserved : goal.loop-done-preserved
loop-done-preserved g c =
    let w = g.K.Named.workload in
    let none : c.go_on.result ≡ None = search rules in
    let b = c.loop-done.invariant in record {
      burst =
          burst-more w c.args.self.now c.loop-done.self c.go_on.new.self c.loop-done._done b.burst
          (subst (λ (r : Option BurstEnd). IsStep w c.loop-done.self r c.go_on.new.self) none c.go_on.ensures);
      code = b.code;
    }
