use Rattle.std.proofs.Common.{◌<◌, sym, ap, subst, arith}
use Rattle.sa_lines.specs.declared.credit.Account.{Account}
use Rattle.sa_seat.specs.Seat.{SeatView}
use Rattle.sa_workers.specs.Worker.{HasWorked}
use Rattle.sa_workers.proofs.Acts.{worked_ahead, worked_round}
use Rattle.sa_workers.proofs.worker.work.Goals as goal

pub returns-in_err-enter-clause-worked : goal.returns-in_err-enter-clause-worked
returns-in_err-enter-clause-worked g c =
    let w = g.K.Named.workload in
    subst (λ (s : SeatView). HasWorked w c.args.quota c.args.burst c.args.seat.now s) (sym c.in_err-enter.ensures.err)
    (worked_ahead w c.args.quota c.args.burst c.loop-seat.ahead c.args.seat.now c.loop-seat.seat c.run_ahead.new.seat
    c.loop-seat.invariant.worked c.run_ahead.ensures)

pub loop-seat-preserved-in-Turned : goal.loop-seat-preserved-in-Turned
loop-seat-preserved-in-Turned g c =
    let count = ap (λ (a : Account). a.count) c.account.ensures in
    let test = c.loop-seat-test.true in
    let left : c.loop-seat.seat.poller.account.count < c.args.quota = omega (arith, count, test) in record {
      worked = worked_round g.K.Named.workload c.args.quota c.args.burst c.loop-seat.ahead c.args.seat.now c.loop-seat.seat c.run_ahead.new.seat
          c.enter.new.seat _ c.loop-seat.invariant.worked c.run_ahead.ensures left c.in_ok-enter.ensures.ok;
      entered = λ no. absurd cc;
    }

pub loop-seat-preserved : goal.loop-seat-preserved
loop-seat-preserved g c =
    let count = ap (λ (a : Account). a.count) c.account.ensures in
    let test = c.loop-seat-test.true in
    let left : c.loop-seat.seat.poller.account.count < c.args.quota = omega (arith, count, test) in record {
      worked = worked_round g.K.Named.workload c.args.quota c.args.burst c.loop-seat.ahead c.args.seat.now c.loop-seat.seat c.run_ahead.new.seat
          c.enter.new.seat _ c.loop-seat.invariant.worked c.run_ahead.ensures left c.in_ok-enter.ensures.ok;
      entered = λ dropped. ap (λ (s : SeatView). s.pending) c.in_ok-enter.ensures.ok.seat_is;
    }

pub returns-in-Ended-clause-worked : goal.returns-in-Ended-clause-worked
returns-in-Ended-clause-worked g c =
    let count = ap (λ (a : Account). a.count) c.account.ensures in
    let test = c.loop-seat-test.true in
    let left : c.loop-seat.seat.poller.account.count < c.args.quota = omega (arith, count, test) in
    worked_round g.K.Named.workload c.args.quota c.args.burst c.loop-seat.ahead c.args.seat.now c.loop-seat.seat c.run_ahead.new.seat
    c.enter.new.seat _ c.loop-seat.invariant.worked c.run_ahead.ensures left c.in_ok-enter.ensures.ok
