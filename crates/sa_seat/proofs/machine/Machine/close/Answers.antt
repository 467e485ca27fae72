use Rattle.std.proofs.Common.{refl}
use Rattle.sa_seat.specs.Closed.{ClosedView}
use Rattle.sa_seat.proofs.Closings.{is-closed}
use Rattle.sa_seat.proofs.machine.Machine.close.Goals as goal

pub returns : goal.returns
returns g c =
    let h = c.core.inside in
    let closed : ClosedView = record { items = c.into_trace.result.items; end = c.end-end.result; turns = c.join_all-turns.result } in
    is-closed g.U.UserLevel.calls g.K.Named.workload g.K.Named.table g.K.Named.budget h.core h.lines h.keeper c.join_all-turns.new.keeper c.core.invariant
    c.args.seats.items c.join_all-turns.result
    c.requires c.join_all-turns.ensures c.close.ensures closed c.into_trace.ensures c.end-end.ensures refl
