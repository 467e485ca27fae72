use Rattle.tests_machine.proofs.Seats.{seats_set}
use Rattle.tests_machine.proofs.rows.do_act.Goals as goal

pub returns-in-Enters : goal.returns-in-Enters
returns-in-Enters g c =
    seats_set g.K.Named.workload.processors c.in-Enters.p c.args.seats.now c.index-seats-p.result c.enter.new.seat c.requires c.enter.ensures

pub returns-in-Bursts : goal.returns-in-Bursts
returns-in-Bursts g c =
    seats_set g.K.Named.workload.processors c.in-Bursts.p c.args.seats.now c.index-seats-p-in-Bursts.result c.run_ahead.new.seat c.requires
    c.run_ahead.ensures
