use Rattle.std.proofs.Common.{◌+◌, ◌≤◌, length, arith}
use Rattle.sa_trace_events.proofs.Lists.{resized-on}
use Rattle.sa_trace_events.proofs.touches.reach.Goals as goal

pub returns-then-len-clause-same : goal.returns-then-len-clause-same
returns-then-len-clause-same c =
    let on = c.args.on.now in
    let small : length on.items ≤ c.from-len.result + 1 = omega arith in
    resized-on c.resize.result on.items c.resize.new.self.items (c.from-len.result + 1) on.len small c.resize.ensures.items
