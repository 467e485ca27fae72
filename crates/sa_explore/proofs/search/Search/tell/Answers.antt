use Rattle.std.proofs.Common.{length, ap, arith}
use Rattle.sa_explore.proofs.Doings.{short-way}
use Rattle.sa_explore.proofs.search.Search.tell.Goals as goal

pub overflow_cast-len : goal.overflow_cast-len
overflow_cast-len g c =
    let short = short-way c.states-states.result.now c.args.at in
    let size = ap length c.in_ok-way.ensures in
    let len = c.len.ensures in
    let items = c.in_ok-way.way.ok.0 in
    let fits = c.ranges.at.fits in
    omega (arith, short, size, len, items, fits)
