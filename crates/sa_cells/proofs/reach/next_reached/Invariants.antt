use Rattle.std.proofs.Common.{◌≡◌, drop}
use Rattle.sa_cells.specs.Stays.{next_reached}
use Rattle.sa_cells.proofs.reach.next_reached.Given as goal

abbrev pub invariant-loop-what : goal.invariant-loop-what
invariant-loop-what l = next_reached l.calm l.s l.from l.end l.records ≡ next_reached l.calm l.s l.from l.next (drop l.what-index l.records)
