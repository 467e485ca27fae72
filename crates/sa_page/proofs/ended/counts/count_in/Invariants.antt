use Rattle.std.proofs.Common.{◌≡◌, ◌≤◌}
use Rattle.sa_page.specs.Counts.{sum_below, stands_so}
use Rattle.sa_page.proofs.ended.counts.count_in.Given as goal

abbrev pub invariant-loop-t : goal.invariant-loop-t
invariant-loop-t l = record {
  is : l.n ≡ sum_below (stands_so l.replay.state l.standing l.s) l.t;
  few : l.n ≤ l.t;
}
