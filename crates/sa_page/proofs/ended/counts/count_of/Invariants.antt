use Rattle.std.proofs.Common.{◌≡◌, ◌≤◌, ◌*◌}
use Rattle.sa_page.specs.Counts.{sum_below, count_at}
use Rattle.sa_page.proofs.ended.counts.count_of.Given as goal

abbrev pub invariant-loop-s : goal.invariant-loop-s
invariant-loop-s l = record {
  is : l.n ≡ sum_below (count_at l.replay.state l.standing) l.s;
  few : l.n ≤ 65535 * l.s;
}
