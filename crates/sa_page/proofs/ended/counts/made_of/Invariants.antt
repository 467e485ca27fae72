use Rattle.std.proofs.Common.{◌≡◌, ◌≤◌, ◌*◌}
use Rattle.sa_page.specs.Counts.{sum_below, made_at}
use Rattle.sa_page.proofs.ended.counts.made_of.Given as goal

abbrev pub invariant-loop-s : goal.invariant-loop-s
invariant-loop-s l = record {
  is : l.n ≡ sum_below (made_at l.replay.state) l.s;
  few : l.n ≤ 65535 * l.s;
}
