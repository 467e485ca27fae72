use Rattle.std.proofs.Common.{◌≡◌, ◌+◌, ◌≤◌, sum}
use Rattle.sa_share.specs.Share.{IsShare}
use Rattle.sa_share.proofs.ServingLemmas.{IsServing}
use Rattle.sa_share.proofs.serve.Given as goal

abbrev pub invariant-loop-rank : goal.invariant-loop-rank
invariant-loop-rank l = record {
  shares : IsShare (sum l.shares) l.first l.claims l.shares;
  given : sum l.shares ≡ sum l.fn.shares + l.given;
  few : l.given ≤ l.left;
  serving : IsServing l.priority l.rank l.first l.claims l.fn.shares l.shares;
}
