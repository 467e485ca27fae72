use Rattle.std.proofs.Common.{◌≡◌, ◌+◌, ◌<◌, sum}
use Rattle.sa_share.specs.Share.{IsShare}
use Rattle.sa_share.specs.Serving.{IsLevel}
use Rattle.sa_share.proofs.shares_in_rounds.Given as goal

abbrev pub invariant-loop-left : goal.invariant-loop-left
invariant-loop-left l = record {
  shares : IsShare (sum l.shares) l.first l.claims l.shares;
  given : sum l.shares + l.left ≡ l.processors;
  level : 0 < l.left → IsLevel l.claims l.shares;
}

abbrev pub decreases-loop-left : goal.decreases-loop-left
decreases-loop-left l = l.left
