use Rattle.std.proofs.Common.{◌≡◌, ◌++◌, map, length}
use Rattle.sa_laws.specs.Closing.{claim_of, claims_of}
use Rattle.sa_check_moment.specs.Seen.{seen}
use Rattle.sa_check.proofs.EachLemmas.{from}
use Rattle.sa_check.proofs.shares.claims.Given as goal

abbrev pub invariant-loop-s : goal.invariant-loop-s
invariant-loop-s l = record {
  claims : l.claims.items ++ map (claim_of (seen l.moment).workload (seen l.moment).readings) (from l.s l.s-end)
      ≡ claims_of (seen l.moment).workload (seen l.moment).readings;
  len : length l.claims.items ≡ l.s;
}
