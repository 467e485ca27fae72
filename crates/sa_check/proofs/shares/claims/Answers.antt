use Rattle.std.proofs.Common.{◌+◌, ◌++◌, List, map, length, ◌∙◌, ap, arith}
use Rattle.sa_share.specs.declared.Claim.{Claim}
use Rattle.sa_laws.specs.Closing.{claim_of}
use Rattle.sa_check_moment.specs.Seen.{seen}
use Rattle.sa_check.proofs.EachLemmas.{from, one-mapped}
use Rattle.sa_check.proofs.shares.claims.Goals as goal

pub loop-s-preserved : goal.loop-s-preserved
loop-s-preserved c =
    let m = seen c.args.moment.now in
    let n = length c.spaces-s-end.result.now in
    let s = c.loop-s.s in
    record {
      claims = ap (λ (xs : List Claim). xs ++ map (claim_of m.workload m.readings) (from (s + 1) n)) c.push.ensures.items
          ∙ one-mapped (claim_of m.workload m.readings) s n c.loop-s.claims.items c.claim.result c.loop-s-test.true c.claim.ensures ∙ c.loop-s.invariant.claims;
      len = (let old = c.loop-s.invariant.len in let new = c.push.ensures.len in omega arith);
    }
