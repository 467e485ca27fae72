use Rattle.std.proofs.Common.{◌≡◌, ◌-◌, ◌+◌, [], ◌∷◌, ◌++◌, ap, ◌∙◌, arith, length}
use Rattle.std.proofs.lemmas.List.{length_push}
use Rattle.sa_kernel.specs.View.{state_of}
use Rattle.sa_kernel_model.specs.Closing.{claims_from}
use Rattle.sa_kernel_model.proofs.parts.Closings.{one-claimed}
use Rattle.sa_kernel.proofs.parts.Parts.claims.Goals as goal

pub loop-s-preserved : goal.loop-s-preserved
loop-s-preserved g c =
    let k = state_of c.args.self.now in
    let s = c.loop-s.s in
    let n = c.len-s-end.result in
    let before = c.loop-s.claims.items in
    let pushed : c.push.new.self.items ≡ before ++ c.claim.result ∷ [] = cc in
    record {
      claims = ap (λ xs. xs ++ claims_from k (s + 1) (n - (s + 1))) pushed
          ∙ one-claimed k s n before c.claim.result c.loop-s-test.true c.claim.ensures
          ∙ c.loop-s.invariant.claims;
      len = (let e = ap length pushed in let f = length_push before c.claim.result in omega arith);
    }
