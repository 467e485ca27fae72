use Rattle.std.proofs.Common.{◌<◌, false, get_or, length, ◌∙◌, arith}
use Rattle.std.proofs.lemmas.Bool.{and_left, and_right}
use Rattle.sa_driven_model.proofs.Sets.{shared_on}
use Rattle.sa_driven_model.proofs.threads.ThreadSet.shares.Goals.{else-self-t-via-then-self-t+else-others-t, else-self-t-via-else-self-t}
use Rattle.sa_driven_model.proofs.threads.ThreadSet.shares.Goals as goal

pub loop-t-preserved : goal.loop-t-preserved
loop-t-preserved c =
    let s = c.self.inside.is_in in
    let r = c.others.inside.is_in in
    let t = c.loop-t.t in
    let below : t < length s = omega (arith, c.loop-t-test.true, c.self.told) in
    let there : t < length r = omega (arith, c.loop-t-test.true, c.others.told) in
    elim c.else-self-t.branch [
      | else-self-t-via-then-self-t+else-others-t w ↦ shared_on s r t below there (and_right (get_or s t false) (get_or r t false) w.if-others-t.false) ∙ c.loop-t.invariant
      | else-self-t-via-else-self-t w ↦ shared_on s r t below there (and_left (get_or s t false) (get_or r t false) w.if-self-t.false) ∙ c.loop-t.invariant
    ]
