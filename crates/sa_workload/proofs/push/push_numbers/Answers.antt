use Rattle.std.proofs.Common.{◌∷◌, [], decimal}
use Rattle.sa_lemmas.proofs.Appends.{list-more, list-all}
use Rattle.sa_lemmas.proofs.Texts.{appended_twice}
use Rattle.sa_workload.proofs.push.push_numbers.Goals as goal

pub loop-n-preserved : goal.loop-n-preserved
loop-n-preserved c =
    list-more (λ n. 32 ∷ decimal n) c.args.numbers.now c.loop-n.n-index 0 _ _ _ c.loop-n-test.true c.loop-n.invariant
    (appended_twice _ (32 ∷ []) _ _ _ c.in_ok-extend_from_slice.ensures.items c.in_ok-print_number.ensures.ok)

pub returns : goal.returns
returns c = list-all (λ n. 32 ∷ decimal n) c.args.numbers.now c.loop-n.n-index _ _ c.loop-n-test.false c.loop-n.invariant
