use Rattle.std.proofs.Common.{map, ◌∷◌, [], ◌++◌, sym, ap, ◌∙◌, arith}
use Rattle.std.specs.List.{range_with_len}
use Rattle.std.proofs.lemmas.List.FromFn.{map-range_with_len_more}
use Rattle.sa_gen.specs.Generated.{generated_space}
use Rattle.sa_gen.proofs.load.spaces.Goals as goal

pub loop-k-preserved : goal.loop-k-preserved
loop-k-preserved c =
    c.in_ok-push.ensures.items ∙ ap (λ xs. xs ++ c.in_ok-space.field-0 ∷ []) c.loop-k.invariant
    ∙ ap (λ x. map (generated_space c.args.n) (range_with_len 0 c.loop-k.k) ++ x ∷ []) c.in_ok-space.ensures
    ∙ sym (map-range_with_len_more (generated_space c.args.n) 0 c.loop-k.k c.loop-k.k (omega arith))
