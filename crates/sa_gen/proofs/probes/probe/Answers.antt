use Rattle.std.proofs.Common.{◌∷◌, [], ap, ◌∙◌}
use Rattle.sa_lemmas.proofs.Options.{there-where}
use Rattle.sa_gen.proofs.ProbeLemmas.{probe_with}
use Rattle.sa_gen.proofs.probes.probe.Goals as goal

pub unwrap-requires : goal.unwrap-requires
unwrap-requires c =
    there-where _ _ _ c.new-2.ensures
    (probe_with c.args.k _ _ _ c.requires (c.in_ok-spaces.ensures.items ∙ ap (λ x. x ∷ []) c.in_ok-space.ensures) c.new.ensures.items c.in_ok-turns.ensures)
