use Rattle.std.proofs.Common.{◌∷◌, [], ap, ◌∙◌}
use Rattle.sa_gen.specs.Generated.{main_program, workers_of}
use Rattle.sa_lemmas.proofs.Options.{there-where}
use Rattle.sa_gen.proofs.Loads.{space_with}
use Rattle.sa_gen.proofs.load.space.Goals as goal

pub unwrap-requires : goal.unwrap-requires
unwrap-requires c =
    there-where _ _ _ c.new-2.ensures (space_with c.args.n c.args.k _ _ _ c.in_ok-sems.ensures.items c.new.ensures.items
    (c.in_ok-programs.ensures.items ∙ ap (λ x. x ∷ c.in_ok-worker.worker ∷ []) c.in_ok-main.ensures
    ∙ ap (λ x. main_program (workers_of c.args.n) ∷ x ∷ []) c.in_ok-worker.ensures))
