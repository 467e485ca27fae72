use Rattle.std.proofs.Common.{◌≡◌, List, Option, replicate, None, rules, ap, ◌∙◌}
use Rattle.sa_base.specs.declared.number.ThreadNo.{ThreadNo}
use Rattle.sa_package_model.specs.declared.package.Package.{Package}
use Rattle.sa_prio_model.specs.Prio.{Prio}
use Rattle.sa_prio.proofs.threads.PrioThreads.start.Goals as goal

-- the package of its parts
abbrev built : Package → List (Option ThreadNo) → Prio
built u on = record { base = u; on = on }

alike : (u v : Package) (on others : List (Option ThreadNo)) → u ≡ v → on ≡ others → built u on ≡ built v others
alike u v on others base threads = ap (λ x. built x on) base ∙ ap (built v) threads

pub returns : goal.returns
returns c =
    alike _ _ _ (replicate c.args.processors None) c.in_ok-base.ensures
    (c.in_ok-on.ensures.items_if_clones_equal (λ y h. search rules) ∙ ap (λ n. replicate n None) c.from.ensures)
