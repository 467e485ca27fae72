use Rattle.std.proofs.Common.{◌==◌, sym, ap, ap₂, ◌∙◌, ◌&&◌, take_all}
use Rattle.std.specs.List.{list_all}
use Rattle.std.proofs.lemmas.Bool.{ne_eqb, eq-eqb}
use Rattle.std.proofs.lemmas.List.Folds.{list_all_more, list_all_at}
use Rattle.sa_spaces.specs.Space.{SpaceView}
use Rattle.sa_workload.proofs.table.are_impatient.Goals as goal

pub returns-then-patience-ne1 : goal.returns-then-patience-ne1
returns-then-patience-ne1 c =
    sym (list_all_at (λ (s : SpaceView). s.patience == 1) c.args.spaces.now c.loop-space.space-index c.space-item.result c.loop-space-test.true
    (ap (λ (s : SpaceView). s.patience == 1) (sym c.space-item.is) ∙ ap (λ n. n == 1) (sym c.patience.ensures.value)
    ∙ ne_eqb c.patience.result 1 c.if-patience-ne1.true))

pub loop-space-preserved : goal.loop-space-preserved
loop-space-preserved c =
    list_all_more (λ (s : SpaceView). s.patience == 1) c.args.spaces.now c.loop-space.space-index c.space-item.result c.loop-space-test.true
    ∙ ap₂ ◌&&◌ c.loop-space.invariant
    (ap (λ (s : SpaceView). s.patience == 1) (sym c.space-item.is) ∙ ap (λ n. n == 1) (sym c.patience.ensures.value)
    ∙ eq-eqb c.patience.result 1 c.if-patience-ne1.false)

pub returns : goal.returns
returns c =
    sym c.loop-space.invariant
    ∙ ap (list_all (λ (s : SpaceView). s.patience == 1)) (take_all c.loop-space.space-index c.args.spaces.now c.loop-space-test.false)
