use Rattle.std.proofs.Common.{◌++◌, ◌∙◌, ◌∷◌, [], ap}
use Rattle.std.specs.List.{flat_map, enumerate_from}
use Rattle.sa_laws.specs.State.{space_at}
use Rattle.toga_say.specs.Scene.{SceneView}
use Rattle.toga_say.specs.Values.{cell_entry}
use Rattle.toga_say.proofs.Loops.{told-more, told-all}
use Rattle.toga_say.proofs.values.add_cells.Goals as goal

pub loop-place-preserved : goal.loop-place-preserved
loop-place-preserved c =
    told-more (λ n v. cell_entry c.args.scene.now c.args.own.now n v ∷ []) c.cells-cells.result.now c.loop-place.place _ c.args.entries.now.items
    c.loop-place.entries.items c.push.new.self.items c.loop-place-test.true c.loop-place.invariant
    (c.in_ok-push.ensures.items ∙ ap (λ e. c.loop-place.entries.items ++ e ∷ []) c.in_ok-cell_entry.ensures)

pub returns : goal.returns
returns c =
    told-all (λ n v. cell_entry c.args.scene.now c.args.own.now n v ∷ []) c.cells-cells.result.now c.loop-place.place c.args.entries.now.items
    c.loop-place.entries.items c.loop-place-test.false c.loop-place.invariant
    ∙ ap (λ cells. c.args.entries.now.items ++ flat_map (λ x. cell_entry c.args.scene.now c.args.own.now x.0 x.1 ∷ []) (enumerate_from 0 cells))
    (c.cells-cells.ensures ∙ ap (λ sync. sync.cells) c.sync.ensures
    ∙ ap (λ (scene : SceneView). (space_at scene.replay.state c.args.s).sync.cells) c.scene.view_is)
