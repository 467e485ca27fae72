use Rattle.std.specs.List.{flat_map}
use Rattle.std.proofs.Common.{◌++◌, ◌∙◌, ap}
use Rattle.sa_lemmas.proofs.Appends.{list-more, list-all}
use Rattle.sa_workload.specs.Text.{line_text, space_lines}
use Rattle.sa_workload.proofs.printing.push_spaces.Goals as goal

pub loop-space-preserved : goal.loop-space-preserved
loop-space-preserved c =
    list-more (λ s. flat_map line_text (space_lines c.args.version s)) c.args.spaces.now c.loop-space.space-index c.space-item.result _ _ _
    c.loop-space-test.true c.loop-space.invariant
    (c.in_ok-push_space.ensures ∙ ap (λ s. c.loop-space.out.items ++ flat_map line_text (space_lines c.args.version s)) c.space-item.is)

pub returns : goal.returns
returns c =
    list-all (λ s. flat_map line_text (space_lines c.args.version s)) c.args.spaces.now c.loop-space.space-index _ _ c.loop-space-test.false
    c.loop-space.invariant
