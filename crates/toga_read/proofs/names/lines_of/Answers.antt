use Rattle.std.proofs.Common.{List, [], ◌++◌, ◌∙◌, ap}
use Rattle.std.specs.List.{flat_map}
use Rattle.toga_draft.specs.Draft.{ProgramDraftView, SpaceDraftView}
use Rattle.toga_read.specs.Names.{program_lines, space_lines}
use Rattle.sa_lemmas.proofs.Appends.{list-more, list-all}
use Rattle.toga_read.proofs.names.lines_of.Goals as goal

pub loop-space-preserved : goal.loop-space-preserved
loop-space-preserved c =
    list-more space_lines c.args.spaces.now c.loop-space.space-index c.space-item.result [] c.loop-space.lines.items c.push_space_lines.new.lines.items
    c.loop-space-test.true c.loop-space.invariant
    (c.in_ok-push_space_lines.ensures
    ∙ ap (λ (programs : List ProgramDraftView). c.loop-space.lines.items ++ flat_map program_lines programs)
    (c.deref.ensures.value ∙ ap (λ (s : SpaceDraftView). s.programs) (c.space.view_is ∙ c.space-item.is)))

pub returns : goal.returns
returns c = list-all space_lines c.args.spaces.now c.loop-space.space-index [] c.loop-space.lines.items c.loop-space-test.false c.loop-space.invariant
