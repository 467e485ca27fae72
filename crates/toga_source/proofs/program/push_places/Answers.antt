use Rattle.std.proofs.Common.{◌++◌, ◌<◌, ◌≤◌, ◌∙◌, ap, subst}
use Rattle.toga_source.specs.Show.{place_text}
use Rattle.toga_source.proofs.Loops.{numbered-more, numbered-all}
use Rattle.toga_source.proofs.program.push_places.Goals as goal

pub loop-place-preserved : goal.loop-place-preserved
loop-place-preserved c =
    numbered-more (place_text c.args.names.now c.args.labels.now) c.args.program.now c.loop-place.place _ _ _ _
    (subst (λ len. c.loop-place.place < len) c.len-place-end.ensures.len c.loop-place-test.true) c.loop-place.invariant
    (c.in_ok-push_place.ensures
    ∙ ap (λ i. c.loop-place.out.items ++ place_text c.args.names.now c.args.labels.now c.loop-place.place i) c.at.ensures.instr)

pub returns : goal.returns
returns c =
    numbered-all (place_text c.args.names.now c.args.labels.now) c.args.program.now c.loop-place.place _ _
    (subst (λ len. len ≤ c.loop-place.place) c.len-place-end.ensures.len c.loop-place-test.false) c.loop-place.invariant
