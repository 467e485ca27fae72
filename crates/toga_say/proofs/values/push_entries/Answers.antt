use Rattle.std.proofs.Common.{◌++◌, ◌∙◌, ap}
use Rattle.toga_source.proofs.Loops.{numbered-more, numbered-all}
use Rattle.toga_say.specs.Values.{entry_text}
use Rattle.toga_say.proofs.values.push_entries.Goals as goal

pub loop-place-preserved : goal.loop-place-preserved
loop-place-preserved c =
    numbered-more entry_text c.args.entries.now c.loop-place.place c.index-entries-place.result c.args.out.now.items c.loop-place.out.items
    c.push_entry.new.out.items c.loop-place-test.true c.loop-place.invariant
    (c.in_ok-push_entry.ensures ∙ ap (λ x. c.loop-place.out.items ++ entry_text c.loop-place.place x) c.index-entries-place.is)

pub returns : goal.returns
returns c =
    numbered-all entry_text c.args.entries.now c.loop-place.place c.args.out.now.items c.loop-place.out.items c.loop-place-test.false c.loop-place.invariant
