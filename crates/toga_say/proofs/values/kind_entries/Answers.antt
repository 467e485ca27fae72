use Rattle.std.proofs.Common.{[]}
use Rattle.toga_say.specs.Values.{record_entry}
use Rattle.toga_say.proofs.Loops.{told-more, told-all}
use Rattle.toga_say.proofs.values.kind_entries.Goals as goal

pub loop-place-preserved : goal.loop-place-preserved
loop-place-preserved c =
    told-more (record_entry c.args.counts.now) c.args.kinds.now c.loop-place.place _ [] c.loop-place.entries.items c.add_kind.new.entries.items
    c.loop-place-test.true c.loop-place.invariant c.in_ok-add_kind.ensures

pub returns : goal.returns
returns c =
    told-all (record_entry c.args.counts.now) c.args.kinds.now c.loop-place.place [] c.loop-place.entries.items c.loop-place-test.false
    c.loop-place.invariant
