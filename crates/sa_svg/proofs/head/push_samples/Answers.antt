use Rattle.std.proofs.Common.{arith}
use Rattle.sa_svg.specs.Head.{sample_text}
use Rattle.sa_svg.proofs.Appends.{list-more, list-all}
use Rattle.sa_svg.proofs.head.push_samples.Goals as goal

pub loop-entry-preserved : goal.loop-entry-preserved
loop-entry-preserved c =
    list-more sample_text c.args.samples.now c.loop-entry.entry-index _ c.args.out.now.items
    c.loop-entry.out.items c.push_sample.new.out.items c.loop-entry-test.true c.loop-entry.invariant c.in_ok-push_sample.ensures

pub returns : goal.returns
returns c =
    list-all sample_text c.args.samples.now c.loop-entry.entry-index c.args.out.now.items c.loop-entry.out.items
    (omega (arith, c.loop-entry-test.false)) c.loop-entry.invariant
