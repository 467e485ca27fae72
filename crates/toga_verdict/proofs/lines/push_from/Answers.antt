use Rattle.std.proofs.Common.{arith}
use Rattle.toga_verdict.proofs.NearLemmas.{near-more, near-all}
use Rattle.toga_verdict.proofs.lines.push_from.Goals as goal

pub loop-item-preserved : goal.loop-item-preserved
loop-item-preserved c =
    near-more c.args.source.now c.loop-item.programs c.read.new.self c.args.event c.args.items.now c.loop-item.item-index _ c.instr_of-instr.result
    c.loop-item.out.items c.push_near.new.out.items _ c.loop-item-test.true c.instr_of-instr.ensures c.in_ok-read.ensures c.in_ok-push_near.ensures
    c.loop-item.invariant

pub returns : goal.returns
returns c =
    near-all c.args.source.now c.loop-item.programs c.args.event c.args.items.now c.loop-item.item-index c.loop-item.out.items _
    (omega (arith, c.loop-item-test.false)) c.loop-item.invariant
