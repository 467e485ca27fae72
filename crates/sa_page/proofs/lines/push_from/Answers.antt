use Rattle.std.proofs.Common.{arith}
use Rattle.sa_check_lives.specs.View.{lives_of}
use Rattle.sa_page.proofs.SaidLemmas.{said-more, said-all}
use Rattle.sa_page.proofs.lines.push_from.Goals as goal

pub loop-item-preserved : goal.loop-item-preserved
loop-item-preserved c =
    said-more c.args.workload.now (lives_of c.loop-item.lives) (lives_of c.read.new.self) c.loop-item.programs c.read-in-loop-item.new.self c.args.items.now
    c.loop-item.item-index _ c.in_copy_on.result c.instr-instr.result c.loop-item.out.items c.push_item.new.out.items _ c.loop-item-test.true c.in_copy_on.ensures
    c.instr-instr.ensures c.in_ok-read.ensures.ok c.in_ok-read-2.ensures c.in_ok-push_item.ensures c.loop-item.invariant

pub returns : goal.returns
returns c =
    said-all c.args.workload.now (lives_of c.loop-item.lives) c.loop-item.programs c.args.items.now c.loop-item.item-index c.loop-item.out.items _
    (omega (arith, c.loop-item-test.false)) c.loop-item.invariant
