use Rattle.std.proofs.Common.{◌≡◌, ◌+◌, ◌-◌, ◌++◌, length, ap, ◌∙◌, arith}
use Rattle.std.proofs.lemmas.List.{length_push}
use Rattle.sa_base.specs.Items.{items_from}
use Rattle.sa_fast.specs.Threads.{gone_to}
use Rattle.sa_package_model.specs.Step.{says_between}
use Rattle.sa_package.proofs.LocalRuns.{block-more, items-more}
use Rattle.sa_driven.proofs.instruction.run_on.Goals as goal

pub loop-done-preserved : goal.loop-done-preserved
loop-done-preserved c =
    let a = c.args in let b = c.loop-done.block in let inv = c.loop-done.invariant in
    let done = c.loop-done.done in let next = a.seen.now.event + (done + 1) in
    let after = says_between a.space a.thread a.program.now in
    let here : next ≡ a.seen.now.event + c.from.result + 1 = omega (arith, c.from.ensures) in
    let longer : length c.say.new.self.items ≡ length c.loop-done.trace.items + 1 = ap length c.say.ensures.items ∙ length_push c.loop-done.trace.items _ in
    record {
      place = c.local.ensures.within;
      spare = omega (arith, longer, c.say.ensures.room.same, inv.spare);
      block = block-more a.program.now b c.local.new.pc c.local.new.regs a.n done c.loop-done-test.true c.local.ensures.pc c.local.ensures.regs ∙ inv.block;
      items =
          ap (λ xs. xs ++ items_from next a.seen.now.proc (after (a.n - (done + 1)) (gone_to b c.local.new.pc c.local.new.regs))) c.say.ensures.items
          ∙ items-more a.program.now b c.local.new.pc c.local.new.regs a.n done c.loop-done-test.true c.local.ensures.pc c.local.ensures.regs a.space
          a.thread a.seen.now.proc (a.seen.now.event + c.from.result) next c.loop-done.trace.items here
          ∙ ap (λ k. c.loop-done.trace.items ++ items_from (a.seen.now.event + k) a.seen.now.proc (after (a.n - done) b)) c.from.ensures
          ∙ inv.items;
    }
