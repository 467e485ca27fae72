use Rattle.std.proofs.Common.{◌∙◌, arith}
use Rattle.sa_kernel_model.proofs.parts.Closings.{one-said}
use Rattle.sa_kernel.proofs.start.say_wants.Goals as goal

pub loop-s-preserved : goal.loop-s-preserved
loop-s-preserved c = record {
  items = one-said c.loop-s.s c.args.spaces c.loop-s.trace.items c.say.new.self.items c.loop-s-test.true c.say.ensures.items ∙ c.loop-s.invariant.items;
  cost = omega arith;
  same = omega arith;
}
