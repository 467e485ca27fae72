use Rattle.std.proofs.Common.{◌∙◌, arith}
use Rattle.sa_kernel.specs.View.{scene_of}
use Rattle.sa_kernel_model.specs.Closing.{want_for}
use Rattle.sa_kernel_model.proofs.parts.Closings.{one-served}
use Rattle.sa_kernel.proofs.parts.Parts.want_all.Goals as goal

pub loop-s-preserved : goal.loop-s-preserved
loop-s-preserved g c =
    let room = c.loop-s.invariant.room in
    let spent = c.want_one.ensures.room in
    record {
      exact =
          one-served (want_for c.args.event c.args.p) c.loop-s.s c.len-s-end.result
          (scene_of c.loop-s.self c.loop-s.trace) _ c.loop-s-test.true c.want_one.ensures.exact
          ∙ c.loop-s.invariant.exact;
      sizes = c.want_one.ensures.sizes;
      spaces = c.want_one.ensures.spaces ∙ c.loop-s.invariant.spaces;
      room = record { notices = omega arith; acts = omega arith; ios = omega arith; count = omega arith; used = omega arith };
      cost = omega arith;
      same = omega arith;
    }
