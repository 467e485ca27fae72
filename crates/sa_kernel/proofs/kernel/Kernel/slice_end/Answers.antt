use Rattle.std.proofs.Common.{◌+◌, ◌<◌, ◌≤◌, ap, subst, arith}
use Rattle.sa_kernel.specs.Kept.{KernelView, kernel_of}
use Rattle.sa_kernel_model.specs.Owed.{owed_items}
use Rattle.sa_kernel.specs.View.{state_of}
use Rattle.sa_kernel.proofs.Kept.{kept-closed, owed-slice}
use Rattle.sa_kernel.proofs.Lawful.{lawful-slice}
use Rattle.sa_kernel.proofs.kernel.Kernel.slice_end.Goals as goal

pub lows-self-inside-requires : goal.lows-self-inside-requires
lows-self-inside-requires g c =
    let k = c.self.inside in
    let last = ap (λ (v : KernelView g.row.C.Denot). v.last) c.self.view_is in
    let later : k.last < c.args.event = omega arith in
    (kept-closed k.parts c.close.new.self c.args.trace.now c.close.new.trace c.args.event k.spare k.last c.args.p c.close.ensures.exact c.close.ensures.room
    later c.requires.event c.self.invariant.kept).sound.formed

pub invariant_of-self : goal.invariant_of-self
invariant_of-self g c =
    let k = c.self.inside in
    let last = ap (λ (v : KernelView g.row.C.Denot). v.last) c.self.view_is in
    let later : k.last < c.args.event = omega arith in
    record {
      kept =
          kept-closed k.parts c.close.new.self c.args.trace.now c.close.new.trace c.args.event k.spare k.last c.args.p c.close.ensures.exact
          c.close.ensures.room
          later c.requires.event c.self.invariant.kept;
      low = c.lows-self-inside.ensures;
    }

pub returns-clause-owed : goal.returns-clause-owed
returns-clause-owed g c =
    let k = c.self.inside in
    subst (λ (v : KernelView g.row.C.Denot). c.args.trace.now.spare + owed_items (state_of c.close.new.self)
    ≤ c.close.new.trace.spare + owed_items (kernel_of v) + 80) c.self.view_is
    (owed-slice k.parts c.close.new.self c.args.trace.now c.close.new.trace c.args.event c.args.p c.close.ensures.exact c.close.ensures.items)

pub returns-clause-lawful : goal.returns-clause-lawful
returns-clause-lawful g c =
    let k = c.self.inside in
    let last = ap (λ (v : KernelView g.row.C.Denot). v.last) c.self.view_is in
    let later : k.last < c.args.event = omega arith in
    lawful-slice c.args.self.now k.parts c.close.new.self c.args.trace.now c.close.new.trace c.args.event k.spare k.last c.args.p c.self.view_is
    c.requires.within later c.close.ensures.exact
