use Rattle.std.proofs.Common.{◌+◌, ◌<◌, ◌≤◌, ap, subst, arith}
use Rattle.sa_kernel.specs.Kept.{KernelView, kernel_of}
use Rattle.sa_kernel_model.specs.Owed.{owed_items}
use Rattle.sa_kernel.specs.View.{state_of}
use Rattle.sa_kernel.proofs.Kept.{entered-mid, kept-entered, owed-entered, upcalled-new}
use Rattle.sa_kernel.proofs.Lawful.{lawful-entered}
use Rattle.sa_kernel.proofs.kernel.Kernel.enter.Goals as goal

pub close-requires-clause-sizes : goal.close-requires-clause-sizes
close-requires-clause-sizes g c =
    let k = c.self.inside in
    let entered =
    entered-mid c.args.self.now k.parts c.enter_as-given.new.self c.args.trace.now c.enter_as-given.new.trace c.args.event k.spare k.last c.args.p c.args.entry
    c.enter_as-given.result
    c.self.view_is c.requires.within c.requires.fit c.requires.fetched c.enter_as-given.ensures.exact c.self.invariant.kept in
    entered.sound.formed.sizes

pub lows-self-inside-requires : goal.lows-self-inside-requires
lows-self-inside-requires g c =
    let k = c.self.inside in
    let last = ap (λ (v : KernelView g.row.C.Denot). v.last) c.self.view_is in
    let spare = ap (λ (v : KernelView g.row.C.Denot). v.spare) c.self.view_is in
    let later : k.last < c.args.event = omega arith in
    let some : 1 ≤ k.spare = omega arith in
    let entered =
    entered-mid c.args.self.now k.parts c.enter_as-given.new.self c.args.trace.now c.enter_as-given.new.trace c.args.event k.spare k.last c.args.p c.args.entry
    c.enter_as-given.result
    c.self.view_is c.requires.within c.requires.fit c.requires.fetched c.enter_as-given.ensures.exact c.self.invariant.kept in
    (kept-entered k.parts c.enter_as-given.new.self c.close.new.self c.args.trace.now c.enter_as-given.new.trace c.close.new.trace c.args.event k.spare
    k.last c.args.p c.enter_as-given.result entered
    c.close.ensures.exact c.enter_as-given.ensures.room c.close.ensures.room some later c.requires.event c.self.invariant.kept).sound.formed

pub invariant_of-self : goal.invariant_of-self
invariant_of-self g c =
    let k = c.self.inside in
    let last = ap (λ (v : KernelView g.row.C.Denot). v.last) c.self.view_is in
    let spare = ap (λ (v : KernelView g.row.C.Denot). v.spare) c.self.view_is in
    let later : k.last < c.args.event = omega arith in
    let some : 1 ≤ k.spare = omega arith in
    let entered =
    entered-mid c.args.self.now k.parts c.enter_as-given.new.self c.args.trace.now c.enter_as-given.new.trace c.args.event k.spare k.last c.args.p c.args.entry
    c.enter_as-given.result
    c.self.view_is c.requires.within c.requires.fit c.requires.fetched c.enter_as-given.ensures.exact c.self.invariant.kept in
    record {
      kept =
          kept-entered k.parts c.enter_as-given.new.self c.close.new.self c.args.trace.now c.enter_as-given.new.trace c.close.new.trace c.args.event k.spare
          k.last c.args.p c.enter_as-given.result entered
          c.close.ensures.exact c.enter_as-given.ensures.room c.close.ensures.room some later c.requires.event c.self.invariant.kept;
      low = c.lows-self-inside.ensures;
    }

pub returns-clause-owed : goal.returns-clause-owed
returns-clause-owed g c =
    let k = c.self.inside in
    let entered =
    entered-mid c.args.self.now k.parts c.enter_as-given.new.self c.args.trace.now c.enter_as-given.new.trace c.args.event k.spare k.last c.args.p c.args.entry
    c.enter_as-given.result
    c.self.view_is c.requires.within c.requires.fit c.requires.fetched c.enter_as-given.ensures.exact c.self.invariant.kept in
    subst (λ (v : KernelView g.row.C.Denot). c.args.trace.now.spare + owed_items (state_of c.close.new.self)
    ≤ c.close.new.trace.spare + owed_items (kernel_of v) + 80) c.self.view_is
    (owed-entered k.parts c.enter_as-given.new.self c.close.new.self c.args.trace.now c.enter_as-given.new.trace c.close.new.trace c.args.event _
    c.args.p c.enter_as-given.result entered
    c.close.ensures.exact c.enter_as-given.ensures.items c.close.ensures.items)

pub returns-clause-upcalled : goal.returns-clause-upcalled
returns-clause-upcalled g c =
    let k = c.self.inside in
    let entered =
    entered-mid c.args.self.now k.parts c.enter_as-given.new.self c.args.trace.now c.enter_as-given.new.trace c.args.event k.spare k.last c.args.p c.args.entry
    c.enter_as-given.result
    c.self.view_is c.requires.within c.requires.fit c.requires.fetched c.enter_as-given.ensures.exact c.self.invariant.kept in
    upcalled-new k.parts c.enter_as-given.new.self c.close.new.self c.args.trace.now c.enter_as-given.new.trace c.close.new.trace c.args.event c.args.p
    c.enter_as-given.result entered
    c.close.ensures.exact

pub returns-clause-lawful : goal.returns-clause-lawful
returns-clause-lawful g c =
    let k = c.self.inside in
    let last = ap (λ (v : KernelView g.row.C.Denot). v.last) c.self.view_is in
    let later : k.last < c.args.event = omega arith in
    lawful-entered c.args.self.now k.parts c.enter_as-given.new.self c.close.new.self c.args.trace.now c.enter_as-given.new.trace c.close.new.trace c.args.event
    k.spare k.last c.args.p c.args.entry
    c.enter_as-given.result c.self.view_is c.requires.within later c.enter_as-given.ensures.exact c.close.ensures.exact
