use Rattle.std.proofs.Common.{◌≤◌, ◌∙◌, ◌++◌, ◌∷◌, [], ap, arith}
use Rattle.sa_base.specs.declared.record.Record.TheVariants.{Tick}
use Rattle.sa_kernel.specs.Kept.{kernel_of, scene}
use Rattle.tests_machine.proofs.PlainLemmas.{quiet-lawful, tick-lawful}
use Rattle.tests_machine.proofs.lawful.tick.Goals as goal

pub returns-then-is_same_slice-clause-lawful : goal.returns-then-is_same_slice-clause-lawful
returns-then-is_same_slice-clause-lawful c =
    let added = c.say.ensures.items ∙ ap (λ xs. xs ++ record { event = c.args.event; proc = c.args.p; what = Tick } ∷ []) c.reserve.ensures.items in
    let later : 1 ≤ c.args.event = (let before = c.requires.later in omega arith) in
    quiet-lawful c.args.slice c.args.last c.args.event c.args.p (kernel_of c.args.kernel.now)
    (kernel_of c.evict.new.self) c.args.trace.now.items c.say.new.self.items
    added c.evict.ensures.state c.requires.fetched c.requires.low c.requires.within later
    (c.is_same_slice.ensures c.if-is_same_slice.true) c.quiet_events_go_on.ensures

pub returns-clause-lawful : goal.returns-clause-lawful
returns-clause-lawful c =
    let added =
    c.reserve-2.ensures.items ∙ c.say.ensures.items
    ∙ ap (λ xs. xs ++ record { event = c.args.event; proc = c.args.p; what = Tick } ∷ []) c.reserve.ensures.items in
    tick-lawful c.args.slice c.args.last c.args.event c.args.p (kernel_of c.args.kernel.now)
    (kernel_of c.evict.new.self) c.args.trace.now.items c.reserve-2.new.self.items
    (scene c.slice_end.new.self c.slice_end.new.trace) added c.evict.ensures.state c.requires.fetched c.requires.low c.slice_end.ensures.lawful
