use Rattle.std.proofs.Common.{Option, IsSome, IfSome, subst, ◌≡◌, ltb, false, length, Contains, option_map, is_some, sym, ap, ◌∙◌, arith}
use Rattle.std.specs.BinaryHeap.{heap_items}
use Rattle.std.proofs.lemmas.Bool.{ltb-false}
use Rattle.sa_devices.specs.DevicesView.{IosView}
use Rattle.sa_devices.specs.Ios.{due_of, io_no}
use Rattle.sa_base.specs.declared.number.IoNo.{IoNo}
use Rattle.sa_devices.specs.Ios.{io_at}
use Rattle.sa_devices.proofs.IosLemmas.{due_of-under_way}
use Rattle.sa_devices.proofs.KeptLemmas.{due_of-first, due_of-later, due_of-none}
use Rattle.sa_devices.proofs.under_way.UnderWay.due.Goals as goal

pub returns-in-Some-clause-soonest : goal.returns-in-Some-clause-soonest
returns-in-Some-clause-soonest c =
    let places = c.self.inside.places.items in
    let keys = heap_items c.self.inside.by_end in
    let key = c.in-Some.field-0.now in
    let kept = c.self.invariant.0 in
    let at : Contains keys key = (0, c.in-Some.ensures.item.3.0, sym c.in-Some.ensures.lookup) in
    sym (ap (λ (v : IosView). option_map io_no (due_of c.args.event v.under_way)) (sym c.self.view_is)
    ∙ due_of-first c.args.event places key keys kept at (c.in-Some.ensures.greatest kept.ordered) c.if-ends-event.true)

pub returns-in_default-clause-soonest : goal.returns-in_default-clause-soonest
returns-in_default-clause-soonest c =
    let places = c.self.inside.places.items in
    let keys = heap_items c.self.inside.by_end in
    let kept = c.self.invariant.0 in
    sym (ap (λ (v : IosView). option_map io_no (due_of c.args.event v.under_way)) (sym c.self.view_is)
    ∙ due_of-later c.args.event places c.in-Some.field-0.now keys kept (c.in-Some.ensures.greatest kept.ordered) c.if-ends-event.false)

pub returns-in_default-2-clause-soonest : goal.returns-in_default-2-clause-soonest
returns-in_default-2-clause-soonest c =
    let places = c.self.inside.places.items in
    let keys = heap_items c.self.inside.by_end in
    let empty : ltb 0 (length keys) ≡ false = sym c.peek.ensures.item.0 ∙ ap is_some c.in_default.is in
    let none = ltb-false 0 (length keys) empty in
    sym (ap (λ (v : IosView). option_map io_no (due_of c.args.event v.under_way)) (sym c.self.view_is)
    ∙ due_of-none c.args.event places keys c.self.invariant.0 (omega arith))

pub returns-in-Some-clause-under_way : goal.returns-in-Some-clause-under_way
returns-in-Some-clause-under_way c =
    let ios = c.args.self.now.under_way in
    subst (λ (o : Option IoNo). IfSome o (λ io. IsSome (io_at io.0 ios))) (sym (returns-in-Some-clause-soonest c)) (due_of-under_way c.args.event ios)
