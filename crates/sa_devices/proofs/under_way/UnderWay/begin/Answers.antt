use Rattle.std.proofs.Common.{◌≡◌, ℕ, ◌-◌, List, Option, length, sym, ap, subst, ◌∙◌, ◌∷◌, arith}
use Rattle.std.specs.BinaryHeap.{heap_items}
use Rattle.std.specs.List.Sorted.{IsPermutation}
use Rattle.sa_devices.specs.declared.under_way.Entry.{Entry}
use Rattle.sa_devices.specs.DevicesView.{IosView, begun_with}
use Rattle.sa_devices.specs.Kept.{key_of, AreKept}
use Rattle.sa_devices.proofs.KeptLemmas.{AreKept-begin, begun-view, ios_view}
use Rattle.sa_devices.proofs.under_way.UnderWay.begin.Goals as goal

pub invariant_of-self : goal.invariant_of-self
invariant_of-self c =
    let places = c.self.inside.places.items in
    let keys = heap_items c.self.inside.by_end in
    let after = heap_items c.put.new.by_end in
    let e : Entry = record { ends = c.args.ends; kind = c.args.kind } in
    let place : c.len-number.result ≡ length places = omega arith in
    let moved = subst (λ (n : ℕ). IsPermutation (key_of c.args.ends n ∷ keys) after) place c.put.ensures.items in
    let kept_begin = AreKept-begin places e keys after c.self.invariant.0 moved c.put.ensures.order in
    let few = c.requires.few in
    let begun_is = ap (λ (v : IosView). v.io_count) c.self.view_is in
    let spare_is = ap (λ (v : IosView). v.spare) c.self.view_is in
    (subst (λ (xs : List (Option Entry)). AreKept xs after) (sym c.push_reserved.ensures.items) kept_begin, omega arith, omega arith, omega arith)

pub returns-clause-exact : goal.returns-clause-exact
returns-clause-exact c =
    let places = c.self.inside.places.items in
    let e : Entry = record { ends = c.args.ends; kind = c.args.kind } in
    ap (λ (xs : List (Option Entry)). ios_view xs (c.self.inside.spare - 1)) c.push_reserved.ensures.items
    ∙ begun-view places e c.self.inside.spare
    ∙ ap (λ (v : IosView). begun_with v c.args.kind c.args.ends) c.self.view_is
