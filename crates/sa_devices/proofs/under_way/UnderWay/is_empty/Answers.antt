use Rattle.std.proofs.Common.{◌≡◌, eqb, length, sym, ap, ◌∙◌}
use Rattle.std.specs.BinaryHeap.{heap_items}
use Rattle.std.proofs.lemmas.Bool.{eqb-true, eq-eqb}
use Rattle.sa_devices.specs.DevicesView.{IosView}
use Rattle.sa_devices.proofs.KeptLemmas.{listed-none, none-listed}
use Rattle.sa_devices.proofs.under_way.UnderWay.is_empty.Goals as goal

pub returns : goal.returns
returns c =
    let places = c.self.inside.places.items in
    let keys = heap_items c.self.inside.by_end in
    let kept = c.self.invariant.0 in
    let ios = ap (λ (v : IosView). v.under_way) c.self.view_is in
    let is : c.is_empty.result ≡ eqb (length keys) 0 = c.is_empty.ensures ∙ ap (λ xs. eqb (length xs) 0) c.as_slice.ensures.value in (
      λ e. sym ios ∙ listed-none places keys kept (eqb-true (length keys) 0 (sym is ∙ e)),
      λ e. is ∙ eq-eqb (length keys) 0 (none-listed places keys kept (ios ∙ e)),
    )
