use Rattle.std.proofs.Common.{◌≡◌, ℕ, List, ltb, get_or, slice_index, length, sym, ap, ◌∙◌, arith}
use Rattle.std.specs.List.{list_any}
use Rattle.sa_devices.specs.DevicesView.{DevicesView}
use Rattle.sa_devices.specs.Ios.{fetches}
use Rattle.sa_devices.proofs.SoundLemmas.{list_any-fetches}
use Rattle.sa_devices.proofs.devices.Devices.fetching.Goals as goal

pub returns : goal.returns
returns c =
    let d = c.self.inside in
    let s = c.args.s.0 in
    let read : get_or c.deref.result.now c.from.result 0 ≡ slice_index d.fetching.items s =
    ap (λ (xs : List ℕ). get_or xs c.from.result 0) c.deref.ensures.0 ∙ ap (λ (n : ℕ). get_or d.fetching.items n 0) c.from.ensures in
    let spaces = ap (λ (v : DevicesView). length v.pages) c.self.view_is in
    let count = c.self.invariant.counts s (omega arith) in
    ap (ltb 0) (read ∙ count) ∙ sym (list_any-fetches s d.ios.under_way)
    ∙ ap (λ (v : DevicesView). list_any (fetches s) v.ios.under_way) c.self.view_is
