use Rattle.std.proofs.Common.{◌≡◌, ℕ, length, refl, sym, subst}
use Rattle.std.specs.List.{refill, length_refill}
use Rattle.sa_devices.specs.DevicesView.{IosView}
use Rattle.sa_devices.specs.Pages.{IsKind}
use Rattle.sa_devices.specs.Sound.{IsSound}
use Rattle.sa_devices.proofs.SoundLemmas.{found, IsKind-found, IsKind-page, counted-fetch, IsSound-complete}
use Rattle.sa_devices.proofs.devices.Devices.complete.Goals as goal

pub discount_fetch-requires-clause-kind : goal.discount_fetch-requires-clause-kind
discount_fetch-requires-clause-kind c =
    let d = c.self.inside in
    let at = found c.args.io.0 d.ios.under_way c.complete-kind.result c.complete-kind.ensures.kind in
    subst (λ (n : ℕ). IsKind n c.complete-kind.result) (sym c.self.invariant.spaces)
    (IsKind-found c.args.io.0 (length d.pages.items) d.ios.under_way c.complete-kind.result c.self.invariant.kinds at)

pub discount_fetch-requires-clause-counted : goal.discount_fetch-requires-clause-counted
discount_fetch-requires-clause-counted c =
    let d = c.self.inside in
    let at = found c.args.io.0 d.ios.under_way c.complete-kind.result c.complete-kind.ensures.kind in
    counted-fetch d.ios d.fetching.items d.pages.items d.evictions.items c.args.io.0 c.complete-kind.result c.self.invariant at

pub complete-requires : goal.complete-requires
complete-requires c =
    let d = c.self.inside in
    let at = found c.args.io.0 d.ios.under_way c.complete-kind.result c.complete-kind.ensures.kind in
    IsKind-page (length d.pages.items) c.complete-kind.result
    (IsKind-found c.args.io.0 (length d.pages.items) d.ios.under_way c.complete-kind.result c.self.invariant.kinds at)

pub invariant_of-self : goal.invariant_of-self
invariant_of-self c =
    let d = c.self.inside in
    let at = found c.args.io.0 d.ios.under_way c.complete-kind.result c.complete-kind.ensures.kind in
    let pages = refill (length d.pages.items) d.pages.items c.complete.new.pages in
    let places : length pages ≡ length d.pages.items = sym (length_refill (length d.pages.items) d.pages.items c.complete.new.pages refl) in
    subst (λ (v : IosView). IsSound v c.discount_fetch.new.fetching.items pages d.evictions.items) (sym c.complete-kind.ensures.exact)
    (IsSound-complete d.ios d.fetching.items c.discount_fetch.new.fetching.items d.pages.items pages d.evictions.items c.args.io.0 c.complete-kind.result
    c.self.invariant at c.discount_fetch.ensures.spaces places c.discount_fetch.ensures.counts)
