use Rattle.std.proofs.Common.{List, ℕ, ap, refl, sym}
use Rattle.std.specs.List.{length_refill}
use Rattle.sa_devices.specs.DevicesView.{DevicesView}
use Rattle.sa_devices.proofs.FetchLemmas.{IsSound-pages, refill-evicted}
use Rattle.sa_devices.proofs.devices.Devices.evict.Goals as goal

pub invariant_of-self : goal.invariant_of-self
invariant_of-self c = IsSound-pages _ _ _ _ _ (sym (length_refill _ c.self.inside.pages.items c.evict_at.new.pages refl)) c.self.invariant

pub returns-then-not-is_empty : goal.returns-then-not-is_empty
returns-then-not-is_empty c =
    let with_pages : List ℕ → DevicesView = λ ps. record { ios = c.self.inside.ios; pages = ps; evictions = c.self.inside.evictions.items } in
    rw (← c.self.view_is) (ap with_pages (refill-evicted c.args.event c.self.inside.evictions.items c.self.inside.pages.items c.evict_at.new.pages
    (rw c.deref_mut.ensures.value at (rw c.as_slice.ensures.value at c.evict_at.ensures))))
