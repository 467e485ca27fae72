-- The items of records, one list of records after another.
use Rattle.std.proofs.Common.{◌≡◌, ℕ, List, ◌++◌}
use Rattle.std.proofs.lemmas.List.{map-append}
use Rattle.sa_base.specs.declared.number.ProcNo.{ProcNo}
use Rattle.sa_base.specs.declared.record.Record.{Record}
use Rattle.sa_base.specs.declared.record.Item.{Item}
use Rattle.sa_base.specs.Items.{items_at}

pub items_at-append : (event : ℕ) (p : ProcNo) (one others : List Record)
    → items_at event p (one ++ others) ≡ items_at event p one ++ items_at event p others
items_at-append event p one others = map-append (λ (r : Record). let i : Item = record { event = event; proc = p; what = r } in i) one others
