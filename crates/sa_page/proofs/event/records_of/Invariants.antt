use Rattle.std.proofs.Common.{◌≡◌, ◌∷◌, map, take}
use Rattle.sa_check.specs.Items.{what_of}
use Rattle.sa_page.proofs.event.records_of.Given as goal

abbrev pub invariant-loop-item : goal.invariant-loop-item
invariant-loop-item l = l.records.items ≡ l.first.what ∷ map what_of (take l.item-index l.others)
