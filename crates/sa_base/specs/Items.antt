-- The items of a list of records.
use Rattle.std.specs.Prelude.{ℕ, ◌+◌, List, [], ◌∷◌, map}
use Rattle.sa_base.specs.declared.number.ProcNo.{ProcNo}
use Rattle.sa_base.specs.declared.record.Record.{Record}
use Rattle.sa_base.specs.declared.record.Item.{Item}

-- the records of one event, on the processor whose turn it is
abbrev pub items_at : ℕ → ProcNo → List Record → List Item
items_at event p records = map (λ r. record { event = event; proc = p; what = r }) records

-- one record an event, from this event on, all on one processor
abbrev pub items_from : ℕ → ProcNo → List Record → List Item
items_from event p [] = []
items_from event p (r ∷ rs) = record { event = event; proc = p; what = r } ∷ items_from (event + 1) p rs
