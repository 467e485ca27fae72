-- The stretches of a track: each shows one thing, from the item that made the track show it up to the item that makes it show another.
use Rattle.std.specs.Prelude.{ℕ, ◌+◌, ◌-◌, ◌^◌, List, [], ◌∷◌, ◌++◌, Option, Some, None, min, max, nat_lt, if◌then◌else◌}
use Rattle.sa_base.specs.declared.record.Item.{Item}
use Rattle.sa_base.specs.declared.record.Record.{Record}
use Rattle.sa_base.specs.declared.record.Record.TheVariants.{Block}
use Rattle.sa_shapes.specs.declared.shape.Track.{Track}
use Rattle.sa_shapes.specs.declared.shape.Shown.{Shown}
use Rattle.sa_shapes.specs.declared.shape.Shape.{Shape}
use Rattle.sa_shapes.specs.declared.shape.Shape.TheVariants.{Stretch}
use Rattle.sa_shapes.specs.declared.stretches.Going.{Going}
use Rattle.sa_shapes.specs.declared.window.Window.{Window}
use Rattle.sa_shapes.specs.Window.{place}
use Rattle.sa_shapes.specs.Change.{start, change}

-- the event from which on a track shows what an item makes it show: that of the item, and the one after that of a block, in which a thread ran
abbrev pub since_by : ℕ → Record → ℕ
since_by event (Block s t a io) = min (event + 1) (2 ^ 64 - 1)
since_by event other = event

abbrev pub since : Item → ℕ
since i = since_by i.event i.what

-- the place of that event, which is not before that of the stretch that ends there
abbrev pub turned : Window → Going → Item → ℕ
turned w o i = max o.from (place w (since i))

-- a stretch that ends before this place and index; one with no event that is drawn is none
abbrev pub closed : Track → Going → ℕ → ℕ → List Shape
closed t o to last =
    if nat_lt o.from to
    then Stretch (record { track = t; from = o.from; to = to; shown = o.shown; first = o.first; last = last }) ∷ []
    else []

-- where nothing changes the rest is one thing, else another
abbrev pub where_changed : {A : Type 0} → Option Shown → A → (Shown → A) → A
where_changed None same other = same
where_changed (Some v) same other = other v

-- the stretches from one on, where the next item has this index; the last one ends with the window
abbrev pub stretches_from : Window → Track → Going → ℕ → List Item → List Shape
stretches_from w t o k [] = closed t o w.count k
stretches_from w t o k (i ∷ is) =
    where_changed (change t o.shown i) (stretches_from w t o (k + 1) is)
    (λ v. closed t o (turned w o i) k ++ stretches_from w t (record { from = turned w o i; shown = v; first = k }) (k + 1) is)

-- the stretches of a track: at the window's beginning it shows what the items before left
abbrev pub stretches : Window → List Item → Track → List Shape
stretches w items t = stretches_from w t (record { from = 0; shown = start t; first = 0 }) 0 items
