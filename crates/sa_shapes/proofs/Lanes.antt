-- Each lane that an item is on is in the picture.
use Rattle.std.proofs.Common.{◌<◌, ◌≤◌, List, [], ◌∷◌, inl, inr, subst, arith}
use Rattle.std.specs.Prelude.{Contains}
use Rattle.sa_base.specs.declared.record.Item.{Item}
use Rattle.sa_lemmas.proofs.Membership.{contains-nil, contains-cases}
use Rattle.sa_shapes.specs.declared.extent.Extent.{Extent}
use Rattle.sa_shapes.specs.declared.window.Window.{Window}
use Rattle.sa_shapes.specs.Marks.{lane_of}
use Rattle.sa_shapes.specs.Extent.{with_item, extent_from}
use Rattle.sa_shapes.specs.Laws.{HasLane}

grow : (w : Window) (e : Extent) (items : List Item) → e.lanes ≤ (extent_from w e items).lanes
grow w e [] = omega arith
grow w e (i ∷ items) = let more = grow w (with_item w e i) items in omega (arith, more)

record Holds (w : Window) (e : Extent) (items : List Item) (i : Item) : Type 0 where
  own : i.proc.0 < (extent_from w e items).lanes
  marked : (lane_of i.proc i.what).0 < (extent_from w e items).lanes

hold : (w : Window) (e : Extent) (items : List Item) (i : Item) → Contains items i → Holds w e items i
hold w e [] i there = absurd (contains-nil i there)
hold w e (j ∷ items) i there =
    elim (contains-cases j i items there) [
      | inl same ↦
          let more = grow w (with_item w e j) items in
          subst (λ (x : Item). Holds w e (j ∷ items) x) same (record { own = omega (arith, more); marked = omega (arith, more) })
      | inr rest ↦ let more = hold w (with_item w e j) items i rest in record { own = more.own; marked = more.marked }
    ]

pub all-lanes : (w : Window) (items : List Item) (i : Item) → Contains items i → HasLane w items i
all-lanes w items i there =
    let all = hold w (record { lanes = 0; spaces = 0; lines = 0 }) items i there in record { own = all.own; marked = all.marked }
