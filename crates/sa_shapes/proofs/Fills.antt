-- The stretches of a track fill the window.
use Rattle.std.proofs.Common.{◌≡◌, ℕ, ◌+◌, ◌-◌, ◌<◌, ◌≤◌, Bool, true, false, List, [], ◌∷◌, ◌++◌, Option, Some, None, inl, inr, refl, sym, subst, arith}
use Rattle.std.specs.Prelude.{Contains, nat_lt, cond}
use Rattle.std.proofs.lemmas.Bool.{ltb-true, ltb-false, and_parts, cases_lt}
use Rattle.std.proofs.lemmas.List.{append-nil}
use Rattle.std.proofs.lemmas.List.Elements.{Contains-append_right}
use Rattle.sa_base.specs.declared.record.Item.{Item}
use Rattle.sa_lemmas.proofs.Membership.{contains-head}
use Rattle.sa_shapes.specs.declared.shape.Shape.{Shape}
use Rattle.sa_shapes.specs.declared.shape.Shape.TheVariants as shape
use Rattle.sa_shapes.specs.declared.shape.Shown.{Shown}
use Rattle.sa_shapes.specs.declared.shape.Stretch.{Stretch}
use Rattle.sa_shapes.specs.declared.shape.Track.{Track}
use Rattle.sa_shapes.specs.declared.shape.Track.TheVariants.{Lane}
use Rattle.sa_shapes.specs.declared.stretches.Going.{Going}
use Rattle.sa_shapes.specs.declared.window.Window.{Window}
use Rattle.sa_shapes.specs.Window.{place, is_inside}
use Rattle.sa_shapes.specs.Change.{change, start}
use Rattle.sa_shapes.specs.Stretches.{turned, closed, where_changed, stretches_from, stretches}
use Rattle.sa_shapes.specs.Laws.{Tiles, HasPlace}

-- a stretch before the others, or none where it would be empty
fills-closed : (t : Track) (o : Going) (at last to : ℕ) (rest : List Shape) → o.from ≤ at → Tiles at to rest → Tiles o.from to (closed t o at last ++ rest)
fills-closed t o at last to rest behind fills =
    (elim (nat_lt o.from at) as (λ (b : Bool). b ≡ nat_lt o.from at
    → Tiles o.from to (cond b (shape.Stretch (record { track = t; from = o.from; to = at; shown = o.shown; first = o.first; last = last }) ∷ []) [] ++ rest)) [
      | true ↦ λ e. (refl, ltb-true o.from at (sym e), fills)
      | false ↦ λ e. let same : at ≡ o.from = omega (arith, ltb-false o.from at (sym e)) in subst (λ (n : ℕ). Tiles n to rest) same fills
    ]) refl

module _ (w : Window) (t : Track) where
  fills-next : (o : Going) (k : ℕ) (i : Item) (items : List Item) (c : Option Shown) → o.from ≤ w.count
      → Tiles o.from w.count (stretches_from w t o (k + 1) items)
      → ((v : Shown) → Tiles (turned w o i) w.count (stretches_from w t (record { from = turned w o i; shown = v; first = k }) (k + 1) items))
      → Tiles o.from w.count (where_changed c (stretches_from w t o (k + 1) items)
      (λ v. closed t o (turned w o i) k ++ stretches_from w t (record { from = turned w o i; shown = v; first = k }) (k + 1) items))
  fills-next o k i items None within same other = same
  fills-next o k i items (Some v) within same other = fills-closed t o (turned w o i) k w.count _ (omega arith) (other v)

  pub fills : (o : Going) (k : ℕ) (items : List Item) → o.from ≤ w.count → Tiles o.from w.count (stretches_from w t o k items)
  fills o k [] within =
      let end : Tiles w.count w.count [] = refl in
      subst (λ (l : List Shape). Tiles o.from w.count l) (append-nil (closed t o w.count k)) (fills-closed t o w.count k w.count [] within end)
  fills o k (i ∷ items) within =
      fills-next o k i items (change t o.shown i) within (fills o (k + 1) items within)
      (λ v. fills (record { from = turned w o i; shown = v; first = k }) (k + 1) items (omega arith))

pub all-fill : (w : Window) (items : List Item) (t : Track) → Tiles 0 w.count (stretches w items t)
all-fill w items t = fills w t (record { from = 0; shown = start t; first = 0 }) 0 items (omega arith)

record Covered (shapes : List Shape) (p : ℕ) : Type 0 where
  stretch : Stretch
  there : Contains shapes (shape.Stretch stretch)
  from : stretch.from ≤ p
  to : p < stretch.to

-- each place between is covered
covered : (shapes : List Shape) (a b p : ℕ) → Tiles a b shapes → a ≤ p → p < b → Covered shapes p
covered [] a b p fills low high = absurd (omega (arith, fills))
covered (shape.Mark m ∷ rest) a b p fills low high = absurd fills
covered (shape.Stretch s ∷ rest) a b p fills low high =
    elim (cases_lt p s.to) [
      | inl before ↦ record { stretch = s; there = contains-head (shape.Stretch s) rest; from = omega (arith, fills.0); to = before }
      | inr behind ↦
          let more = covered rest s.to b p fills.2 behind high in
          record { stretch = more.stretch; there = Contains-append_right (shape.Stretch s ∷ []) rest _ more.there; from = more.from; to = more.to }
    ]

inside-place : (w : Window) (event : ℕ) → is_inside w event ≡ true → place w event < w.count
inside-place w event inside =
    let both = and_parts _ _ inside in
    let less : event - w.from < w.count = ltb-true _ _ both.1 in omega arith

pub all-placed : (w : Window) (items : List Item) (i : Item) → is_inside w i.event ≡ true → HasPlace w items i
all-placed w items i inside =
    let c = covered (stretches w items (Lane i.proc)) 0 w.count (place w i.event) (all-fill w items (Lane i.proc)) (omega arith)
    (inside-place w i.event inside) in
    record { stretch = c.stretch; there = c.there; from = c.from; to = c.to }
