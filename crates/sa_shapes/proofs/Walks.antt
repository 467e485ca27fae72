-- One item more of a walk over the items of a trace.
use Rattle.std.proofs.Common.{◌≡◌, ℕ, ◌+◌, ◌<◌, Bool, true, false, cond, List, ◌∷◌, ◌++◌, length, get_or, drop, Option, Some, None, refl, sym, ap, ◌∙◌, append_assoc, add-one, drop-cons}
use Rattle.sa_base.specs.declared.number.ProcNo.{ProcNo}
use Rattle.sa_base.specs.declared.record.Item.{Item}
use Rattle.sa_shapes.specs.declared.marks.Stack.{Stack}
use Rattle.sa_shapes.specs.declared.shape.Shape.{Shape}
use Rattle.sa_shapes.specs.declared.shape.Shown.{Shown}
use Rattle.sa_shapes.specs.declared.shape.Track.{Track}
use Rattle.sa_shapes.specs.declared.stretches.Going.{Going}
use Rattle.sa_shapes.specs.declared.window.Window.{Window}
use Rattle.sa_shapes.specs.Change.{change}
use Rattle.sa_shapes.specs.Marks.{is_marked, row_at, height_over, mark_at, marks_from}
use Rattle.sa_shapes.specs.Stretches.{turned, closed, where_changed, stretches_from}

-- what is left of a list begins with its next element
pub drop-next : {X : Type 0} (xs : List X) (k : ℕ) (d : X) → k < length xs → drop k xs ≡ get_or xs k d ∷ drop (k + 1) xs
drop-next xs k d within = rw (add-one, drop-cons xs k d) refl

-- a piece that is appended is the first of what is left
piece-next : {A : Type 0} → (out new piece rest left whole : List A) → left ≡ piece ++ rest → new ≡ out ++ piece → out ++ left ≡ whole → new ++ rest ≡ whole
piece-next out new piece rest left whole split appended before =
    ap (λ l. l ++ rest) appended ∙ append_assoc out piece rest ∙ ap (λ l. out ++ l) (sym split) ∙ before

module _ (w : Window) where
  module _ (lane : ProcNo) (s : Stack) (x : Item) (rest left : List Item) where
    abbrev marked_next : ℕ → ℕ → List Shape
    marked_next row height = mark_at w lane row x ++ marks_from w lane (record { event = x.event; height = height }) rest

    -- behind an item that has a mark, its mark is appended
    pub marks-marked : (row height : ℕ) (out new whole : List Shape) → left ≡ x ∷ rest → is_marked lane x ≡ true → row ≡ row_at s x.event
        → height ≡ height_over row → new ≡ out ++ mark_at w lane row x → out ++ marks_from w lane s left ≡ whole
        → new ++ marks_from w lane (record { event = x.event; height = height }) rest ≡ whole
    marks-marked row height out new whole split has row-is height-is appended before =
        let next : marks_from w lane s left ≡ marked_next row height =
        ap (marks_from w lane s) split
        ∙ ap (λ (b : Bool). cond b (marked_next (row_at s x.event) (height_over (row_at s x.event))) (marks_from w lane s rest)) has
        ∙ ap (λ (r : ℕ). marked_next r (height_over r)) (sym row-is)
        ∙ ap (marked_next row) (sym height-is) in
        piece-next out new (mark_at w lane row x) _ _ whole next appended before

    -- behind an item that has none, nothing is
    pub marks-unmarked : (out whole : List Shape) → left ≡ x ∷ rest → is_marked lane x ≡ false → out ++ marks_from w lane s left ≡ whole
        → out ++ marks_from w lane s rest ≡ whole
    marks-unmarked out whole split has before =
        let next : marks_from w lane s left ≡ marks_from w lane s rest =
        ap (marks_from w lane s) split
        ∙ ap (λ (b : Bool). cond b (marked_next (row_at s x.event) (height_over (row_at s x.event))) (marks_from w lane s rest)) has in
        ap (λ l. out ++ l) (sym next) ∙ before

  module _ (t : Track) (o : Going) (k : ℕ) (x : Item) (rest left : List Item) where
    abbrev turned_next : ℕ → Shown → List Shape
    turned_next at v = closed t o at k ++ stretches_from w t (record { from = at; shown = v; first = k }) (k + 1) rest

    -- behind an item that makes the track show another thing, the stretch before it is appended
    pub stretches-changed : (at : ℕ) (v : Shown) (out new whole : List Shape) → left ≡ x ∷ rest → Some v ≡ change t o.shown x → at ≡ turned w o x
        → new ≡ out ++ closed t o at k → out ++ stretches_from w t o k left ≡ whole
        → new ++ stretches_from w t (record { from = at; shown = v; first = k }) (k + 1) rest ≡ whole
    stretches-changed at v out new whole split changes at-is appended before =
        let next : stretches_from w t o k left ≡ turned_next at v =
        ap (stretches_from w t o k) split
        ∙ ap (λ (c : Option Shown). where_changed c (stretches_from w t o (k + 1) rest) (turned_next (turned w o x))) (sym changes)
        ∙ ap (λ (a : ℕ). turned_next a v) (sym at-is) in
        piece-next out new (closed t o at k) _ _ whole next appended before

    -- behind any other item, nothing is
    pub stretches-unchanged : (out whole : List Shape) → left ≡ x ∷ rest → None ≡ change t o.shown x → out ++ stretches_from w t o k left ≡ whole
        → out ++ stretches_from w t o (k + 1) rest ≡ whole
    stretches-unchanged out whole split stays before =
        let next : stretches_from w t o k left ≡ stretches_from w t o (k + 1) rest =
        ap (stretches_from w t o k) split
        ∙ ap (λ (c : Option Shown). where_changed c (stretches_from w t o (k + 1) rest) (turned_next (turned w o x))) (sym stays) in
        ap (λ l. out ++ l) (sym next) ∙ before
