-- Each record that has a mark has it.
use Rattle.std.proofs.Common.{◌≡◌, ℕ, ◌+◌, Bool, true, false, cond, List, [], ◌∷◌, ◌++◌, length, inl, inr, refl, sym, subst, ◌∙◌, arith, eqb}
use Rattle.std.specs.Prelude.{Contains, count_by, ◌&&◌}
use Rattle.std.proofs.lemmas.Bool.{eq-eqb, and_from}
use Rattle.std.proofs.lemmas.List.Sums.{sum_by-cons}
use Rattle.std.proofs.lemmas.List.Elements.{Contains-append_right}
use Rattle.sa_base.specs.declared.number.ProcNo.{ProcNo}
use Rattle.sa_base.specs.declared.record.Item.{Item}
use Rattle.sa_lemmas.proofs.Membership.{contains-head, contains-nil, contains-cases}
use Rattle.sa_shapes.specs.declared.marks.Stack.{Stack}
use Rattle.sa_shapes.specs.declared.shape.Mark.{Mark}
use Rattle.sa_shapes.specs.declared.shape.Shape.{Shape}
use Rattle.sa_shapes.specs.declared.shape.Shape.TheVariants as shape
use Rattle.sa_shapes.specs.declared.window.Window.{Window}
use Rattle.sa_shapes.specs.Window.{place, is_inside}
use Rattle.sa_shapes.specs.Marks.{has_mark, lane_of, is_marked, row_at, height_over, mark_at, marks_from, marks}
use Rattle.sa_shapes.specs.Laws.{HasMark}

module _ (w : Window) (lane : ProcNo) where
  record Marked (shapes : List Shape) (i : Item) : Type 0 where
    mark : Mark
    there : Contains shapes (shape.Mark mark)
    lane_is : mark.lane ≡ lane
    at : mark.at ≡ place w i.event
    item : mark.item ≡ i

  marked-first : (row : ℕ) (i : Item) (rest other : List Shape) → is_inside w i.event ≡ true → is_marked lane i ≡ true
      → Marked (cond (is_marked lane i) (mark_at w lane row i ++ rest) other) i
  marked-first row i rest other inside has =
      subst (λ (b : Bool). Marked (cond b (mark_at w lane row i ++ rest) other) i) (sym has)
      (subst (λ (b : Bool). Marked (cond b (shape.Mark (record { lane = lane; at = place w i.event; row = row; item = i }) ∷ []) [] ++ rest) i) (sym inside)
      (record {
        mark = record { lane = lane; at = place w i.event; row = row; item = i };
        there = contains-head _ rest;
        lane_is = refl;
        at = refl;
        item = refl;
      }))

  marked-rest : (b : Bool) (one rest other : List Shape) (i : Item) → Marked rest i → Marked other i → Marked (cond b (one ++ rest) other) i
  marked-rest true one rest other i this that =
      record { mark = this.mark; there = Contains-append_right one rest _ this.there; lane_is = this.lane_is; at = this.at; item = this.item }
  marked-rest false one rest other i this that = that

  marked : (s : Stack) (items : List Item) (i : Item) → Contains items i → is_inside w i.event ≡ true → is_marked lane i ≡ true
      → Marked (marks_from w lane s items) i
  marked s [] i there inside has = absurd (contains-nil i there)
  marked s (j ∷ items) i there inside has =
      elim (contains-cases j i items there) [
        | inl same ↦
            subst (λ (x : Item). is_inside w x.event ≡ true → is_marked lane x ≡ true → Marked (marks_from w lane s (j ∷ items)) x) same
            (marked-first (row_at s j.event) j _ _) inside has
        | inr rest ↦
            marked-rest (is_marked lane j) _ _ _ i
            (marked (record { event = j.event; height = height_over (row_at s j.event) }) items i rest inside has) (marked s items i rest inside has)
      ]

  abbrev counts : Item → Bool
  counts i = is_marked lane i && is_inside w i.event

  counted-first : (a b : Bool) (m : Shape) (rest other : List Shape) (n : ℕ) → length rest ≡ n → length other ≡ n
      → length (cond a (cond b (m ∷ []) [] ++ rest) other) ≡ cond (a && b) (n + 1) n
  counted-first true true m rest other n this that = omega (arith, this)
  counted-first true false m rest other n this that = this
  counted-first false b m rest other n this that = that

  counted : (s : Stack) (items : List Item) → length (marks_from w lane s items) ≡ count_by counts items
  counted s [] = refl
  counted s (i ∷ items) =
      counted-first (is_marked lane i) (is_inside w i.event) (shape.Mark (record { lane = lane; at = place w i.event; row = row_at s i.event; item = i })) _ _ _
      (counted (record { event = i.event; height = height_over (row_at s i.event) }) items) (counted s items)
      ∙ (elim (counts i) as (λ (b : Bool). cond b (count_by counts items + 1) (count_by counts items) ≡ cond b 1 0 + count_by counts items) [
        | true ↦ omega arith
        | false ↦ omega arith
      ])
      ∙ sym (sum_by-cons (λ (j : Item). cond (counts j) 1 0) i items)

pub all-marked : (w : Window) (items : List Item) (i : Item) → Contains items i → is_inside w i.event ≡ true → has_mark i.what ≡ true → HasMark w items i
all-marked w items i there inside has =
    let own : (has_mark i.what && eqb (lane_of i.proc i.what).0 (lane_of i.proc i.what).0) ≡ true =
    and_from _ _ has (eq-eqb (lane_of i.proc i.what).0 (lane_of i.proc i.what).0 refl) in
    let m = marked w (lane_of i.proc i.what) (record { event = 0; height = 0 }) items i there inside own in
    record { mark = m.mark; there = m.there; lane = m.lane_is; at = m.at; item = m.item }

pub all-counted : (w : Window) (items : List Item) (lane : ProcNo)
    → length (marks w items lane) ≡ count_by (λ (i : Item). is_marked lane i && is_inside w i.event) items
all-counted w items lane = counted w lane (record { event = 0; height = 0 }) items
