-- The text of a picture is that of its shapes.
use Rattle.std.proofs.Common.{◌≡◌, ℕ, Bool, true, List, Some, None, ap, ◌∙◌, cond}
use Rattle.std.specs.Prelude.{option_and_then}
use Rattle.sa_base.specs.declared.record.Item.{Item}
use Rattle.sa_shapes.specs.declared.picture.Picture.{Picture}
use Rattle.sa_shapes.specs.declared.window.Window.{Window}
use Rattle.sa_shapes.specs.Extent.{extent_of, can_be_drawn}
use Rattle.sa_shapes.specs.Picture.{HasShapes}
use Rattle.sa_svg.specs.Layout.{unit_of, layout_by, layout_of}
use Rattle.sa_svg.specs.Drawing.{file_text, svg_text}
use Rattle.sa_drawing.specs.declared.text.Part.{Part}
use Rattle.sa_drawing.specs.Drawn.{window_of, drawable, layout_for, picture_text, HasText}

same_layout : (w : Window) (items : List Item) (p : Picture) (width : ℕ) → HasShapes w items p → layout_of p width ≡ layout_for w items width
same_layout w items p width has = λ i.
    layout_by width (unit_of width (has.window i).count) (has.window i).count (has.lanes i) (has.spaces i) (has.depth i)

same_text : (w : Window) (items : List Item) (p : Picture) (width : ℕ) → HasShapes w items p → svg_text p items width ≡ picture_text w items width
unfolding svg_text picture_text
same_text w items p width has = λ i. file_text (same_layout w items p width has i) (has.window i) items (has.shapes i)

-- the window that is drawn, where it is not too much
pub has-text : (r : Part) (items : List Item) (w : Window) (p : Picture) (text : List ℕ) → window_of r items ≡ Some w
    → can_be_drawn (extent_of w items) ≡ true → HasShapes w items p → text ≡ svg_text p items r.width → HasText r items text
has-text r items w p text is few has printed = record {
  window = w;
  is = ap (option_and_then (drawable items)) is ∙ ap (λ (b : Bool). cond b (Some w) None) few;
  text_is = printed ∙ same_text w items p r.width has;
}
