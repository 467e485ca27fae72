use Rattle.std.proofs.Common.{Option, sym, subst}
use Rattle.sa_shapes.specs.declared.picture.Picture.{Picture}
use Rattle.sa_shapes.specs.Picture.{IsPictureOf}
use Rattle.sa_drawing.proofs.Texts.{has-text}
use Rattle.sa_drawing.proofs.text.drawing_of.Goals as goal

pub returns-in_ok-print-in-Some-2 : goal.returns-in_ok-print-in-Some-2
returns-in_ok-print-in-Some-2 c =
    let P : Option Picture → Type 0 = λ o. IsPictureOf c.in-Some.window c.args.items.now o in
    let both = subst P c.in-Some-2.is c.in_ok-picture.ensures in
    has-text c.args.part c.args.items.now c.in-Some.window c.in-Some-2.picture _ (sym c.in-Some.ensures) both.0 both.1 c.in_ok-print-in-Some-2.ensures
