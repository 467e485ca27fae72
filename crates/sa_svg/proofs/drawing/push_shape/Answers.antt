use Rattle.std.proofs.Common.{◌++◌, sym, ap, ◌∙◌}
use Rattle.std.proofs.lemmas.Result.{on_ok_weaker}
use Rattle.std.specs.Prelude.{codes}
use Rattle.sa_shapes.specs.declared.shape.Shape.{Shape}
use Rattle.sa_trace.specs.TraceText.{line_of}
use Rattle.sa_svg.specs.Titles.{stretch_title}
use Rattle.sa_svg.specs.Drawing.{stretch_text, mark_text, shape_text}
use Rattle.sa_svg.proofs.Appends.{where-ok, titled-appended}
use Rattle.sa_svg.proofs.drawing.push_shape.Goals as goal

pub returns-in_ok-push_stretch-in-Stretch : goal.returns-in_ok-push_stretch-in-Stretch
returns-in_ok-push_stretch-in-Stretch c =
    let title = stretch_title c.args.window c.args.items.now c.in-Stretch.stretch in
    let drawn = stretch_text c.args.layout c.in-Stretch.stretch in
    on_ok_weaker c.extend_from_slice-in-Stretch-2.result
    (λ all. titled-appended title drawn c.args.out.now.items c.extend_from_slice.new.self.items c.push_stretch_title.new.out.items c.extend_from_slice-in-Stretch.new.self.items
    c.push_stretch.new.out.items c.extend_from_slice-in-Stretch-2.new.self.items
    c.in_ok-extend_from_slice-in-Stretch.ensures.items c.in_ok-push_stretch_title-in-Stretch.ensures c.in_ok-extend_from_slice-in-Stretch-2.ensures.items c.in_ok-push_stretch-in-Stretch.ensures all
    ∙ ap (λ (s : Shape). c.args.out.now.items ++ shape_text c.args.layout c.args.window c.args.items.now s) (sym c.in-Stretch.is))
    (where-ok c.extend_from_slice-in-Stretch-2.result c.extend_from_slice-in-Stretch-2.new.self.items (c.push_stretch.new.out.items ++ codes "</g>\n") c.push_stretch.new.out.items c.extend_from_slice-in-Stretch-2.ensures.items)

pub returns-in_ok-push_mark-in-Mark : goal.returns-in_ok-push_mark-in-Mark
returns-in_ok-push_mark-in-Mark c =
    let title = line_of c.in-Mark.mark.item in
    let drawn = mark_text c.args.layout c.in-Mark.mark in
    on_ok_weaker c.extend_from_slice-in-Mark-3.result
    (λ all. titled-appended title drawn c.args.out.now.items c.extend_from_slice-in-Mark.new.self.items c.append_line.new.out.items c.extend_from_slice-in-Mark-2.new.self.items
    c.push_mark.new.out.items c.extend_from_slice-in-Mark-3.new.self.items
    c.in_ok-extend_from_slice-in-Mark.ensures.items c.in_ok-append_line-in-Mark.ensures c.in_ok-extend_from_slice-in-Mark-2.ensures.items c.in_ok-push_mark-in-Mark.ensures all
    ∙ ap (λ (s : Shape). c.args.out.now.items ++ shape_text c.args.layout c.args.window c.args.items.now s) (sym c.in-Mark.is))
    (where-ok c.extend_from_slice-in-Mark-3.result c.extend_from_slice-in-Mark-3.new.self.items (c.push_mark.new.out.items ++ codes "</g>\n") c.push_mark.new.out.items c.extend_from_slice-in-Mark-3.ensures.items)
