use Rattle.std.specs.Prelude.{codes}
use Rattle.sa_svg.proofs.Appends.{opened-as}
use Rattle.sa_svg.proofs.head.push_opening.Goals as goal

pub returns : goal.returns
returns c =
    opened-as c.push_tag.result c.args.out.now.items c.push_tag.new.out.items (codes "<svg xmlns=\"http://www.w3.org/2000/svg\"") c.args.layout
    c.width-width.result c.height-height.result c.width-width.ensures c.height-height.ensures c.push_tag.ensures
