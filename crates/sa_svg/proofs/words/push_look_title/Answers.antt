use Rattle.std.proofs.Common.{◌++◌, refl, ap}
use Rattle.std.specs.Prelude.{codes}
use Rattle.sa_shapes.specs.declared.look.Look.TheVariants.{Unowned, Thread, Package, List, Placed, GoesOn, Idle, Section}
use Rattle.sa_svg.specs.Words.{of_space, of_space_numbered}
use Rattle.sa_svg.proofs.Appends.{where-ok, look-as}
use Rattle.sa_svg.proofs.words.push_look_title.Goals as goal

pub returns-in-Unowned : goal.returns-in-Unowned
returns-in-Unowned c =
    look-as c.extend_from_slice.result c.args.out.now.items c.extend_from_slice.new.self.items (codes "owned by no space") c.args.look Unowned c.in-Unowned.is refl
    (where-ok c.extend_from_slice.result c.extend_from_slice.new.self.items (c.args.out.now.items ++ codes "owned by no space") c.args.out.now.items
    c.extend_from_slice.ensures.items)

pub returns-in-Thread : goal.returns-in-Thread
returns-in-Thread c =
    look-as c.push_of_space_numbered.result c.args.out.now.items c.push_of_space_numbered.new.out.items (of_space_numbered c.in-Thread.s (codes ": thread ") c.from.result) c.args.look
    (Thread c.in-Thread.s c.in-Thread.t) c.in-Thread.is (ap (of_space_numbered c.in-Thread.s (codes ": thread ")) c.from.ensures) c.push_of_space_numbered.ensures

pub returns-in-List : goal.returns-in-List
returns-in-List c =
    look-as c.push_of_space_numbered-in-List.result c.args.out.now.items c.push_of_space_numbered-in-List.new.out.items (of_space_numbered c.in-List.s (codes ": the package, list ") c.from-in-List.result) c.args.look
    (List c.in-List.s c.in-List.l) c.in-List.is (ap (of_space_numbered c.in-List.s (codes ": the package, list ")) c.from-in-List.ensures) c.push_of_space_numbered-in-List.ensures

pub returns-in-Package : goal.returns-in-Package
returns-in-Package c =
    look-as c.push_of_space.result c.args.out.now.items c.push_of_space.new.out.items (of_space c.in-Package.s (codes ": the package")) c.args.look (Package c.in-Package.s) c.in-Package.is refl
    c.push_of_space.ensures

pub returns-in-Placed : goal.returns-in-Placed
returns-in-Placed c =
    look-as c.push_of_space-in-Placed.result c.args.out.now.items c.push_of_space-in-Placed.new.out.items (of_space c.in-Placed.s (codes ": a virtual processor is placed")) c.args.look (Placed c.in-Placed.s) c.in-Placed.is refl
    c.push_of_space-in-Placed.ensures

pub returns-in-GoesOn : goal.returns-in-GoesOn
returns-in-GoesOn c =
    look-as c.push_of_space-in-GoesOn.result c.args.out.now.items c.push_of_space-in-GoesOn.new.out.items (of_space c.in-GoesOn.s (codes ": a virtual processor goes on")) c.args.look (GoesOn c.in-GoesOn.s) c.in-GoesOn.is refl
    c.push_of_space-in-GoesOn.ensures

pub returns-in-Idle : goal.returns-in-Idle
returns-in-Idle c =
    look-as c.push_of_space-in-Idle.result c.args.out.now.items c.push_of_space-in-Idle.new.out.items (of_space c.in-Idle.s (codes ": a look in vain")) c.args.look (Idle c.in-Idle.s) c.in-Idle.is refl
    c.push_of_space-in-Idle.ensures

pub returns-in-Section : goal.returns-in-Section
returns-in-Section c =
    look-as c.push_of_space-in-Section.result c.args.out.now.items c.push_of_space-in-Section.new.out.items (of_space c.in-Section.s (codes ": a section in its copy")) c.args.look (Section c.in-Section.s) c.in-Section.is refl
    c.push_of_space-in-Section.ensures
