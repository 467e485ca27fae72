use Rattle.std.proofs.Common.{arith}
use Rattle.std.specs.Option.{option_map}
use Rattle.sa_laws.specs.Life.{bereft}
use Rattle.sa_check_lives.proofs.MapLemmas.{on-none}
use Rattle.sa_check_lives.proofs.ShelfLemmas.{shelf-put, shelf-kept}
use Rattle.sa_check_lives.proofs.shelves.Shelves.bereave.Goals as goal

pub returns-clause-now : goal.returns-clause-now
returns-clause-now c =
    shelf-put c.self.inside.shelves.items c.args.self.now c.self.view_is c.shelf_of.result c.index_mut.result.now c.bereave.new.self
    (omega (arith, c.shelf_of.ensures.within, c.self.invariant)) c.index_mut.ensures.value
    c.args.a.0 (option_map bereft) c.shelf_of.ensures.shelf c.bereave.ensures.now

pub returns-clause-none : goal.returns-clause-none
returns-clause-none c = on-none c.bereave.result
    (shelf-kept c.self.inside.shelves.items c.args.self.now c.self.view_is c.shelf_of.result c.index_mut.result.now c.bereave.new.self
    (omega (arith, c.shelf_of.ensures.within, c.self.invariant)) c.index_mut.ensures.value)
    c.bereave.ensures.none
