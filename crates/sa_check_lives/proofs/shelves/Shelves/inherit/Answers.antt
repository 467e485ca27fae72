use Rattle.std.proofs.Common.{arith}
use Rattle.std.specs.Option.{option_map}
use Rattle.std.proofs.lemmas.Result.{on_ok_weaker, on_err_weaker}
use Rattle.sa_laws.specs.Life.{inherits}
use Rattle.sa_check_lives.proofs.ShelfLemmas.{shelf-put, shelf-kept}
use Rattle.sa_check_lives.proofs.shelves.Shelves.inherit.Goals as goal

pub returns-clause-ok : goal.returns-clause-ok
returns-clause-ok c = on_ok_weaker c.inherit.result
    (shelf-put c.self.inside.shelves.items c.args.self.now c.self.view_is c.shelf_of.result c.index_mut.result.now c.inherit.new.self
    (omega (arith, c.shelf_of.ensures.within, c.self.invariant)) c.index_mut.ensures.value
    c.args.a.0 (option_map (inherits c.args.from.now)) c.shelf_of.ensures.shelf)
    c.inherit.ensures.ok

pub returns-clause-err : goal.returns-clause-err
returns-clause-err c = on_err_weaker c.inherit.result
    (shelf-kept c.self.inside.shelves.items c.args.self.now c.self.view_is c.shelf_of.result c.index_mut.result.now c.inherit.new.self
    (omega (arith, c.shelf_of.ensures.within, c.self.invariant)) c.index_mut.ensures.value)
    c.inherit.ensures.err
