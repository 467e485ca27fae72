use Rattle.std.proofs.Common.{arith, None}
use Rattle.sa_check_lives.proofs.ShelfLemmas.{shelf-put}
use Rattle.sa_check_lives.proofs.shelves.Shelves.remove.Goals as goal

pub returns : goal.returns
returns c =
    shelf-put c.self.inside.shelves.items c.args.self.now c.self.view_is c.shelf_of.result c.index_mut.result.now c.remove.new.self
    (omega (arith, c.shelf_of.ensures.within, c.self.invariant)) c.index_mut.ensures.value
    c.args.a.0 (λ _. None) c.shelf_of.ensures.shelf c.remove.ensures
