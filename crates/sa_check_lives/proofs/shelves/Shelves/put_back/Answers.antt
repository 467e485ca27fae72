use Rattle.std.proofs.Common.{arith}
use Rattle.std.specs.Option.{option_map}
use Rattle.sa_check_lives.proofs.ShelfLemmas.{shelf-put}
use Rattle.sa_check_lives.proofs.shelves.Shelves.put_back.Goals as goal

pub returns : goal.returns
returns c =
    shelf-put c.self.inside.shelves.items c.args.self.now c.self.view_is c.shelf_of.result c.index_mut.result.now c.put_back.new.self
    (omega (arith, c.shelf_of.ensures.within, c.self.invariant)) c.index_mut.ensures.value
    c.args.a.0 (option_map (λ _. c.args.life)) c.shelf_of.ensures.shelf c.put_back.ensures
