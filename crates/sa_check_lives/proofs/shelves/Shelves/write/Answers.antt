use Rattle.std.proofs.Common.{arith, sym, subst}
use Rattle.std.specs.Option.{option_map}
use Rattle.std.proofs.lemmas.Result.{on_ok_weaker, on_err_weaker, IfOk-weaker}
use Rattle.sa_check_lives.specs.Change.{changed_by}
use Rattle.sa_check_lives.specs.Table.{IsLost}
use Rattle.sa_check_lives.proofs.ShelfLemmas.{shelf-put, shelf-kept, here-after}
use Rattle.sa_check_lives.proofs.shelves.Shelves.write.Goals as goal

pub returns-clause-ok : goal.returns-clause-ok
returns-clause-ok c = on_ok_weaker c.write.result
    (shelf-put c.self.inside.shelves.items c.args.self.now c.self.view_is c.shelf_of.result c.index_mut.result.now c.write.new.self
    (omega (arith, c.shelf_of.ensures.within, c.self.invariant)) c.index_mut.ensures.value
    c.args.a.0 (option_map (changed_by c.args.change.now)) c.shelf_of.ensures.shelf)
    c.write.ensures.ok

pub returns-clause-err : goal.returns-clause-err
returns-clause-err c = on_err_weaker c.write.result
    (shelf-kept c.self.inside.shelves.items c.args.self.now c.self.view_is c.shelf_of.result c.index_mut.result.now c.write.new.self
    (omega (arith, c.shelf_of.ensures.within, c.self.invariant)) c.index_mut.ensures.value)
    c.write.ensures.err

pub returns-clause-lost : goal.returns-clause-lost
returns-clause-lost c = IfOk-weaker c.write.result _ _
    (λ lost is. subst (IsLost lost)
    (sym (here-after c.self.inside.shelves.items c.args.self.now c.self.view_is c.shelf_of.result c.index_mut.result.now c.write.new.self
    (omega (arith, c.shelf_of.ensures.within, c.self.invariant)) c.index_mut.ensures.value c.args.a.0 (sym c.shelf_of.ensures.shelf)))
    is)
    c.write.ensures.lost
