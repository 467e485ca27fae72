use Rattle.std.proofs.Common.{refl, sym, subst}
use Rattle.std.proofs.lemmas.Result.{on_ok_weaker, on_err_weaker, IfOk-weaker}
use Rattle.sa_check_lives.specs.Change.{changed_by}
use Rattle.sa_check_lives.specs.Table.{IsLost}
use Rattle.sa_check_lives.proofs.PlaceLemmas.{absent, kept-absent, changed-there, kept-there, there-now}
use Rattle.sa_check_lives.proofs.shelves.Shelf.write.Goals as goal

pub returns-in_default-clause-ok : goal.returns-in_default-clause-ok
returns-in_default-clause-ok c = kept-absent c.self.inside.lives.items c.args.self.now c.self.view_is c.as_slice.result.now c.as_slice.ensures.value c.args.a.0 c.place_of.result c.place_of.ensures
    (changed_by c.args.change.now) c.in_default.is

pub returns-clause-ok : goal.returns-clause-ok
returns-clause-ok c = on_ok_weaker c.write.result
    (changed-there c.self.inside.lives.items c.args.self.now c.self.view_is c.as_slice.result.now c.as_slice.ensures.value c.args.a.0 c.place_of.result c.place_of.ensures
    c.in-Some.place c.in-Some.is c.index_mut.result.now c.index_mut.ensures.value
    (changed_by c.args.change.now) c.write.new.self)
    c.write.ensures.ok

pub returns-clause-err : goal.returns-clause-err
returns-clause-err c = on_err_weaker c.write.result
    (kept-there c.self.inside.lives.items c.args.self.now c.self.view_is c.as_slice.result.now c.as_slice.ensures.value c.args.a.0 c.place_of.result c.place_of.ensures
    c.in-Some.place c.in-Some.is c.index_mut.result.now c.index_mut.ensures.value
    c.write.new.self)
    c.write.ensures.err

pub returns-in_default-clause-lost : goal.returns-in_default-clause-lost
returns-in_default-clause-lost c =
    let none = absent c.self.inside.lives.items c.args.self.now c.self.view_is c.as_slice.result.now c.as_slice.ensures.value c.args.a.0 c.place_of.result c.place_of.ensures c.in_default.is in
    record { lock = λ life is has. refl; inside = λ life is has. refl }

pub returns-clause-lost : goal.returns-clause-lost
returns-clause-lost c = IfOk-weaker c.write.result _ _
    (λ lost is. subst (IsLost lost) (sym (there-now c.self.inside.lives.items c.args.self.now c.self.view_is c.as_slice.result.now c.as_slice.ensures.value c.args.a.0 c.place_of.result c.place_of.ensures
    c.in-Some.place c.in-Some.is c.index_mut.result.now c.index_mut.ensures.value
    c.write.new.self)) is)
    c.write.ensures.lost
