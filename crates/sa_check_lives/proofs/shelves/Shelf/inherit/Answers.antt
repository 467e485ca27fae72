use Rattle.std.proofs.Common.{arith}
use Rattle.std.proofs.lemmas.Grind.{common_steps}
use Rattle.std.proofs.lemmas.Result.{on_ok_weaker, on_err_weaker}
use Rattle.sa_laws.specs.Life.{inherits}
use Rattle.sa_check_lives.proofs.PlaceLemmas.{kept-absent, changed-there, kept-there}
use Rattle.sa_check_lives.proofs.shelves.Shelf.inherit.Goals as goal

pub returns-in_default-clause-ok : goal.returns-in_default-clause-ok
returns-in_default-clause-ok c = kept-absent c.self.inside.lives.items c.args.self.now c.self.view_is c.as_slice.result.now c.as_slice.ensures.value c.args.a.0 c.place_of.result c.place_of.ensures
    (inherits c.args.from.now) c.in_default.is

pub returns-clause-ok : goal.returns-clause-ok
returns-clause-ok c = on_ok_weaker c.inherit.result
    (changed-there c.self.inside.lives.items c.args.self.now c.self.view_is c.as_slice.result.now c.as_slice.ensures.value c.args.a.0 c.place_of.result c.place_of.ensures
    c.in-Some.place c.in-Some.is c.index_mut.result.now c.index_mut.ensures.value
    (inherits c.args.from.now) c.inherit.new.self)
    c.inherit.ensures.ok

pub returns-clause-err : goal.returns-clause-err
returns-clause-err c = on_err_weaker c.inherit.result
    (kept-there c.self.inside.lives.items c.args.self.now c.self.view_is c.as_slice.result.now c.as_slice.ensures.value c.args.a.0 c.place_of.result c.place_of.ensures
    c.in-Some.place c.in-Some.is c.index_mut.result.now c.index_mut.ensures.value
    c.inherit.new.self)
    c.inherit.ensures.err

pub place_of-requires : goal.place_of-requires
place_of-requires c = grind (arith, common_steps)

pub returns-in_default-clause-err : goal.returns-in_default-clause-err
returns-in_default-clause-err c = grind (arith, common_steps)

pub index_mut-requires : goal.index_mut-requires
index_mut-requires c = grind (arith, common_steps)

pub inherit-requires : goal.inherit-requires
inherit-requires c = grind (arith, common_steps)
