use Rattle.std.proofs.lemmas.Grind.{common_steps}
use Rattle.std.proofs.Common.{refl, arith}
use Rattle.sa_check_lives.proofs.PlaceLemmas.{kept-absent, changed-there}
use Rattle.sa_check_lives.proofs.shelves.Shelf.put_back.Goals as goal

pub returns-in_default : goal.returns-in_default
returns-in_default c = kept-absent c.self.inside.lives.items c.args.self.now c.self.view_is c.as_slice.result.now c.as_slice.ensures.value c.args.a.0 c.place_of.result c.place_of.ensures
    (λ _. c.args.life) c.in_default.is

pub returns : goal.returns
returns c = changed-there c.self.inside.lives.items c.args.self.now c.self.view_is c.as_slice.result.now c.as_slice.ensures.value c.args.a.0 c.place_of.result c.place_of.ensures
    c.in-Some.place c.in-Some.is c.index_mut.result.now c.index_mut.ensures.value
    (λ _. c.args.life) c.args.life refl

pub place_of-requires : goal.place_of-requires
place_of-requires c = grind (arith, common_steps)

pub index_mut-requires : goal.index_mut-requires
index_mut-requires c = grind (arith, common_steps)
