use Rattle.std.proofs.lemmas.Grind.{common_steps}
use Rattle.std.proofs.Common.{sym, ◌∙◌, ap, arith}
use Rattle.std.specs.Option.{option_copied}
use Rattle.sa_check_lives.proofs.PlaceLemmas.{absent, found-there}
use Rattle.sa_check_lives.proofs.shelves.Shelf.get.Goals as goal

pub returns-in_err-place : goal.returns-in_err-place
returns-in_err-place c =
    ap option_copied c.from_residual.ensures
    ∙ sym (absent c.self.inside.lives.items c.args.self.now c.self.view_is c.as_slice.result.now c.as_slice.ensures.value c.args.a c.place_of.result c.place_of.ensures c.in_err-place.was)

pub returns : goal.returns
returns c = sym (found-there c.self.inside.lives.items c.args.self.now c.self.view_is c.as_slice.result.now c.as_slice.ensures.value c.args.a c.place_of.result c.place_of.ensures
    c.in_ok-place.place c.in_ok-place.was c.index.result.now c.index.ensures)

pub place_of-requires : goal.place_of-requires
place_of-requires c = grind (arith, common_steps)

pub index-requires : goal.index-requires
index-requires c = grind (arith, common_steps)
