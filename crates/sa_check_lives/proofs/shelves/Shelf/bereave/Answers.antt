use Rattle.std.proofs.Common.{sym, ◌∙◌, ap, Some}
use Rattle.sa_laws.specs.Life.{bereft}
use Rattle.sa_check_lives.proofs.PlaceLemmas.{absent, kept-absent, found-there, changed-there}
use Rattle.sa_check_lives.proofs.shelves.Shelf.bereave.Goals as goal

pub returns-in_err-place-clause-was : goal.returns-in_err-place-clause-was
returns-in_err-place-clause-was c =
    c.from_residual.ensures
    ∙ sym (absent c.self.inside.lives.items c.args.self.now c.self.view_is c.as_slice.result.now c.as_slice.ensures.value c.args.a.0 c.place_of.result c.place_of.ensures c.in_err-place.was)

pub returns-in_err-place-clause-now : goal.returns-in_err-place-clause-now
returns-in_err-place-clause-now c = kept-absent c.self.inside.lives.items c.args.self.now c.self.view_is c.as_slice.result.now c.as_slice.ensures.value c.args.a.0 c.place_of.result c.place_of.ensures
    bereft c.in_err-place.was

pub returns-clause-was : goal.returns-clause-was
returns-clause-was c =
    ap (λ x. Some x) c.bereave.ensures.was
    ∙ sym (found-there c.self.inside.lives.items c.args.self.now c.self.view_is c.as_slice.result.now c.as_slice.ensures.value c.args.a.0 c.place_of.result c.place_of.ensures
    c.in_ok-place.place c.in_ok-place.was c.index_mut.result.now c.index_mut.ensures.value)

pub returns-clause-now : goal.returns-clause-now
returns-clause-now c = changed-there c.self.inside.lives.items c.args.self.now c.self.view_is c.as_slice.result.now c.as_slice.ensures.value c.args.a.0 c.place_of.result c.place_of.ensures
    c.in_ok-place.place c.in_ok-place.was c.index_mut.result.now c.index_mut.ensures.value
    bereft c.bereave.new.self c.bereave.ensures.now
