use Rattle.std.proofs.Common.{ap, ◌∙◌}
use Rattle.std.proofs.lemmas.Result.{err_from_is_err_and}
use Rattle.sa_check_lives.specs.Table.{lives_among}
use Rattle.sa_check_lives.proofs.PlaceLemmas.{put-there, added-last}
use Rattle.sa_check_lives.proofs.shelves.Shelf.insert.Goals as goal

pub returns-in-Some-clause-ok : goal.returns-in-Some-clause-ok
returns-in-Some-clause-ok c = put-there c.self.inside.lives.items c.args.self.now c.self.view_is c.as_slice.result.now c.as_slice.ensures.value c.args.a.0 c.place_of.result c.place_of.ensures
    c.in-Some.place c.in-Some.is c.index_mut.result.now c.index_mut.ensures.value
    c.args.life

pub returns-in_ok-push-in-None-clause-ok : goal.returns-in_ok-push-in-None-clause-ok
returns-in_ok-push-in-None-clause-ok c = added-last c.self.inside.lives.items c.args.self.now c.self.view_is c.as_slice.result.now c.as_slice.ensures.value c.args.a.0 c.place_of.result c.place_of.ensures
    c.args.life c.push.new.self.items c.in_ok-push-in-None.ensures.items c.in-None.is

pub returns-in_err-push-in-None-clause-err : goal.returns-in_err-push-in-None-clause-err
returns-in_err-push-in-None-clause-err c =
    let p = err_from_is_err_and c.from_residual.result c.from_residual.ensures.1 in
    rw p.1 (ap lives_among (c.in_err-push-in-None.ensures.items ∙ c.self.view_is))
