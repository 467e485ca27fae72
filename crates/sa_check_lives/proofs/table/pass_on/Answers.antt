use Rattle.std.proofs.Common.{sym}
use Rattle.std.proofs.lemmas.Result.{on_ok_weaker, on_err_weaker}
use Rattle.sa_check_lives.specs.Table.{lives_in}
use Rattle.sa_check_lives.proofs.MapLemmas.{passed, put-back}
use Rattle.sa_check_lives.proofs.table.pass_on.Goals as goal

pub returns-in-Some-upped-clause-ok : goal.returns-in-Some-upped-clause-ok
returns-in-Some-upped-clause-ok c = on_ok_weaker c.pass_to.result
    (passed c.args.upped c.in-Some-upped.to c.args.a c.in-Some.from (lives_in c.args.lives.now) (lives_in c.bereave.new.self) (lives_in c.pass_to.new.lives)
    c.in-Some-upped.is (sym c.in-Some.ensures.was) c.bereave.ensures.now)
    c.pass_to.ensures.ok

pub returns-in-Some-upped-clause-err : goal.returns-in-Some-upped-clause-err
returns-in-Some-upped-clause-err c = on_err_weaker c.pass_to.result
    (put-back c.args.a c.in-Some.from (lives_in c.args.lives.now) (lives_in c.bereave.new.self) (lives_in c.pass_to.new.lives)
    (sym c.in-Some.ensures.was) c.bereave.ensures.now)
    c.pass_to.ensures.err
