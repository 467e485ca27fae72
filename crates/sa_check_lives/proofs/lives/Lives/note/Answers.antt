use Rattle.std.proofs.lemmas.Grind.{common_steps}
use Rattle.std.proofs.Common.{◌≡◌, ◌∙◌, ap, arith}
use Rattle.sa_check_lives.specs.Rows.{without_last}
use Rattle.sa_check_lives.specs.Table.{lives_in}
use Rattle.sa_check_lives.specs.View.{Stored, lives_of}
use Rattle.sa_check_lives.proofs.RowLemmas.{undone}
use Rattle.sa_check_lives.proofs.ViewLemmas.{view-same}
use Rattle.sa_check_lives.proofs.lives.Lives.note.Goals as goal

pub returns-in-Err-clause-err : goal.returns-in-Err-clause-err
returns-in-Err-clause-err c =
    let rows : c.undo.new.rows.items ≡ c.self.inside.untold.items =
    c.undo.ensures ∙ ap (λ rows. without_last rows c.args.s) c.in_ok-add.ensures.ok ∙ undone c.self.inside.untold.items c.args.s c.args.note in
    view-same (lives_of c.args.self.now) _
    (c.in-Err.ensures.err ∙ ap (λ (v : Stored). lives_in v.table) c.self.view_is)
    (ap (λ (v : Stored). v.running) c.self.view_is)
    (ap (λ (v : Stored). v.taken) c.self.view_is)
    (rows ∙ ap (λ (v : Stored). v.untold) c.self.view_is)
    (ap (λ (v : Stored). v.upped) c.self.view_is)

pub returns-in_err-add-clause-ok : goal.returns-in_err-add-clause-ok
returns-in_err-add-clause-ok c = grind (arith, common_steps)

pub returns-in_err-add-clause-err : goal.returns-in_err-add-clause-err
returns-in_err-add-clause-err c = grind (arith, common_steps)

pub change-requires : goal.change-requires
change-requires c = grind (arith, common_steps)

pub returns-in-Ok-clause-ok : goal.returns-in-Ok-clause-ok
returns-in-Ok-clause-ok c = grind (arith, common_steps)

pub returns-in-Ok-clause-err : goal.returns-in-Ok-clause-err
returns-in-Ok-clause-err c = grind (arith, common_steps)

pub returns-in-Err-clause-ok : goal.returns-in-Err-clause-ok
returns-in-Err-clause-ok c = grind (arith, common_steps)
