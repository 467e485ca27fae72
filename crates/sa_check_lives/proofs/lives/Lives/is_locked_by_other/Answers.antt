use Rattle.std.proofs.Common.{sym, ◌∙◌, ap, refl}
use Rattle.sa_check_lives.specs.Table.{lives_in}
use Rattle.sa_check_lives.specs.View.{Stored}
use Rattle.sa_check_lives.proofs.lives.Lives.is_locked_by_other.Goals as goal

pub returns : goal.returns
returns c = λ r same. c.is_locked.ensures.other r c.args.a (same ∙ ap (λ (v : Stored). lives_in v.table) (sym c.self.view_is)) refl
