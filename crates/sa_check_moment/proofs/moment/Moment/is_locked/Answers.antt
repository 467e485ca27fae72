use Rattle.std.proofs.Common.{sym, ap, ◌∙◌}
use Rattle.sa_check_moment.specs.declared.moment.Parts.{Parts}
use Rattle.sa_check_lives.specs.Table.{lives_in}
use Rattle.sa_check_moment.specs.Seen.{Kept, seen}
use Rattle.sa_check_moment.proofs.moment.Moment.is_locked.Goals as goal

pub returns : goal.returns
unfolding seen
returns c =
    c.is_locked.ensures (seen c.args.self.now).readings
    (ap (λ (m : Kept). lives_in m.lives.table) (sym c.self.view_is) ∙ ap (λ (m : Parts). lives_in m.lives.table) (sym c.deref.ensures))
