use Rattle.sa_laws.specs.Life.{has_lock}
use Rattle.sa_check_lives.specs.Table.{lives_in, is_inside}
use Rattle.sa_check_lives.proofs.Among.{among-none}
use Rattle.sa_check_lives.proofs.table.Table.new.Goals as goal

pub invariant_of-result : goal.invariant_of-result
invariant_of-result c =
    let lives = lives_in c.in_ok-new.field-0 in
    (among-none has_lock lives _ c.in_ok-new.ensures, among-none is_inside lives _ c.in_ok-new.ensures)
