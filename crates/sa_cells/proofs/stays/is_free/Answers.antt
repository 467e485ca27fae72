use Rattle.std.proofs.Common.{◌≡◌, true, List, sym, subst}
use Rattle.sa_base.specs.declared.number.ActNo.{ActNo}
use Rattle.sa_check_moment.specs.Seen.{seen}
use Rattle.sa_cells.specs.declared.cell.Cell.{Cell}
use Rattle.sa_cells.specs.Text.{text_of}
use Rattle.sa_cells.proofs.stays.is_free.Goals as goal

pub returns-in-Holder : goal.returns-in-Holder
returns-in-Holder c =
    subst (λ (x : Cell). (ups : List ActNo) → c.nobody_has.result ≡ true → text_of ups (seen c.args.old.now) x ≡ text_of ups (seen c.args.new.now) x)
    (sym c.in-Holder.is) c.nobody_has.ensures
