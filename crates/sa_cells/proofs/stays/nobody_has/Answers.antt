use Rattle.std.proofs.Common.{not, sym, ◌∙◌, ap}
use Rattle.std.proofs.lemmas.Bool.{false≢true}
use Rattle.sa_check_moment.specs.Seen.{seen}
use Rattle.sa_cells.proofs.Same.{free-text}
use Rattle.sa_cells.proofs.stays.nobody_has.Goals as goal

pub returns : goal.returns
returns c = λ ups yes.
    free-text (seen c.args.old.now).readings ups c.args.s c.args.l (λ locked. false≢true (sym c.if-is_locked.false ∙ c.is_locked.ensures.1 locked))
    ∙ sym (free-text (seen c.args.new.now).readings ups c.args.s c.args.l (λ locked. false≢true (sym (ap not (c.is_locked-2.ensures.1 locked)) ∙ yes)))
