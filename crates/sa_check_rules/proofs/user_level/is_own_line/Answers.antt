use Rattle.std.proofs.Common.{sym, ◌∙◌}
use Rattle.std.proofs.lemmas.Bool.{false≢true}
use Rattle.std.proofs.lemmas.Option.{none-some}
use Rattle.sa_check_rules.proofs.user_level.is_own_line.Goals as goal

pub returns-in-None : goal.returns-in-None
returns-in-None c =
    (λ yes. absurd (false≢true yes), λ is. absurd (none-some is.space (c.in-None.ensures ∙ is.owned)))

pub returns-in-Some : goal.returns-in-Some
returns-in-Some c = let found = c.is_own_line_in.ensures in (
  λ yes. let three = found.0 yes in record { apart = three.0; space = c.in-Some.s; owned = sym c.in-Some.ensures; other = three.1; asked = three.2 },
  λ is. found.1 (is.apart, is.other ∙ sym (c.in-Some.ensures ∙ is.owned), is.asked),
)
