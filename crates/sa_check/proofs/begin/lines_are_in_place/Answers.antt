use Rattle.std.proofs.Common.{ap, sym, ◌∙◌}
use Rattle.sa_laws.specs.Shape.{aims_in}
use Rattle.sa_check.proofs.FoundLemmas.{nothing-found, something-found}
use Rattle.sa_check.proofs.begin.lines_are_in_place.Goals as goal

pub returns-then-first_is_asked : goal.returns-then-first_is_asked
returns-then-first_is_asked c =
    let first = c.first_is_asked.ensures in
    let same = ap aims_in c.last_lines.ensures in (
      λ yes. record { first = first.0 c.if-first_is_asked.true; order = sym same ∙ nothing-found _ c.has_aims.result c.has_aims.ensures yes },
      λ in_place. something-found _ c.has_aims.result c.has_aims.ensures (same ∙ in_place.order),
    )

pub returns-else-first_is_asked : goal.returns-else-first_is_asked
returns-else-first_is_asked c =
    let first = c.first_is_asked.ensures in (
      λ yes. let no = c.if-first_is_asked.false in cc,
      λ in_place. first.1 in_place.first,
    )
