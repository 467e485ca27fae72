use Rattle.std.proofs.Common.{◌≡◌, List, true, sym, subst, ◌∙◌}
use Rattle.std.specs.List.{list_all}
use Rattle.sa_base.specs.declared.record.Record.{Record}
use Rattle.sa_laws.specs.Shape.{is_of_closing}
use Rattle.sa_laws.proofs.Closings.{closing-opening}
use Rattle.sa_check.proofs.opening.is_opening.Goals as goal

pub are_same-requires : goal.are_same-requires
are_same-requires c =
    subst (λ (xs : List Record). list_all is_of_closing xs ≡ true) (sym (c.as_slice.ensures.value ∙ c.in_ok-opening.ensures))
    (closing-opening c.args.workload.now)
