use Rattle.std.proofs.Common.{sym, subst, List, Option, IfSome, ◌∙◌, ap}
use Rattle.std.specs.Prelude.{find}
use Rattle.std.specs.Option.{option_map}
use Rattle.std.proofs.lemmas.List.Elements.{All-filter}
use Rattle.sa_devices.specs.declared.kind.IoKind.{IoKind}
use Rattle.sa_devices.specs.Ios.{Io, fetches}
use Rattle.sa_laws.specs.Record.{fetches_other}
use Rattle.sa_devices.specs.Pages.{HasPage}
use Rattle.sa_check_ios.specs.Kept.{soonest_of}
use Rattle.sa_check_ios.proofs.Soonest.{page-find, HavePages}
use Rattle.sa_check_ios.proofs.under_way.UnderWay.end_fetch.Goals as goal

pub invariant_of-self : goal.invariant_of-self
invariant_of-self c =
    let ios = c.self.inside.ios.items in (
      c.soonest_of-self-inside.ensures ∙ ap soonest_of c.as_slice-2.ensures.value,
      subst HavePages (sym c.drop_fetches.ensures) (All-filter (fetches_other c.args.s) (λ (io : Io). HasPage io.kind) ios c.self.invariant.1),
    )

pub returns-clause-page : goal.returns-clause-page
returns-clause-page c =
    subst (λ (o : Option IoKind). IfSome o HasPage)
    (sym (c.first_fetch-over.ensures ∙ ap (λ (ios : List Io). option_map (λ (io : Io). io.kind) (find (fetches c.args.s.0) ios)) c.as_slice.ensures.value))
    (page-find (fetches c.args.s.0) c.self.inside.ios.items c.self.invariant.1)
