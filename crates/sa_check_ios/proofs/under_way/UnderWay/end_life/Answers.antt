use Rattle.std.proofs.Common.{sym, subst, List, Option, IfSome, ◌∙◌, ap}
use Rattle.std.specs.Prelude.{find}
use Rattle.std.specs.Option.{option_map}
use Rattle.std.proofs.lemmas.List.Elements.{All-filter}
use Rattle.sa_devices.specs.declared.kind.IoKind.{IoKind}
use Rattle.sa_devices.specs.Ios.{Io}
use Rattle.sa_laws.specs.Record.{is_io_of, is_io_of_other}
use Rattle.sa_devices.specs.Pages.{HasPage}
use Rattle.sa_check_ios.specs.Kept.{soonest_of}
use Rattle.sa_check_ios.proofs.Soonest.{page-find, HavePages}
use Rattle.sa_check_ios.proofs.under_way.UnderWay.end_life.Goals as goal

pub invariant_of-self : goal.invariant_of-self
invariant_of-self c =
    let ios = c.self.inside.ios.items in (
      c.soonest_of-self-inside.ensures ∙ ap soonest_of c.as_slice-2.ensures.value,
      subst HavePages (sym c.drop_life.ensures) (All-filter (is_io_of_other c.args.a) (λ (io : Io). HasPage io.kind) ios c.self.invariant.1),
    )

pub returns-clause-page : goal.returns-clause-page
returns-clause-page c =
    subst (λ (o : Option IoKind). IfSome o HasPage)
    (sym (c.first_of_life-over.ensures ∙ ap (λ (ios : List Io). option_map (λ (io : Io). io.kind) (find (is_io_of c.args.a) ios)) c.as_slice.ensures.value))
    (page-find (is_io_of c.args.a) c.self.inside.ios.items c.self.invariant.1)
