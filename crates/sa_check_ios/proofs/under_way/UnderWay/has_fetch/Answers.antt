use Rattle.std.proofs.Common.{ap, ◌∙◌}
use Rattle.std.specs.List.{list_any}
use Rattle.std.specs.Option.{is_some}
use Rattle.sa_devices.specs.Ios.{Io, fetches}
use Rattle.sa_check_ios.proofs.Found.{some-find-map}
use Rattle.sa_check_ios.proofs.under_way.UnderWay.has_fetch.Goals as goal

pub returns : goal.returns
returns c =
    c.is_some.ensures ∙ ap is_some c.first_fetch.ensures ∙ some-find-map (λ (io : Io). io.kind) (fetches c.args.s.0) c.as_slice.result.now
    ∙ ap (list_any (fetches c.args.s.0)) (c.as_slice.ensures.value ∙ c.self.view_is)
