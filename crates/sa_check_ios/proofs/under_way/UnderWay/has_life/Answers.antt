use Rattle.std.proofs.Common.{ap, ◌∙◌}
use Rattle.std.specs.List.{list_any}
use Rattle.std.specs.Option.{is_some}
use Rattle.sa_devices.specs.Ios.{Io}
use Rattle.sa_laws.specs.Record.{is_io_of}
use Rattle.sa_check_ios.proofs.Found.{some-find-map}
use Rattle.sa_check_ios.proofs.under_way.UnderWay.has_life.Goals as goal

pub returns : goal.returns
returns c =
    c.is_some.ensures ∙ ap is_some c.first_of_life.ensures ∙ some-find-map (λ (io : Io). io.kind) (is_io_of c.args.a) c.as_slice.result.now
    ∙ ap (list_any (is_io_of c.args.a)) (c.as_slice.ensures.value ∙ c.self.view_is)
