use Rattle.std.proofs.Common.{sym, subst, List, Some, ◌≡◌}
use Rattle.std.proofs.lemmas.List.Elements.{All-push}
use Rattle.sa_devices.specs.Ios.{Io}
use Rattle.sa_devices.specs.Pages.{HasPage}
use Rattle.sa_check_ios.specs.Kept.{soonest_of}
use Rattle.sa_check_ios.proofs.Soonest.{soonest-push, HavePages}
use Rattle.sa_check_ios.proofs.under_way.UnderWay.begin.Goals as goal

pub invariant_of-self-2 : goal.invariant_of-self-2
invariant_of-self-2 c =
    let ios = c.self.inside.ios.items in
    subst (λ (xs : List Io). (Some c.nearer.result ≡ soonest_of xs) × HavePages xs) (sym c.in_ok-push.ensures.items) (
      soonest-push ios c.args.io c.self.inside.soonest c.nearer.result c.self.invariant.0 c.nearer.ensures,
      All-push (λ (io : Io). HasPage io.kind) ios c.args.io c.self.invariant.1 c.requires,
    )
