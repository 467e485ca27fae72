use Rattle.std.proofs.Common.{◌≡◌, sym, subst, List, Bool, false}
use Rattle.std.specs.Prelude.{slice_set, filter}
use Rattle.sa_base.specs.declared.number.SpaceNo.{SpaceNo}
use Rattle.sa_devices.specs.Ios.{Io}
use Rattle.sa_laws.specs.Record.{fetches_other}
use Rattle.sa_check_ios.specs.Kept.{AreFetching}
use Rattle.sa_check_ios.proofs.Fetching.{AreFetching-over}
use Rattle.sa_check_ios.proofs.pending.Pending.end_of_fetch.Goals as goal

over : (fetching new : List Bool) (ios left : List Io) (s : SpaceNo) → AreFetching fetching ios → new ≡ slice_set fetching s.0 false
    → left ≡ filter (fetches_other s) ios → AreFetching new left
over fetching new ios left s are is rest =
    subst (λ (xs : List Bool). AreFetching xs left) (sym is)
    (subst (AreFetching (slice_set fetching s.0 false)) (sym rest) (AreFetching-over fetching ios s are))

pub invariant_of-self : goal.invariant_of-self
invariant_of-self c = over c.self.inside.fetching.items _ c.self.inside.ios _ c.args.s c.self.invariant c.set_at.ensures c.end_fetch-over.ensures.rest

pub invariant_of-self-in_default : goal.invariant_of-self-in_default
invariant_of-self-in_default c =
    over c.self.inside.fetching.items _ c.self.inside.ios _ c.args.s c.self.invariant c.set_at.ensures c.end_fetch-over.ensures.rest
