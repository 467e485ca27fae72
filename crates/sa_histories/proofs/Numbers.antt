-- The events of a history have consecutive numbers.
use Rattle.std.proofs.Common.{◌≡◌, ◌+◌, ap}
use Rattle.sa_spaces.specs.Workload.{WorkloadView}
use Rattle.sa_laws.specs.Event.{Event}
use Rattle.sa_laws.specs.Readings.{Readings}
use Rattle.sa_laws.specs.History.{after_event, event_begun}
use Rattle.sa_laws.specs.Rules.{UserRules}
use Rattle.sa_laws.proofs.Records.{number-kept}

pub number-next : (u : UserRules) (w : WorkloadView) (r : Readings) (e : Event) → (after_event u.inside w r e).number ≡ r.number + 1
number-next u w r e = ap (λ n. n + 1) (number-kept w e.number e.proc (event_begun w e r) e.records)
