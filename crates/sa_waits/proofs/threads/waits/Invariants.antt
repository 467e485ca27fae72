use Rattle.std.proofs.Common.{◌≡◌}
use Rattle.sa_laws.specs.State.{space_at}
use Rattle.sa_waits.specs.Waits.{all_below, waits_in}
use Rattle.sa_waits.proofs.threads.waits.Given as goal

abbrev pub invariant-loop-s : goal.invariant-loop-s
invariant-loop-s l = l.waits.items ≡ all_below (λ s. waits_in (record { 0 = s }) (space_at l.replay.state (record { 0 = s }))) l.s
