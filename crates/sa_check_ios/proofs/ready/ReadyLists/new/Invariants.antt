use Rattle.std.proofs.Common.{◌≡◌, [], ◌∷◌, replicate}
use Rattle.sa_laws.specs.Readings.{first_listed}
use Rattle.sa_check_ios.proofs.ready.ReadyLists.new.Given as goal

abbrev pub invariant-loop : goal.invariant-loop
invariant-loop l = l.rows.items ≡ replicate l.counter (first_listed ∷ [])
