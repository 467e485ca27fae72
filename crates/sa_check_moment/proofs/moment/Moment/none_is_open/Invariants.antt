use Rattle.std.proofs.Common.{take}
use Rattle.std.specs.Prelude.{All}
use Rattle.sa_laws.specs.Readings.{Listed, IsLocked}
use Rattle.sa_check_moment.specs.Seen.{seen}
use Rattle.sa_check_moment.proofs.moment.Moment.none_is_open.Given as goal

-- the lists of those that were looked at are locked
abbrev pub invariant-loop-x : goal.invariant-loop-x
invariant-loop-x l = All (λ (x : Listed). IsLocked (seen l.self).readings l.s x.list) (take l.x-index l.x-items)
