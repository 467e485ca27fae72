use Rattle.std.proofs.Common.{◌≡◌, drop}
use Rattle.sa_check_moment.specs.Seen.{seen}
use Rattle.sa_cells.specs.Space.{holder_in}
use Rattle.sa_cells.proofs.space.holder_in.Given as goal

-- none of the lives so far has the lock
abbrev pub invariant-loop-a : goal.invariant-loop-a
invariant-loop-a l = holder_in (seen l.moment).readings l.s l.l l.acts ≡ holder_in (seen l.moment).readings l.s l.l (drop l.a-index l.acts)
