use Rattle.std.proofs.Common.{◌≡◌, drop}
use Rattle.sa_cells.specs.Space.{lock_among}
use Rattle.sa_cells.proofs.space.lock_among.Given as goal

-- none of the locks so far is of the list
abbrev pub invariant-loop-lock : goal.invariant-loop-lock
invariant-loop-lock l = lock_among l.l l.locks ≡ lock_among l.l (drop l.lock-index l.locks)
