use Rattle.std.proofs.Common.{◌≡◌, ◌++◌, take}
use Rattle.std.specs.List.{flat_map}
use Rattle.sa_cells.specs.Life.{lock_text}
use Rattle.sa_cells.proofs.life.push_locks.Given as goal

abbrev pub invariant-loop-lock : goal.invariant-loop-lock
invariant-loop-lock l = l.out.items ≡ l.initial.out.items ++ flat_map lock_text (take l.lock-index l.locks)
