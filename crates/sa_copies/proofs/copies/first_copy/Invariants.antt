use Rattle.std.proofs.Common.{◌≡◌, drop}
use Rattle.sa_copies.specs.Copies.{behind_last_leave}
use Rattle.sa_copies.proofs.copies.first_copy.Given as goal

-- the operations to come lead from the last end so far to the last of all
abbrev pub invariant-loop-place : goal.invariant-loop-place
invariant-loop-place l = behind_last_leave l.place l.first (drop l.place l.ops) ≡ behind_last_leave 0 0 l.ops
