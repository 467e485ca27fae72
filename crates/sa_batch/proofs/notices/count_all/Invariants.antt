use Rattle.std.proofs.Common.{◌≡◌, ◌+◌, length, map, drop, sum_by}
use Rattle.sa_batch.specs.Notices.{notes_of}
use Rattle.sa_batch.proofs.notices.count_all.Given as goal

-- what is left to be counted makes up the rest
abbrev pub invariant-loop-i : goal.invariant-loop-i
invariant-loop-i l = l.count + sum_by length (drop l.i (map notes_of l.batches.items)) ≡ sum_by length (map notes_of l.batches.items)
