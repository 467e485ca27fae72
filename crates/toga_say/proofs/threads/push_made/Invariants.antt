use Rattle.std.proofs.Common.{◌≡◌, ◌++◌}
use Rattle.sa_waits.specs.Waits.{all_below}
use Rattle.toga_say.specs.Threads.{one_at}
use Rattle.toga_say.proofs.threads.push_made.Given as goal

abbrev pub invariant-loop-t : goal.invariant-loop-t
invariant-loop-t l = l.made.items ≡ l.initial.made.items ++ all_below (one_at l.s) l.t
