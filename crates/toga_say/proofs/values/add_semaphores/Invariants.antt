use Rattle.std.proofs.Common.{◌≡◌, ◌++◌}
use Rattle.sa_waits.specs.Waits.{all_below}
use Rattle.toga_say.specs.Values.{semaphore_entry}
use Rattle.toga_say.proofs.values.add_semaphores.Given as goal

abbrev pub invariant-loop-place : goal.invariant-loop-place
invariant-loop-place l = l.entries.items ≡ l.initial.entries.items ++ all_below (semaphore_entry l.scene l.s l.own) l.place
