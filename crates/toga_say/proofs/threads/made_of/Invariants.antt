use Rattle.std.proofs.Common.{◌≡◌}
use Rattle.sa_waits.specs.Waits.{all_below}
use Rattle.toga_say.specs.Threads.{made_in}
use Rattle.toga_say.proofs.threads.made_of.Given as goal

abbrev pub invariant-loop-s : goal.invariant-loop-s
invariant-loop-s l = l.made.items ≡ all_below (made_in l.replay.state) l.s
