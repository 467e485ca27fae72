use Rattle.std.proofs.Common.{◌≡◌, take}
use Rattle.sa_check.proofs.choice.copy_of.Given as goal

abbrev pub invariant-loop-aim : goal.invariant-loop-aim
invariant-loop-aim l = l.copy.items ≡ take l.aim-index l.aims
