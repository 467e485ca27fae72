use Rattle.std.proofs.Common.{◌≢◌, take, All}
use Rattle.sa_text.proofs.scan.length_before.Given as goal

abbrev pub invariant-loop-i : goal.invariant-loop-i
invariant-loop-i l = All (λ b. b ≢ l.stop) (take l.i l.bytes)
