use Rattle.std.proofs.Common.{◌≢◌, take, All}
use Rattle.sa_trace.proofs.reader.bytes_of_line.Given as goal

abbrev pub invariant-loop-end : goal.invariant-loop-end
invariant-loop-end l = All (λ b. b ≢ 10) (take l.end l.text)
