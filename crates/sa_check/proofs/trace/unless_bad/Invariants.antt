use Rattle.std.proofs.Common.{◌≡◌, length}
use Rattle.sa_trace.specs.Reader.{with_said, left}
use Rattle.sa_check.specs.Verdict.{unless_bad}
use Rattle.sa_check.proofs.trace.unless_bad.Given as goal

-- the rest from here is good or bad as all of it is
abbrev pub invariant-loop-now : goal.invariant-loop-now
invariant-loop-now l = unless_bad (with_said l.now (left l.reader)) l.found ≡ unless_bad (with_said l.fn.said (left l.fn.reader)) l.found

abbrev pub decreases-loop-now : goal.decreases-loop-now
decreases-loop-now l = length l.reader.lines
