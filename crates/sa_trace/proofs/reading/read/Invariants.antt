use Rattle.std.proofs.Common.{◌≡◌, length}
use Rattle.sa_trace.specs.Reading.{read_of}
use Rattle.sa_trace.specs.Reader.{in_front, left}
use Rattle.sa_trace.proofs.reading.read.Given as goal

-- the items so far, and after them what is left to tell, are what the whole text tells
abbrev pub invariant-loop-item : goal.invariant-loop-item
invariant-loop-item l = read_of l.bytes ≡ in_front l.trace.items (left l.reader)

abbrev pub decreases-loop-item : goal.decreases-loop-item
decreases-loop-item l = length l.reader.lines
