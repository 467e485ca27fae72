use Rattle.std.proofs.Common.{◌≡◌, ℕ, ◌+◌, ◌-◌, ◌≤◌, List, ◌++◌, length, drop}
use Rattle.std.specs.Io.KnownBytes.{Consumes}
use Rattle.sa_lines_in.specs.declared.line.TheConstants.{LINE_LIMIT}
use Rattle.sa_lines_in.specs.Reading.{IsNeeded}
use Rattle.sa_lines_in.proofs.reader.LineReader.next_line.Given as goal

-- what came so far is behind what was kept, and was needed
abbrev pub invariant-loop-len : goal.invariant-loop-len
invariant-loop-len g l = record {
  got : List ℕ;
  taken : Consumes (g.S.Source.left l.initial.source) (g.S.Source.left l.source) got;
  kept : l.self ≡ l.initial.self ++ got;
  needed : IsNeeded l.initial.self got;
  counted : g.S.Source.faults l.initial.source ≤ g.S.Source.faults l.source;
}

abbrev pub decreases-loop-len : goal.decreases-loop-len
decreases-loop-len g l = LINE_LIMIT + 1 - length l.self
