use Rattle.std.proofs.Common.{◌≡◌, length, map}
use Rattle.sa_text.specs.Line.{text_of_line}
use Rattle.sa_workload.specs.Position.{IsReached}
use Rattle.sa_workload.specs.Reading.{read_of, read_from}
use Rattle.sa_workload.specs.Stage.{position_of}
use Rattle.sa_workload.proofs.reader.read_versions.Given as goal

-- from the position after the lines so far, the lines that are left are read as the whole text is
abbrev pub invariant-loop-line : goal.invariant-loop-line
invariant-loop-line l =
    (l.lines.text ≡ l.bytes) × IsReached l.versions (position_of l.reader)
    × (read_of l.versions l.bytes ≡ read_from l.versions l.lines.number (position_of l.reader) (map (text_of_line l.bytes) l.lines.left))

abbrev pub decreases-loop-line : goal.decreases-loop-line
decreases-loop-line l = length l.lines.left
